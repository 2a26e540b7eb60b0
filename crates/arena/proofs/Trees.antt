-- Strings and elements: what an arena means after text or entries were put behind and a row was added.
use Rattle.std.proofs.Common.{◌≡◌, ℕ, ◌+◌, ◌-◌, ◌≤◌, true, ◌&&◌, List, [], ◌∷◌, ◌++◌, length, take, Ok, vec_items, Result, sym, refl, ap, ◌∙◌, arith, length-append, le-leb}
use Rattle.std.proofs.lemmas.List.{take_all, drop_at}
use Rattle.forest.specs.declared.fault.Fault.{Fault}
use Rattle.forest.specs.declared.space.Space.{Space}
use Rattle.forest.specs.Forests.{Item, element, forest, items, tag_lawful}
use Rattle.forest.specs.Stores.{Meaning, make, when, asked_element, less, picked, all_below}
use Rattle.forest.proofs.Items.{items-forest}
use Rattle.std.proofs.lemmas.Bool.{and_from}
use Rattle.forest.proofs.Picked.{length-picked}
use Rattle.forest.proofs.Making.{made}
use Rattle.arena.specs.declared.arena.Arena.{Arena}
use Rattle.arena.specs.declared.row.Row.{Row}
use Rattle.arena.specs.declared.row.Row.TheVariants.{Element}
use Rattle.arena.specs.declared.row.Span.{Span}
use Rattle.arena.specs.Rows.{part, within, row_item, sound}
use Rattle.arena.specs.Arenas.{trees_over, means_over, Added, Extended, behind}
use Rattle.arena.proofs.Builds.{sound_more, built-more}

-- what was put behind is there
pub part-behind : {X : Type 0} (xs more : List X) → part (behind xs more) (xs ++ more) ≡ more
part-behind xs more = ap (take (length more)) (drop_at xs more (length xs) refl) ∙ take_all (length more) more (omega arith)

pub within-behind : {X : Type 0} (xs more : List X) → within (behind xs more) (length (xs ++ more)) ≡ true
within-behind xs more = le-leb (length xs + length more) (length (xs ++ more)) (omega (arith, length-append xs more))

space-is : (s : Space) (k b : ℕ) → less (less s (record { trees = 0; children = k; bytes = b })) (record { trees = 1; children = 0; bytes = 0 }) ≡ less s (record { trees = 1; children = k; bytes = b })
space-is s k b =
    let x : s.trees - 0 - 1 ≡ s.trees - 1 = omega arith in
    let y : s.children - k - 0 ≡ s.children - k = omega arith in
    let z : s.bytes - b - 0 ≡ s.bytes - b = omega arith in
    cc

-- text or entries were put behind, then a row was added
both-steps : (a b c : Arena) (e t : List ℕ) (r : Row) (h : ℕ) → Extended a b e t → Added b c r h → (ts : List Item) → length ts ≡ a.base → trees_over ts c ≡ trees_over ts a ++ (row_item (trees_over ts a) (vec_items a.children ++ e) (vec_items a.text ++ t) r ∷ [])
both-steps a b c e t r h x y ts l =
    y.trees ts (l ∙ sym x.base) ∙ ap (λ us. us ++ (row_item us (vec_items b.children) (vec_items b.text) r ∷ [])) (x.trees ts)
    ∙ ap (λ es. trees_over ts a ++ (row_item (trees_over ts a) es (vec_items b.text) r ∷ [])) x.children
    ∙ ap (λ bs. trees_over ts a ++ (row_item (trees_over ts a) (vec_items a.children ++ e) bs r ∷ [])) x.text

pub long_kids : (us : List Item) (hs : List ℕ) → length (items (forest (picked us hs))) ≡ length hs
long_kids us hs = ap length (items-forest (picked us hs)) ∙ length-picked us hs

pub element-made : (l tag : ℕ) (a b c : Arena) (hs : List ℕ) (s : Span) (h : ℕ) → Extended a b hs [] → s ≡ behind (vec_items a.children) hs → Added b c (Element tag s) h → 1 ≤ a.space.trees → length hs ≤ a.space.children → tag_lawful tag ≡ true → (ts : List Item) → length ts ≡ a.base → all_below (length (trees_over ts a)) hs ≡ true → ◌≡◌ {A = Result ℕ Fault × Meaning} (Ok h, means_over ts c) (make l (asked_element (trees_over ts a) tag hs) (means_over ts a))
element-made l tag a b c hs s h x is y one room legal ts e below =
    let us = trees_over ts a in
    let i = element tag (forest (picked us hs)) in
    let kids : part s (vec_items a.children ++ hs) ≡ hs = ap (λ k. part k (vec_items a.children ++ hs)) is ∙ part-behind (vec_items a.children) hs in
    let ask : (tag_lawful tag && all_below (length us) hs) ≡ true = and_from _ _ legal below in
    let long = long_kids us hs in
    made l (means_over ts a) (means_over ts c) i h one (omega arith) (omega arith)
    (y.handle ts (e ∙ sym x.base) ∙ ap length (x.trees ts))
    (both-steps a b c hs [] (Element tag s) h x y ts e ∙ ap (λ k. us ++ (element tag (forest (picked us k)) ∷ [])) kids)
    (y.space ∙ ap (λ k. less k (record { trees = 1; children = 0; bytes = 0 })) x.space ∙ space-is a.space (length hs) 0 ∙ ap (λ n. less a.space (record { trees = 1; children = n; bytes = 0 })) (sym long))
    ∙ sym (ap (λ k. make l (when k i) (means_over ts a)) ask)

-- the row that names what was put behind is sound
pub string-good : (xs bs t : List ℕ) (s : Span) → s ≡ behind xs t → bs ≡ xs ++ t → within s (length bs) ≡ true
string-good xs bs t s is e = ap (λ k. within k (length bs)) is ∙ ap (λ ys. within (behind xs t) (length ys)) e ∙ within-behind xs t

pub element-good : (n tag : ℕ) (xs es hs : List ℕ) (s : Span) → s ≡ behind xs hs → es ≡ xs ++ hs → tag_lawful tag ≡ true → all_below n hs ≡ true → (tag_lawful tag && (within s (length es) && all_below n (part s es))) ≡ true
element-good n tag xs es hs s is e legal below =
    and_from _ _ legal (and_from _ _ (string-good xs es hs s is e) (ap (λ k. all_below n (part k es)) is ∙ ap (λ ys. all_below n (part (behind xs hs) ys)) e ∙ ap (all_below n) (part-behind xs hs) ∙ below))

-- entries and text that are put behind change nothing of what is there

pub stays_sound : (a : Arena) (es bs e t : List ℕ) → es ≡ vec_items a.children ++ e → bs ≡ vec_items a.text ++ t → sound a.base es bs (vec_items a.rows) ≡ true
stays_sound a es bs e t kids text = rw (kids, text) (sound_more a.base (vec_items a.children) (vec_items a.text) e t (vec_items a.rows) a.good)

pub extended : (a b : Arena) (e t : List ℕ) → b.base ≡ a.base → vec_items b.rows ≡ vec_items a.rows → vec_items b.children ≡ vec_items a.children ++ e → vec_items b.text ≡ vec_items a.text ++ t → b.space ≡ less a.space (record { trees = 0; children = length e; bytes = length t }) → Extended a b e t
extended a b e t base rows kids text space =
    record {
      base = base;
      rows = rows;
      children = kids;
      text = text;
      space = space;
      trees = λ ts. rw (rows, kids, text) (built-more a.base ts (vec_items a.children) (vec_items a.text) e t (vec_items a.rows) a.good);
    }
