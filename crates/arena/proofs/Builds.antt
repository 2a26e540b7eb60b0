-- Laws of the trees that rows stand for.
use Rattle.std.proofs.Common.{◌≡◌, ℕ, zero, suc, ◌+◌, ◌-◌, ◌<◌, ◌≤◌, true, List, [], ◌∷◌, ◌++◌, length, get_or, drop, sym, refl, ap, ◌∙◌, le_of_suc-le-suc, not-suc-le-zero, arith, length-append, length-drop, length-take, le-leb, leb-true}
use lib.Seq.{take-append-le, drop-append-le}
use Rattle.std.proofs.lemmas.List.{get_or-take, get_or-drop, get_or_append_left, get_or-append_right, length_push}
use Rattle.forest.specs.Forests.{Item, scalar, element, string, forest, lawful, bytes_lawful, tag_lawful}
use Rattle.forest.specs.Stores.{picked, all_below, nothing}
use Rattle.std.proofs.lemmas.Bool.{and_from, and_parts}
use Rattle.forest.proofs.Picked.{picked_same}
use Rattle.forest.proofs.Legal.{legal, lawful-append, lawful-picked, bytes_take, bytes_drop}
use Rattle.arena.specs.declared.row.Row.{Row}
use Rattle.arena.specs.declared.row.Row.TheVariants.{Boolean, Integer, String, Element}
use Rattle.arena.specs.declared.row.Span.{Span}
use Rattle.arena.specs.Rows.{part, within, row_item, built, row_sound, sound}

pub length-built : (ts : List Item) (es bs : List ℕ) (rs : List Row) → length (built ts es bs rs) ≡ length ts + length rs
unfolding built
length-built ts es bs [] = omega arith
length-built ts es bs (r ∷ rs) = omega (arith, length-built (ts ++ (row_item ts es bs r ∷ [])) es bs rs, length_push ts (row_item ts es bs r))

pub built-push : (ts : List Item) (es bs : List ℕ) (rs : List Row) (r : Row) → built ts es bs (rs ++ (r ∷ [])) ≡ built ts es bs rs ++ (row_item (built ts es bs rs) es bs r ∷ [])
unfolding built
built-push ts es bs [] r = refl
built-push ts es bs (q ∷ rs) r = built-push (ts ++ (row_item ts es bs q ∷ [])) es bs rs r

pub built-before : (ts : List Item) (es bs : List ℕ) (rs : List Row) (h : ℕ) (d : Item) → h < length ts → get_or (built ts es bs rs) h d ≡ get_or ts h d
unfolding built
built-before ts es bs [] h d lt = refl
built-before ts es bs (r ∷ rs) h d lt =
    let t = row_item ts es bs r in
    built-before (ts ++ (t ∷ [])) es bs rs h d (omega (arith, length_push ts t)) ∙ get_or_append_left ts (t ∷ []) d h lt

-- a part that is there stays as more is put behind
part-more : {X : Type 0} (s : Span) (xs more : List X) → within s (length xs) ≡ true → part s (xs ++ more) ≡ part s xs
part-more s xs more w =
    let le = leb-true (s.from + s.length) (length xs) w in
    let h : s.from ≤ length xs = omega arith in
    let l : s.length ≤ length (drop s.from xs) = omega (arith, length-drop s.from xs) in
    rw (drop-append-le s.from xs more h, take-append-le s.length (drop s.from xs) more l)

within_more : {X : Type 0} (s : Span) (xs more : List X) → within s (length xs) ≡ true → within s (length (xs ++ more)) ≡ true
within_more s xs more w = le-leb (s.from + s.length) (length (xs ++ more)) (omega (arith, leb-true (s.from + s.length) (length xs) w, length-append xs more))

pub row_more : (n : ℕ) (ts : List Item) (es bs e b : List ℕ) (r : Row) → row_sound n es bs r ≡ true → row_item ts (es ++ e) (bs ++ b) r ≡ row_item ts es bs r
row_more n ts es bs e b (Boolean v) s = refl
row_more n ts es bs e b (Integer z) s = refl
row_more n ts es bs e b (String k) s = ap (λ p. scalar (string p)) (part-more k bs b s)
row_more n ts es bs e b (Element t k) s =
    let p = and_parts (tag_lawful t) _ s in
    let q = and_parts (within k (length es)) _ p.1 in
    ap (λ x. element t (forest (picked ts x))) (part-more k es e q.0)

row_sound-more : (n : ℕ) (es bs e b : List ℕ) (r : Row) → row_sound n es bs r ≡ true → row_sound n (es ++ e) (bs ++ b) r ≡ true
row_sound-more n es bs e b (Boolean v) s = s
row_sound-more n es bs e b (Integer z) s = s
row_sound-more n es bs e b (String k) s = within_more k bs b s
row_sound-more n es bs e b (Element t k) s =
    let p = and_parts (tag_lawful t) _ s in
    let q = and_parts (within k (length es)) _ p.1 in
    and_from _ _ p.0 (and_from _ _ (within_more k es e q.0) (ap (all_below n) (part-more k es e q.0) ∙ q.1))

-- entries and text that are put behind change no tree
pub built-more : (n : ℕ) (ts : List Item) (es bs e b : List ℕ) (rs : List Row) → sound n es bs rs ≡ true → built ts (es ++ e) (bs ++ b) rs ≡ built ts es bs rs
unfolding built sound
built-more n ts es bs e b [] s = refl
built-more n ts es bs e b (r ∷ rs) s =
    let p = and_parts (row_sound n es bs r) (sound (n + 1) es bs rs) s in
    ap (λ t. built (ts ++ (t ∷ [])) (es ++ e) (bs ++ b) rs) (row_more n ts es bs e b r p.0) ∙ built-more (n + 1) (ts ++ (row_item ts es bs r ∷ [])) es bs e b rs p.1

pub sound_more : (n : ℕ) (es bs e b : List ℕ) (rs : List Row) → sound n es bs rs ≡ true → sound n (es ++ e) (bs ++ b) rs ≡ true
unfolding sound
sound_more n es bs e b [] s = refl
sound_more n es bs e b (r ∷ rs) s =
    let p = and_parts (row_sound n es bs r) (sound (n + 1) es bs rs) s in
    and_from _ _ (row_sound-more n es bs e b r p.0) (sound_more (n + 1) es bs e b rs p.1)

-- one row more
pub sound-push : (n : ℕ) (es bs : List ℕ) (rs : List Row) (r : Row) → sound n es bs rs ≡ true → row_sound (n + length rs) es bs r ≡ true → sound n es bs (rs ++ (r ∷ [])) ≡ true
unfolding sound
sound-push n es bs [] r s t = and_from _ _ (ap (λ k. row_sound k es bs r) (let z : n ≡ n + 0 = omega arith in z) ∙ t) refl
sound-push n es bs (q ∷ rs) r s t =
    let p = and_parts (row_sound n es bs q) (sound (n + 1) es bs rs) s in
    let k : n + 1 + length rs ≡ n + suc (length rs) = omega arith in
    and_from _ _ p.0 (sound-push (n + 1) es bs rs r p.1 (ap (λ m. row_sound m es bs r) k ∙ t))

-- A row's tree by the trees of the whole: its children are there already.
same_item : (n : ℕ) (ts us : List Item) (es bs : List ℕ) (r : Row) → ((h : ℕ) → h < n → get_or ts h nothing ≡ get_or us h nothing) → row_sound n es bs r ≡ true → row_item ts es bs r ≡ row_item us es bs r
same_item n ts us es bs (Boolean b) same s = refl
same_item n ts us es bs (Integer z) same s = refl
same_item n ts us es bs (String k) same s = refl
same_item n ts us es bs (Element t k) same s =
    let p = and_parts (tag_lawful t) _ s in
    let q = and_parts (within k (length es)) _ p.1 in
    ap (λ x. element t (forest x)) (picked_same n ts us (part k es) same q.1)

pub tree_is : (ts : List Item) (es bs : List ℕ) (rs : List Row) (i : ℕ) (d : Item) (q : Row) → sound (length ts) es bs rs ≡ true → i < length rs → get_or (built ts es bs rs) (length ts + i) d ≡ row_item (built ts es bs rs) es bs (get_or rs i q)
unfolding built sound
tree_is ts es bs [] i d q s lt = absurd (not-suc-le-zero lt)
tree_is ts es bs (r ∷ rs) zero d q s lt =
    let t = row_item ts es bs r in
    let us = ts ++ (t ∷ []) in
    let p = and_parts (row_sound (length ts) es bs r) (sound (length ts + 1) es bs rs) s in
    let at : length ts + 0 ≡ length ts = omega arith in
    let long = length_push ts t in
    let here : get_or us (length ts) d ≡ t = get_or-append_right ts (t ∷ []) (length ts) (length ts) d refl (omega arith) ∙ ap (λ k. get_or (t ∷ []) k d) (let z : length ts - length ts ≡ 0 = omega arith in z) in
    ap (λ k. get_or (built us es bs rs) k d) at ∙ built-before us es bs rs (length ts) d (omega arith) ∙ here
    ∙ same_item (length ts) ts (built us es bs rs) es bs r (λ h l. sym (built-before us es bs rs h nothing (omega arith) ∙ get_or_append_left ts (t ∷ []) nothing h l)) p.0
tree_is ts es bs (r ∷ rs) (suc i) d q s lt =
    let t = row_item ts es bs r in
    let us = ts ++ (t ∷ []) in
    let p = and_parts (row_sound (length ts) es bs r) (sound (length ts + 1) es bs rs) s in
    let long = length_push ts t in
    let at : length ts + suc i ≡ length us + i = omega arith in
    ap (λ k. get_or (built us es bs rs) k d) at ∙ tree_is us es bs rs i d q (ap (λ k. sound k es bs rs) long ∙ p.1) (le_of_suc-le-suc lt)

-- every tree is lawful
row-legal : (n : ℕ) (ts : List Item) (es bs : List ℕ) (r : Row) → lawful (forest ts) ≡ true → bytes_lawful bs ≡ true → row_sound n es bs r ≡ true → legal (row_item ts es bs r) ≡ true
row-legal n ts es bs (Boolean b) l m s = refl
row-legal n ts es bs (Integer z) l m s = and_from _ _ s refl
row-legal n ts es bs (String k) l m s = and_from _ _ (bytes_take k.length (drop k.from bs) (bytes_drop k.from bs m)) refl
row-legal n ts es bs (Element t k) l m s = and_from _ _ (and_parts (tag_lawful t) _ s).0 (and_from _ _ (lawful-picked ts (part k es) l) refl)

pub built-lawful : (n : ℕ) (ts : List Item) (es bs : List ℕ) (rs : List Row) → lawful (forest ts) ≡ true → bytes_lawful bs ≡ true → sound n es bs rs ≡ true → lawful (forest (built ts es bs rs)) ≡ true
unfolding built sound
built-lawful n ts es bs [] l m s = l
built-lawful n ts es bs (r ∷ rs) l m s =
    let p = and_parts (row_sound n es bs r) (sound (n + 1) es bs rs) s in
    built-lawful (n + 1) (ts ++ (row_item ts es bs r ∷ [])) es bs rs (lawful-append ts _ l (row-legal n ts es bs r l m p.0)) m p.1

-- a part that is there is as long as it says, and its places are those of the whole
pub length_part : {X : Type 0} (s : Span) (xs : List X) → within s (length xs) ≡ true → length (part s xs) ≡ s.length
length_part s xs w =
    let le = leb-true (s.from + s.length) (length xs) w in
    omega (arith, length-take s.length (drop s.from xs), length-drop s.from xs)

pub get_or-part : {X : Type 0} (s : Span) (xs : List X) (j : ℕ) (d : X) → j < s.length → get_or (part s xs) j d ≡ get_or xs (s.from + j) d
get_or-part s xs j d lt = get_or-take s.length (drop s.from xs) j d lt ∙ get_or-drop s.from xs j d

pub sound-at : (n : ℕ) (es bs : List ℕ) (rs : List Row) (i : ℕ) (q : Row) → sound n es bs rs ≡ true → i < length rs → row_sound (n + i) es bs (get_or rs i q) ≡ true
unfolding sound
sound-at n es bs [] i q s lt = absurd (not-suc-le-zero lt)
sound-at n es bs (r ∷ rs) zero q s lt = ap (λ k. row_sound k es bs r) (let z : n + 0 ≡ n = omega arith in z) ∙ (and_parts (row_sound n es bs r) (sound (n + 1) es bs rs) s).0
sound-at n es bs (r ∷ rs) (suc i) q s lt =
    let k : n + suc i ≡ n + 1 + i = omega arith in
    ap (λ m. row_sound m es bs (get_or rs i q)) k ∙ sound-at (n + 1) es bs rs i q (and_parts (row_sound n es bs r) (sound (n + 1) es bs rs) s).1 (le_of_suc-le-suc lt)
