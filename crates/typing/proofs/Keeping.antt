-- Typing by the rules keeps the parts of rows below them.
use Rattle.std.proofs.Common.{◌≡◌, ℕ, ◌+◌, ◌<◌, ◌≤◌, true, false, ◌||◌, List, [], ◌∷◌, ◌++◌, length, eqb, sym, ap, ◌∙◌, subst, inl, inr, arith}
use Rattle.std.proofs.lemmas.Bool.{or_cases, eqb-true, cases_lt, cases_eq, false≢true}
use Rattle.std.proofs.lemmas.List.{get_or_append_left, get_or_push, get_or_past, length_push}
use Rattle.rows.specs.declared.type_row.TypeRow.{TypeRow}
use Rattle.rows.specs.declared.type_row.TypeRow.TheVariants.{EmptyChoice, EmptySequence, Integer, String, Boolean, Element, AnyElement, Sequence, Choice, Repetition}
use Rattle.rows.specs.declared.arm.Arm.{Arm}
use Rattle.rows.specs.TypeRows.{owns}
use Rattle.rows.specs.Programs.{ProgramRows}
use Rattle.types.specs.Parts.{row}
use Rattle.typing.specs.Kinds.{is_item}
use Rattle.typing.specs.Outcomes.{Progress}
use Rattle.typing.specs.Rules.{Added, Chosen, one, more, Each, Types, Walks, Branches}
use Rattle.typing.specs.Rules.Types.{error, integer, boolean, string, variable, element, sequence, empty, if, let_in, for_each, match_item, call, add, equal, is_empty, count, children, as_type}
use Rattle.typing.specs.Rules.Walks.{item_copied, item_typed, no_choice, nothing, both, either, repeated}
use Rattle.typing.specs.Rules.Branches.{otherwise, arm_takes, arm_passes, arm_may}
use Rattle.typing.proofs.Unfolding.{PartsLower}

-- From p to q the table grows, row x is there, and parts stay lower rows.
pub record Keeps (p : Progress) (x : ℕ) (q : Progress) : Type 0 where
  pub longer : length p.types ≤ length q.types
  pub there : x < length q.types
  pub lower : PartsLower p.types → PartsLower q.types

-- all rows of a list are below n
data Below (n : ℕ) : List ℕ → Type 0 where
  none_below : Below n []
  more_below : {x : ℕ} {xs : List ℕ} → x < n → Below n xs → Below n (x ∷ xs)

record KeepsAll (p : Progress) (xs : List ℕ) (q : Progress) : Type 0 where
  longer : length p.types ≤ length q.types
  there : Below (length q.types) xs
  lower : PartsLower p.types → PartsLower q.types

below_more : {m n : ℕ} {xs : List ℕ} → m ≤ n → Below m xs → Below n xs
below_more l none_below = none_below
below_more l (more_below h b) = more_below (omega arith) (below_more l b)

keeps_on : {p q o : Progress} {x y : ℕ} → Keeps p x q → Keeps q y o → Keeps p y o
keeps_on h k = record { longer = let a = h.longer in let b = k.longer in omega arith; there = k.there; lower = λ l. k.lower (h.lower l) }

-- ONE ROW MORE

lower_more : (ts : List TypeRow) (t : TypeRow) → PartsLower ts → ((a : ℕ) → owns t a ≡ true → a < length ts) → PartsLower (ts ++ (t ∷ []))
lower_more ts t low h = record {
  lower = λ i a e. elim (cases_lt i (length ts)) [
    | inl l ↦ low.lower i a (ap (λ w. owns w a) (sym (get_or_append_left ts (t ∷ []) EmptyChoice i l)) ∙ e)
    | inr l ↦ elim (cases_eq i (length ts)) [
      | inl s ↦ let b = h a (ap (λ w. owns w a) (sym (get_or_push ts t EmptyChoice i (sym s))) ∙ e) in omega arith
      | inr n ↦ absurd (false≢true (ap (λ w. owns w a) (sym (get_or_past (ts ++ (t ∷ [])) i EmptyChoice (omega (arith, length_push ts t)))) ∙ e))
    ]
  ];
}

pub added_keeps : {t : TypeRow} {p q : Progress} {x : ℕ} → Added t p x q → ((a : ℕ) → owns t a ≡ true → a < length p.types) → Keeps p x q
added_keeps {t} {p} {q} {x} h low =
    let e : q.types ≡ p.types ++ (t ∷ []) = ap (λ z. z.types) h.table in
    let n : length q.types ≡ length p.types + 1 = ap length e ∙ length_push p.types t in
    let place = h.place in
    record { longer = omega arith; there = omega arith; lower = λ l. subst PartsLower (sym e) (lower_more p.types t l low) }

-- what rows own
pub nothing_owned : {n : ℕ} (a : ℕ) → false ≡ true → a < n
nothing_owned a e = absurd (false≢true e)

one_owned : {n : ℕ} (x : ℕ) → x < n → (a : ℕ) → eqb x a ≡ true → a < n
one_owned x l a e = let h = eqb-true x a e in omega arith

two_owned : {n : ℕ} (x y : ℕ) → x < n → y < n → (a : ℕ) → (eqb x a || eqb y a) ≡ true → a < n
two_owned x y l m a e = elim (or_cases (eqb x a) (eqb y a) e) [ inl h ↦ one_owned x l a h | inr h ↦ one_owned y m a h ]

items_own_nothing : {n : ℕ} (t : TypeRow) → is_item t ≡ true → (a : ℕ) → owns t a ≡ true → a < n
items_own_nothing EmptyChoice i a e = absurd (false≢true e)
items_own_nothing EmptySequence i a e = absurd (false≢true e)
items_own_nothing Integer i a e = absurd (false≢true e)
items_own_nothing String i a e = absurd (false≢true e)
items_own_nothing Boolean i a e = absurd (false≢true e)
items_own_nothing (Element t c) i a e = absurd (false≢true e)
items_own_nothing (AnyElement c) i a e = absurd (false≢true e)
items_own_nothing (Sequence x y) i a e = absurd (false≢true i)
items_own_nothing (Choice x y) i a e = absurd (false≢true i)
items_own_nothing (Repetition x) i a e = absurd (false≢true i)

-- a row behind its two parts
two_parts : {t : TypeRow} {p q o u : Progress} {x y z : ℕ} → Keeps p x q → Keeps q y o → Added t o z u → (x < length o.types → y < length o.types → (a : ℕ) → owns t a ≡ true → a < length o.types) → Keeps p z u
two_parts h k d low = let a = h.there in let b = k.longer in keeps_on h (keeps_on k (added_keeps d (low (omega arith) k.there)))

chosen_keeps : {x r : ℕ} {ys : List ℕ} {p q : Progress} → Chosen x ys p r q → x < length p.types → Below (length p.types) ys → Keeps p r q
chosen_keeps one l b = record { longer = omega arith; there = l; lower = λ h. h }
chosen_keeps {x} (more {y = y} d c) l (more_below m b) =
    let h = added_keeps d (two_owned x y l m) in
    keeps_on h (chosen_keeps c h.there (below_more h.longer b))

one_kept : {p q : Progress} {x : ℕ} → Keeps p x q → KeepsAll p (x ∷ []) q
one_kept h = record { longer = h.longer; there = more_below h.there none_below; lower = h.lower }

more_kept : {p q o : Progress} {x : ℕ} {xs : List ℕ} → Keeps p x q → KeepsAll q xs o → KeepsAll p (x ∷ xs) o
more_kept h k =
    let a = h.longer in
    let b = k.longer in
    let c = h.there in
    record { longer = omega arith; there = more_below (omega arith) k.there; lower = λ l. k.lower (h.lower l) }

joined_keeps : {p q o : Progress} {y r : ℕ} {ys : List ℕ} → KeepsAll p (y ∷ ys) q → Chosen y ys q r o → Keeps p r o
joined_keeps {p} {q} {o} {y} {r} {ys} h c = go h.there
  where
    go : Below (length q.types) (y ∷ ys) → Keeps p r o
    go (more_below l b) = let k = chosen_keeps c l b in record { longer = let a = h.longer in let m = k.longer in omega arith; there = k.there; lower = λ e. k.lower (h.lower e) }

-- THE RULES

mutual
  pub types_keep : {g : ProgramRows} {vs : List ℕ} {e x : ℕ} {p q : Progress} → Types g vs e p x q → Keeps p x q
  types_keep (error e d) = let h = added_keeps d nothing_owned in record { longer = h.longer; there = h.there; lower = h.lower }
  types_keep (integer e d) = added_keeps d nothing_owned
  types_keep (boolean e d) = added_keeps d nothing_owned
  types_keep (string e d) = added_keeps d nothing_owned
  types_keep (variable e i w) = walks_keep w
  types_keep (element e a d) = keeps_on (types_keep a) (added_keeps d nothing_owned)
  types_keep (sequence {x = x} {y} e a b d) = two_parts (types_keep a) (types_keep b) d (two_owned x y)
  types_keep (empty e d) = added_keeps d nothing_owned
  types_keep (if {y = y} {z} e a k b c d) = keeps_on (types_keep a) (two_parts (types_keep b) (types_keep c) d (two_owned y z))
  types_keep (let_in e a b) = keeps_on (types_keep a) (types_keep b)
  types_keep (for_each e a w) = keeps_on (types_keep a) (walks_keep w)
  types_keep (match_item e a k b c) = keeps_on (types_keep a) (joined_keeps (branches_keep b) c)
  types_keep (call e f a s w) = keeps_on (types_keep a) (walks_keep w)
  types_keep (add e a k b l d) = keeps_on (types_keep a) (keeps_on (types_keep b) (added_keeps d nothing_owned))
  types_keep (equal e a k b l d) = keeps_on (types_keep a) (keeps_on (types_keep b) (added_keeps d nothing_owned))
  types_keep (is_empty e a d) = keeps_on (types_keep a) (added_keeps d nothing_owned)
  types_keep (count e a d) = keeps_on (types_keep a) (added_keeps d nothing_owned)
  types_keep (children e a c w) = keeps_on (types_keep a) (walks_keep w)
  types_keep (as_type e a s w) = keeps_on (types_keep a) (walks_keep w)

  pub walks_keep : {g : ProgramRows} {w : Each} {ts : List TypeRow} {r x : ℕ} {p q : Progress} → Walks g w ts r p x q → Keeps p x q
  walks_keep (item_copied {ts} {r} i d) = added_keeps d (items_own_nothing (row ts r) i)
  walks_keep (item_typed i t) = types_keep t
  walks_keep (no_choice e d) = added_keeps d nothing_owned
  walks_keep (nothing e d) = added_keeps d nothing_owned
  walks_keep (both {x = x} {y} e a b d) = two_parts (walks_keep a) (walks_keep b) d (two_owned x y)
  walks_keep (either {x = x} {y} e a b d) = two_parts (walks_keep a) (walks_keep b) d (two_owned x y)
  walks_keep (repeated {x = x} e a d) = let h = walks_keep a in keeps_on h (added_keeps d (one_owned x h.there))

  branches_keep : {g : ProgramRows} {vs named bs : List ℕ} {x else : ℕ} {arms : List Arm} {p q : Progress} → Branches g vs x else arms named p bs q → KeepsAll p bs q
  branches_keep (otherwise t) = one_kept (types_keep t)
  branches_keep (arm_takes e t) = one_kept (types_keep t)
  branches_keep (arm_passes e b) = branches_keep b
  branches_keep (arm_may e d t b) = more_kept (keeps_on (added_keeps d nothing_owned) (types_keep t)) (branches_keep b)
