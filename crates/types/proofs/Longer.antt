-- A table of types with more rows behind it: what was said of its rows is said of them still.
use Rattle.std.proofs.Common.{◌≡◌, ℕ, ◌<◌, ◌≤◌, true, ◌↔◌, List, ◌++◌, length, Some, sym, refl, ap, ◌∙◌, inl, inr, arith, length-append}
use Rattle.std.proofs.lemmas.List.{get_or_past, get_or_append_left}
use Rattle.std.proofs.lemmas.Bool.{cases_lt, false≢true}
use Rattle.forest.specs.Forests.{Scalar, integer, string, boolean, Forest}
use Rattle.rows.specs.declared.type_row.TypeRow.{TypeRow}
use Rattle.rows.specs.declared.type_row.TypeRow.TheVariants.{EmptyChoice}
use Rattle.rows.specs.TypeRows.{owns}
use Rattle.types.specs.Parts.{row, content, Root, Lawful, Within, itself, part}
use Rattle.types.specs.Belonging.{scalar_row, Belongs, nothing, one_scalar, one_element, any_element, both, by_first, by_second, no_more, one_more, Subtype}
use Rattle.types.specs.Determinism.{Label, label, overlaps, Nullable, empty, repeated, both_parts, first_part, second_part, First, Last, MeetsAt, in_sequence, in_repetition, Follows, Deterministic}
use Rattle.types.specs.Determinism.First.{item as f-item, of_left, past_left, of_first as f-first, of_second as f-second, of_part as f-part}
use Rattle.types.specs.Determinism.Last.{item as l-item, of_right, before_right, of_first as l-first, of_second as l-second, of_part as l-part}
use Rattle.types.proofs.Contexts.{left, right, first, second, repeats, owned}
use Rattle.types.proofs.Standing.{first-label, meets-first}
use Rattle.types.proofs.Inside.{item-there, within_low, meets-from, line}

-- us begins with the rows of ts
pub record Longer (ts us : List TypeRow) : Type 0 where
  pub long : length ts ≤ length us
  pub same : (r : ℕ) → r < length ts → row us r ≡ row ts r

pub longer : (ts more : List TypeRow) → Longer ts (ts ++ more)
longer ts more = record { long = omega (arith, length-append ts more); same = λ r l. get_or_append_left ts more EmptyChoice r l }

pub longer_same : (ts : List TypeRow) → Longer ts ts
longer_same ts = record { long = omega arith; same = λ r l. refl }

pub longer_on : {ts us vs : List TypeRow} → Longer ts us → Longer us vs → Longer ts vs
longer_on m n = let a = m.long in let b = n.long in record { long = omega arith; same = λ r l. n.same r (omega arith) ∙ m.same r l }

-- every content is there
abbrev pub ContentsThere : List TypeRow → Type 0
ContentsThere ts = (n c : ℕ) → content (row ts n) ≡ Some c → c < length ts

is_some_row : (s : Scalar) → EmptyChoice ≡ scalar_row s → ⊥
is_some_row (integer z) e = cc
is_some_row (string bs) e = cc
is_some_row (boolean b) e = cc

is_item_row : {l : Label} {w : TypeRow} → label w ≡ Some l → EmptyChoice ≡ w → ⊥
is_item_row e i = let z : ◌≡◌ {A = ℕ} 0 1 = cc (ap label i) in omega arith

-- FROM THE SHORTER TABLE

module _ {ts us : List TypeRow} (more : Longer ts us) where
  -- a row that is there, by what it is
  pub still : (r : ℕ) {w : TypeRow} → row ts r ≡ w → (EmptyChoice ≡ w → ⊥) → row us r ≡ w
  still r e not = elim (cases_lt r (length ts)) [ inl l ↦ more.same r l ∙ e | inr past ↦ absurd (not (sym (get_or_past ts r EmptyChoice past) ∙ e)) ]

  pub belongs_more : {r : ℕ} {f : Forest} → Belongs ts r f → Belongs us r f
  belongs_more {r} (nothing e) = nothing (still r e (λ z. cc))
  belongs_more {r} (one_scalar {s = s} e l) = one_scalar (still r e (is_some_row s)) l
  belongs_more {r} (one_element e l b) = one_element (still r e (λ z. cc)) l (belongs_more b)
  belongs_more {r} (any_element e l b) = any_element (still r e (λ z. cc)) l (belongs_more b)
  belongs_more {r} (both e p q) = both (still r e (λ z. cc)) (belongs_more p) (belongs_more q)
  belongs_more {r} (by_first e p) = by_first (still r e (λ z. cc)) (belongs_more p)
  belongs_more {r} (by_second e p) = by_second (still r e (λ z. cc)) (belongs_more p)
  belongs_more {r} (no_more e) = no_more (still r e (λ z. cc))
  belongs_more {r} (one_more e p q) = one_more (still r e (λ z. cc)) (belongs_more p) (belongs_more q)

  pub nullable_more : {r : ℕ} → Nullable ts r → Nullable us r
  nullable_more {r} (empty e) = empty (still r e (λ z. cc))
  nullable_more {r} (repeated e) = repeated (still r e (λ z. cc))
  nullable_more {r} (both_parts e p q) = both_parts (still r e (λ z. cc)) (nullable_more p) (nullable_more q)
  nullable_more {r} (first_part e p) = first_part (still r e (λ z. cc)) (nullable_more p)
  nullable_more {r} (second_part e p) = second_part (still r e (λ z. cc)) (nullable_more p)

  label_more : (r : ℕ) {l : Label} → label (row ts r) ≡ Some l → label (row us r) ≡ Some l
  label_more r e = ap label (still r refl (is_item_row e)) ∙ e

  pub first_more : {r n : ℕ} → First ts r n → First us r n
  first_more {r} (f-item e i) = f-item (label_more r e) i
  first_more {r} (of_left e h) = of_left (still r e (λ z. cc)) (first_more h)
  first_more {r} (past_left e z h) = past_left (still r e (λ z. cc)) (nullable_more z) (first_more h)
  first_more {r} (f-first e h) = f-first (still r e (λ z. cc)) (first_more h)
  first_more {r} (f-second e h) = f-second (still r e (λ z. cc)) (first_more h)
  first_more {r} (f-part e h) = f-part (still r e (λ z. cc)) (first_more h)

  pub last_more : {r n : ℕ} → Last ts r n → Last us r n
  last_more {r} (l-item e i) = l-item (label_more r e) i
  last_more {r} (of_right e h) = of_right (still r e (λ z. cc)) (last_more h)
  last_more {r} (before_right e z h) = before_right (still r e (λ z. cc)) (nullable_more z) (last_more h)
  last_more {r} (l-first e h) = l-first (still r e (λ z. cc)) (last_more h)
  last_more {r} (l-second e h) = l-second (still r e (λ z. cc)) (last_more h)
  last_more {r} (l-part e h) = l-part (still r e (λ z. cc)) (last_more h)

  meets_more : {s m n : ℕ} → MeetsAt ts s m n → MeetsAt us s m n
  meets_more {s} (in_sequence e l f) = in_sequence (still s e (λ z. cc)) (last_more l) (first_more f)
  meets_more {s} (in_repetition e l f) = in_repetition (still s e (λ z. cc)) (last_more l) (first_more f)

  pub follows_more : {m n : ℕ} → Follows ts m n → Follows us m n
  follows_more (s, h) = (s, meets_more h)

  is_owner : (s p : ℕ) → owns (row ts s) p ≡ true → EmptyChoice ≡ row ts s → ⊥
  is_owner s p o e = false≢true (ap (λ w. owns w p) e ∙ o)

  pub within_more : {r p : ℕ} → Within ts r p → Within us r p
  within_more (itself e) = itself e
  within_more (part {s} {p} h o) = part (within_more h) (ap (λ w. owns w p) (still s refl (is_owner s p o)) ∙ o)

-- FROM THE LONGER TABLE

module _ {ts us : List TypeRow} (more : Longer ts us) (law : Lawful ts) where
  -- a row that was there already
  pub was : {r : ℕ} {w : TypeRow} → r < length ts → row us r ≡ w → row ts r ≡ w
  was {r} l e = sym (more.same r l) ∙ e

  -- and so were its parts
  pub belongs_before : ContentsThere ts → {r : ℕ} {f : Forest} → r < length ts → Belongs us r f → Belongs ts r f
  belongs_before there lt (nothing e) = nothing (was lt e)
  belongs_before there lt (one_scalar e l) = one_scalar (was lt e) l
  belongs_before there {r} lt (one_element {c = c} e l b) = let i = was lt e in one_element i l (belongs_before there (there r c (ap content i)) b)
  belongs_before there {r} lt (any_element {c = c} e l b) = let i = was lt e in any_element i l (belongs_before there (there r c (ap content i)) b)
  belongs_before there {r} lt (both {a = a} {b} e p q) =
      let i = was lt e in
      let la = law.lower r a (owned ts r i (left refl)) in
      let lb = law.lower r b (owned ts r i (right refl)) in
      both i (belongs_before there (omega arith) p) (belongs_before there (omega arith) q)
  belongs_before there {r} lt (by_first {a = a} e p) = let i = was lt e in let la = law.lower r a (owned ts r i (first refl)) in by_first i (belongs_before there (omega arith) p)
  belongs_before there {r} lt (by_second {b = b} e p) = let i = was lt e in let lb = law.lower r b (owned ts r i (second refl)) in by_second i (belongs_before there (omega arith) p)
  belongs_before there lt (no_more e) = no_more (was lt e)
  belongs_before there {r} lt (one_more {a = a} e p q) =
      let i = was lt e in
      let la = law.lower r a (owned ts r i (repeats refl)) in
      one_more i (belongs_before there (omega arith) p) (belongs_before there lt q)

  pub nullable_before : {r : ℕ} → r < length ts → Nullable us r → Nullable ts r
  nullable_before lt (empty e) = empty (was lt e)
  nullable_before lt (repeated e) = repeated (was lt e)
  nullable_before {r} lt (both_parts {a = a} {b} e p q) =
      let i = was lt e in
      let la = law.lower r a (owned ts r i (left refl)) in
      let lb = law.lower r b (owned ts r i (right refl)) in
      both_parts i (nullable_before (omega arith) p) (nullable_before (omega arith) q)
  nullable_before {r} lt (first_part {a = a} e p) = let i = was lt e in let la = law.lower r a (owned ts r i (first refl)) in first_part i (nullable_before (omega arith) p)
  nullable_before {r} lt (second_part {b = b} e p) = let i = was lt e in let lb = law.lower r b (owned ts r i (second refl)) in second_part i (nullable_before (omega arith) p)

  pub first_before : {r n : ℕ} → r < length ts → First us r n → First ts r n
  first_before {r} lt (f-item e i) = f-item (sym (ap label (more.same r lt)) ∙ e) i
  first_before {r} lt (of_left {a = a} e h) = let i = was lt e in let la = law.lower r a (owned ts r i (left refl)) in of_left i (first_before (omega arith) h)
  first_before {r} lt (past_left {a = a} {b} e z h) =
      let i = was lt e in
      let la = law.lower r a (owned ts r i (left refl)) in
      let lb = law.lower r b (owned ts r i (right refl)) in
      past_left i (nullable_before (omega arith) z) (first_before (omega arith) h)
  first_before {r} lt (f-first {a = a} e h) = let i = was lt e in let la = law.lower r a (owned ts r i (first refl)) in f-first i (first_before (omega arith) h)
  first_before {r} lt (f-second {b = b} e h) = let i = was lt e in let lb = law.lower r b (owned ts r i (second refl)) in f-second i (first_before (omega arith) h)
  first_before {r} lt (f-part {a = a} e h) = let i = was lt e in let la = law.lower r a (owned ts r i (repeats refl)) in f-part i (first_before (omega arith) h)

  pub last_before : {r n : ℕ} → r < length ts → Last us r n → Last ts r n
  last_before {r} lt (l-item e i) = l-item (sym (ap label (more.same r lt)) ∙ e) i
  last_before {r} lt (of_right {b = b} e h) = let i = was lt e in let lb = law.lower r b (owned ts r i (right refl)) in of_right i (last_before (omega arith) h)
  last_before {r} lt (before_right {a = a} {b} e z h) =
      let i = was lt e in
      let la = law.lower r a (owned ts r i (left refl)) in
      let lb = law.lower r b (owned ts r i (right refl)) in
      before_right i (nullable_before (omega arith) z) (last_before (omega arith) h)
  last_before {r} lt (l-first {a = a} e h) = let i = was lt e in let la = law.lower r a (owned ts r i (first refl)) in l-first i (last_before (omega arith) h)
  last_before {r} lt (l-second {b = b} e h) = let i = was lt e in let lb = law.lower r b (owned ts r i (second refl)) in l-second i (last_before (omega arith) h)
  last_before {r} lt (l-part {a = a} e h) = let i = was lt e in let la = law.lower r a (owned ts r i (repeats refl)) in l-part i (last_before (omega arith) h)

  meets_before : {s m n : ℕ} → s < length ts → MeetsAt us s m n → MeetsAt ts s m n
  meets_before {s} lt (in_sequence {a} {b} e l f) =
      let i = was lt e in
      let la = law.lower s a (owned ts s i (left refl)) in
      let lb = law.lower s b (owned ts s i (right refl)) in
      in_sequence i (last_before (omega arith) l) (first_before (omega arith) f)
  meets_before {s} lt (in_repetition {a} e l f) =
      let i = was lt e in
      let la = law.lower s a (owned ts s i (repeats refl)) in
      in_repetition i (last_before (omega arith) l) (first_before (omega arith) f)

  pub within_before : {r p : ℕ} → r < length ts → Within us r p → Within ts r p
  within_before lt (itself e) = itself e
  within_before lt (part {s} {p} h o) =
      let w = within_before lt h in
      let low = within_low law w in
      part w (ap (λ v. owns v p) (sym (more.same s (omega arith))) ∙ o)

-- WHAT IS SAID OF TYPES

module _ {ts us : List TypeRow} (more : Longer ts us) (law : Lawful ts) where
  pub same_forests : ContentsThere ts → (r : ℕ) (f : Forest) → r < length ts → Belongs ts r f ↔ Belongs us r f
  same_forests there r f lt = (belongs_more more, belongs_before more law there lt)

  pub same_subtypes : ContentsThere ts → (a b : ℕ) → a < length ts → b < length ts → Subtype ts a b ↔ Subtype us a b
  same_subtypes there a b la lb = (
    λ h f x. belongs_more more (h f (belongs_before more law there la x)),
    λ h f x. belongs_before more law there lb (h f (belongs_more more x)),
  )

  same_overlap : {m n : ℕ} → m < length ts → n < length ts → overlaps (row us m) (row us n) ≡ true → overlaps (row ts m) (row ts n) ≡ true
  same_overlap {m} {n} lm ln e = ap (overlaps (row ts m)) (sym (more.same n ln)) ∙ ap (λ w. overlaps w (row us n)) (sym (more.same m lm)) ∙ e

  first_there : {r n : ℕ} → First ts r n → n < length ts
  first_there {n = n} h = item-there ts n (first-label h).1

  follows_there : {m n : ℕ} → Follows ts m n → n < length ts
  follows_there h = first_there (meets-first h.1).1

  module _ (lawful : Lawful us) {r : ℕ} (root : Root us r) (lt : r < length ts) where
    -- what a root has within it, new rows do not
    meets_at : {s p : ℕ} → Within us r p → Within us s p → s < length ts
    meets_at {s} w v = elim (line lawful w v) [ inl h ↦ (let low = within_low lawful h in omega arith) | inr h ↦ top h ]
      where
        top : Within us s r → s < length ts
        top (itself e) = omega arith
        top (part {s = q} h o) = absurd (false≢true (sym (root.unowned q) ∙ o))

    follows_before : {p n : ℕ} → Within us r p → Follows us p n → Follows ts p n
    follows_before w (s, h) = (s, meets_before more law (meets_at w (meets-from lawful h)) h)

    pub same_one_way : Deterministic ts r ↔ Deterministic us r
    same_one_way = (
      λ d. record {
        firsts = λ m n f g e. (let f' = first_before more law lt f in let g' = first_before more law lt g in d.firsts m n f' g' (same_overlap (first_there f') (first_there g') e));
        follows = λ p m n w f g e. (let f' = follows_before w f in let g' = follows_before w g in d.follows p m n (within_before more law lt w) f' g' (same_overlap (follows_there f') (follows_there g') e));
      },
      λ d. record {
        firsts = λ m n f g e. d.firsts m n (first_more more f) (first_more more g) (more_overlap (first_there f) (first_there g) e);
        follows = λ p m n w f g e. d.follows p m n (within_more more w) (follows_more more f) (follows_more more g) (more_overlap (follows_there f) (follows_there g) e);
      },
    )
      where
        more_overlap : {m n : ℕ} → m < length ts → n < length ts → overlaps (row ts m) (row ts n) ≡ true → overlaps (row us m) (row us n) ≡ true
        more_overlap {m} {n} lm ln e = ap (overlaps (row us m)) (more.same n ln) ∙ ap (λ w. overlaps w (row ts n)) (more.same m lm) ∙ e
