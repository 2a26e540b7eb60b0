-- Nullable rows, first items and last items, by one row and its parts.
use Rattle.std.proofs.Common.{◌≡◌, ℕ, ◌+◌, ◌<◌, ◌≤◌, Bool, true, false, ◌&&◌, eqb, ◌≢◌, List, length, set, Some, sym, refl, ap, ◌∙◌, subst, inl, inr, arith}
use Rattle.std.proofs.lemmas.List.{get_or_past, get_or-set_same, get_or-set_other}
use Rattle.std.proofs.lemmas.Bool.{cases_eq, cases_lt, and_parts, and_from, or_cases, or_left, or_right, eqb-true, eq-eqb, false≢true}
use Rattle.rows.specs.declared.type_row.TypeRow.{TypeRow}
use Rattle.rows.specs.declared.type_row.TypeRow.TheVariants.{EmptyChoice, EmptySequence, Integer, String, Boolean, Element, AnyElement, Sequence, Choice, Repetition}
use Rattle.rows.specs.TypeRows.{owns}
use Rattle.types.specs.Parts.{row, Lawful}
use Rattle.types.specs.Determinism.{Label, label, Nullable, empty, repeated, both_parts, first_part, second_part, First, Last}
use Rattle.types.specs.Determinism.First.{item as f-item, of_left, past_left, of_first as f-first, of_second as f-second, of_part as f-part}
use Rattle.types.specs.Determinism.Last.{item as l-item, of_right, before_right, of_first as l-first, of_second as l-second, of_part as l-part}
use Rattle.types.specs.Tables.{Exactly}
use Rattle.types.proofs.Contexts.{PartOf, left, right, first, second, repeats, owns-part}
use Rattle.bits.specs.Bits.{related}
use Rattle.positions.specs.Below.{flag}
use Rattle.positions.specs.Filling.{null_by, ends_by, turned}
use Rattle.types.proofs.Exact.{exactly, exactly_same, exactly_none, known, shown}

-- past the end a row is the empty choice
pub past_row : (ts : List TypeRow) (r : ℕ) → length ts ≤ r → row ts r ≡ EmptyChoice
past_row ts r l = get_or_past ts r EmptyChoice l

pub there : (ts : List TypeRow) (r : ℕ) → row ts r ≢ EmptyChoice → r < length ts
there ts r h = elim (cases_lt r (length ts)) [ inl l ↦ l | inr l ↦ absurd (h (past_row ts r l)) ]

-- a part is low where every row that is owned is
pub part-below : {r w : TypeRow} {k p : ℕ} → ((q : ℕ) → owns r q ≡ true → q < k) → r ≡ w → PartOf p w → p < k
part-below {p = p} low e h = low p (ap (λ w. owns w p) e ∙ owns-part h)

pub part_low : {ts : List TypeRow} → Lawful ts → (k : ℕ) {p : ℕ} {w : TypeRow} → row ts k ≡ w → PartOf p w → p < k
part_low law k e h = part-below (law.lower k) e h

-- NULLABLE ROWS

-- the flags below k are right, the others are false
pub record Nulls (ts : List TypeRow) (t : List Bool) (k : ℕ) : Type 0 where
  pub below : (r : ℕ) → r < k → Exactly (flag t r) (Nullable ts r)
  pub rest : (r : ℕ) → k ≤ r → flag t r ≡ false

module _ {ts : List TypeRow} (law : Lawful ts) where
  null_of : (t : List Bool) (k : ℕ) → ((r : ℕ) → r < k → Exactly (flag t r) (Nullable ts r)) → (w : TypeRow) → row ts k ≡ w → null_by t w ≡ true → Nullable ts k
  null_of t k h EmptyChoice e x = absurd (false≢true x)
  null_of t k h EmptySequence e x = empty e
  null_of t k h Integer e x = absurd (false≢true x)
  null_of t k h String e x = absurd (false≢true x)
  null_of t k h Boolean e x = absurd (false≢true x)
  null_of t k h (Element g c) e x = absurd (false≢true x)
  null_of t k h (AnyElement c) e x = absurd (false≢true x)
  null_of t k h (Sequence a b) e x =
      let y = and_parts (flag t a) (flag t b) x in
      both_parts e (known (h a (part_low law k e (left refl))) y.0) (known (h b (part_low law k e (right refl))) y.1)
  null_of t k h (Choice a b) e x = elim (or_cases (flag t a) (flag t b) x) [
    | inl y ↦ first_part e (known (h a (part_low law k e (first refl))) y)
    | inr y ↦ second_part e (known (h b (part_low law k e (second refl))) y)
  ]
  null_of t k h (Repetition a) e x = repeated e

  of_null : (t : List Bool) {k : ℕ} → ((r : ℕ) → r < k → Exactly (flag t r) (Nullable ts r)) → Nullable ts k → null_by t (row ts k) ≡ true
  of_null t h (empty e) = ap (null_by t) e
  of_null t h (repeated e) = ap (null_by t) e
  of_null t {k} h (both_parts {a = a} {b} e x y) = ap (null_by t) e ∙ and_from (flag t a) (flag t b) (shown (h a (part_low law k e (left refl))) x) (shown (h b (part_low law k e (right refl))) y)
  of_null t {k} h (first_part {a = a} {b} e x) = ap (null_by t) e ∙ or_left (flag t a) (flag t b) (shown (h a (part_low law k e (first refl))) x)
  of_null t {k} h (second_part {a = a} {b} e x) = ap (null_by t) e ∙ or_right (flag t a) (flag t b) (shown (h b (part_low law k e (second refl))) x)

  -- a row may be nothing exactly if it may by its parts
  pub null_step : (t : List Bool) (k : ℕ) → ((r : ℕ) → r < k → Exactly (flag t r) (Nullable ts r)) → Exactly (null_by t (row ts k)) (Nullable ts k)
  null_step t k h = exactly (null_of t k h (row ts k) refl) (of_null t h)

  pub nulls_more : (t : List Bool) (k : ℕ) → k < length t → Nulls ts t k → Nulls ts (set t k (null_by t (row ts k))) (k + 1)
  nulls_more t k lt h =
      let w = null_by t (row ts k) in
      record {
        below = λ r l. elim (cases_eq r k) [
          | inl i ↦ subst (λ x. Exactly (flag (set t k w) x) (Nullable ts x)) (sym i) (exactly_same (get_or-set_same t k w false lt) (null_step t k h.below))
          | inr i ↦ exactly_same (get_or-set_other t k r w false i) (h.below r (omega arith))
        ];
        rest = λ r l. get_or-set_other t k r w false (omega arith) ∙ h.rest r (omega arith);
      }

pub nulls_none : (ts : List TypeRow) (t : List Bool) → ((r : ℕ) → flag t r ≡ false) → Nulls ts t 0
nulls_none ts t e = record { below = λ r l. absurd (omega arith); rest = λ r l. e r }

null_there : {ts : List TypeRow} {r : ℕ} → Nullable ts r → row ts r ≢ EmptyChoice
null_there (empty e) = λ i. let z : ◌≡◌ {A = ℕ} 0 1 = cc in omega arith
null_there (repeated e) = λ i. let z : ◌≡◌ {A = ℕ} 0 1 = cc in omega arith
null_there (both_parts e x y) = λ i. let z : ◌≡◌ {A = ℕ} 0 1 = cc in omega arith
null_there (first_part e x) = λ i. let z : ◌≡◌ {A = ℕ} 0 1 = cc in omega arith
null_there (second_part e x) = λ i. let z : ◌≡◌ {A = ℕ} 0 1 = cc in omega arith

pub nulls_all : {ts : List TypeRow} {t : List Bool} → Nulls ts t (length ts) → (r : ℕ) → Exactly (flag t r) (Nullable ts r)
nulls_all {ts} {t} h r = elim (cases_lt r (length ts)) [
  | inl l ↦ h.below r l
  | inr l ↦ exactly_none (h.rest r l) (λ x. null_there x (past_row ts r l))
]

-- ITEMS

item_by : (t : List Bool) (ws : List ℕ) (k n : ℕ) (w : TypeRow) {l : Label} → label w ≡ Some l → n ≡ k → ends_by t ws k w n ≡ true
item_by t ws k n EmptyChoice e i = let z : ◌≡◌ {A = ℕ} 0 1 = cc in absurd (omega arith)
item_by t ws k n EmptySequence e i = let z : ◌≡◌ {A = ℕ} 0 1 = cc in absurd (omega arith)
item_by t ws k n Integer e i = eq-eqb n k i
item_by t ws k n String e i = eq-eqb n k i
item_by t ws k n Boolean e i = eq-eqb n k i
item_by t ws k n (Element g c) e i = eq-eqb n k i
item_by t ws k n (AnyElement c) e i = eq-eqb n k i
item_by t ws k n (Sequence a b) e i = let z : ◌≡◌ {A = ℕ} 0 1 = cc in absurd (omega arith)
item_by t ws k n (Choice a b) e i = let z : ◌≡◌ {A = ℕ} 0 1 = cc in absurd (omega arith)
item_by t ws k n (Repetition a) e i = let z : ◌≡◌ {A = ℕ} 0 1 = cc in absurd (omega arith)

turned-label : (w : TypeRow) → label (turned w) ≡ label w
turned-label EmptyChoice = refl
turned-label EmptySequence = refl
turned-label Integer = refl
turned-label String = refl
turned-label Boolean = refl
turned-label (Element g c) = refl
turned-label (AnyElement c) = refl
turned-label (Sequence a b) = refl
turned-label (Choice a b) = refl
turned-label (Repetition a) = refl

module _ {ts : List TypeRow} (law : Lawful ts) (t : List Bool) (nulls : (r : ℕ) → Exactly (flag t r) (Nullable ts r)) (ws : List ℕ) (k n : ℕ) (lt : n < 512) where
  module _ (below : (r m : ℕ) → r < k → m < 512 → Exactly (related ws r m) (First ts r m)) where
    at_first : {p : ℕ} {w : TypeRow} → row ts k ≡ w → PartOf p w → Exactly (related ws p n) (First ts p n)
    at_first {p} e i = below p n (part_low law k e i) lt

    first_of : (w : TypeRow) → row ts k ≡ w → ends_by t ws k w n ≡ true → First ts k n
    first_of EmptyChoice e x = absurd (false≢true x)
    first_of EmptySequence e x = absurd (false≢true x)
    first_of Integer e x = f-item (ap label e) (eqb-true n k x)
    first_of String e x = f-item (ap label e) (eqb-true n k x)
    first_of Boolean e x = f-item (ap label e) (eqb-true n k x)
    first_of (Element g c) e x = f-item (ap label e) (eqb-true n k x)
    first_of (AnyElement c) e x = f-item (ap label e) (eqb-true n k x)
    first_of (Sequence a b) e x = elim (or_cases (related ws a n) (flag t a && related ws b n) x) [
      | inl y ↦ of_left e (known (at_first e (left refl)) y)
      | inr y ↦ (let z = and_parts (flag t a) (related ws b n) y in past_left e (known (nulls a) z.0) (known (at_first e (right refl)) z.1))
    ]
    first_of (Choice a b) e x = elim (or_cases (related ws a n) (related ws b n) x) [
      | inl y ↦ f-first e (known (at_first e (first refl)) y)
      | inr y ↦ f-second e (known (at_first e (second refl)) y)
    ]
    first_of (Repetition a) e x = f-part e (known (at_first e (repeats refl)) x)

    of_first : First ts k n → ends_by t ws k (row ts k) n ≡ true
    of_first (f-item e i) = item_by t ws k n (row ts k) e i
    of_first (of_left {a = a} {b} e x) = ap (λ w. ends_by t ws k w n) e ∙ or_left (related ws a n) (flag t a && related ws b n) (shown (at_first e (left refl)) x)
    of_first (past_left {a = a} {b} e z x) = ap (λ w. ends_by t ws k w n) e ∙ or_right (related ws a n) (flag t a && related ws b n) (and_from (flag t a) (related ws b n) (shown (nulls a) z) (shown (at_first e (right refl)) x))
    of_first (f-first {a = a} {b} e x) = ap (λ w. ends_by t ws k w n) e ∙ or_left (related ws a n) (related ws b n) (shown (at_first e (first refl)) x)
    of_first (f-second {a = a} {b} e x) = ap (λ w. ends_by t ws k w n) e ∙ or_right (related ws a n) (related ws b n) (shown (at_first e (second refl)) x)
    of_first (f-part e x) = ap (λ w. ends_by t ws k w n) e ∙ shown (at_first e (repeats refl)) x

    pub first_step : Exactly (ends_by t ws k (row ts k) n) (First ts k n)
    first_step = exactly (first_of (row ts k) refl) of_first

  module _ (below : (r m : ℕ) → r < k → m < 512 → Exactly (related ws r m) (Last ts r m)) where
    at_last : {p : ℕ} {w : TypeRow} → row ts k ≡ w → PartOf p w → Exactly (related ws p n) (Last ts p n)
    at_last {p} e i = below p n (part_low law k e i) lt

    last_of : (w : TypeRow) → row ts k ≡ w → ends_by t ws k (turned w) n ≡ true → Last ts k n
    last_of EmptyChoice e x = absurd (false≢true x)
    last_of EmptySequence e x = absurd (false≢true x)
    last_of Integer e x = l-item (ap label e) (eqb-true n k x)
    last_of String e x = l-item (ap label e) (eqb-true n k x)
    last_of Boolean e x = l-item (ap label e) (eqb-true n k x)
    last_of (Element g c) e x = l-item (ap label e) (eqb-true n k x)
    last_of (AnyElement c) e x = l-item (ap label e) (eqb-true n k x)
    last_of (Sequence a b) e x = elim (or_cases (related ws b n) (flag t b && related ws a n) x) [
      | inl y ↦ of_right e (known (at_last e (right refl)) y)
      | inr y ↦ (let z = and_parts (flag t b) (related ws a n) y in before_right e (known (nulls b) z.0) (known (at_last e (left refl)) z.1))
    ]
    last_of (Choice a b) e x = elim (or_cases (related ws a n) (related ws b n) x) [
      | inl y ↦ l-first e (known (at_last e (first refl)) y)
      | inr y ↦ l-second e (known (at_last e (second refl)) y)
    ]
    last_of (Repetition a) e x = l-part e (known (at_last e (repeats refl)) x)

    of_last : Last ts k n → ends_by t ws k (turned (row ts k)) n ≡ true
    of_last (l-item e i) = item_by t ws k n (turned (row ts k)) (turned-label (row ts k) ∙ e) i
    of_last (of_right {a = a} {b} e x) = ap (λ w. ends_by t ws k (turned w) n) e ∙ or_left (related ws b n) (flag t b && related ws a n) (shown (at_last e (right refl)) x)
    of_last (before_right {a = a} {b} e z x) = ap (λ w. ends_by t ws k (turned w) n) e ∙ or_right (related ws b n) (flag t b && related ws a n) (and_from (flag t b) (related ws a n) (shown (nulls b) z) (shown (at_last e (left refl)) x))
    of_last (l-first {a = a} {b} e x) = ap (λ w. ends_by t ws k (turned w) n) e ∙ or_left (related ws a n) (related ws b n) (shown (at_last e (first refl)) x)
    of_last (l-second {a = a} {b} e x) = ap (λ w. ends_by t ws k (turned w) n) e ∙ or_right (related ws a n) (related ws b n) (shown (at_last e (second refl)) x)
    of_last (l-part e x) = ap (λ w. ends_by t ws k (turned w) n) e ∙ shown (at_last e (repeats refl)) x

    pub last_step : Exactly (ends_by t ws k (turned (row ts k)) n) (Last ts k n)
    last_step = exactly (last_of (row ts k) refl) of_last

-- past the end no item is first or last
first-there : {ts : List TypeRow} {r n : ℕ} → First ts r n → row ts r ≢ EmptyChoice
first-there (f-item e i) = λ j. let z : ◌≡◌ {A = ℕ} 0 1 = cc (ap label j) in omega arith
first-there (of_left e x) = λ j. let z : ◌≡◌ {A = ℕ} 0 1 = cc in omega arith
first-there (past_left e z x) = λ j. let z : ◌≡◌ {A = ℕ} 0 1 = cc in omega arith
first-there (f-first e x) = λ j. let z : ◌≡◌ {A = ℕ} 0 1 = cc in omega arith
first-there (f-second e x) = λ j. let z : ◌≡◌ {A = ℕ} 0 1 = cc in omega arith
first-there (f-part e x) = λ j. let z : ◌≡◌ {A = ℕ} 0 1 = cc in omega arith

last_there : {ts : List TypeRow} {r n : ℕ} → Last ts r n → row ts r ≢ EmptyChoice
last_there (l-item e i) = λ j. let z : ◌≡◌ {A = ℕ} 0 1 = cc (ap label j) in omega arith
last_there (of_right e x) = λ j. let z : ◌≡◌ {A = ℕ} 0 1 = cc in omega arith
last_there (before_right e z x) = λ j. let z : ◌≡◌ {A = ℕ} 0 1 = cc in omega arith
last_there (l-first e x) = λ j. let z : ◌≡◌ {A = ℕ} 0 1 = cc in omega arith
last_there (l-second e x) = λ j. let z : ◌≡◌ {A = ℕ} 0 1 = cc in omega arith
last_there (l-part e x) = λ j. let z : ◌≡◌ {A = ℕ} 0 1 = cc in omega arith

pub first_past : (ts : List TypeRow) (r n : ℕ) → length ts ≤ r → First ts r n → ⊥
first_past ts r n l x = first-there x (past_row ts r l)

pub last_past : (ts : List TypeRow) (r n : ℕ) → length ts ≤ r → Last ts r n → ⊥
last_past ts r n l x = last_there x (past_row ts r l)

-- the row turned has the same parts
pub turned-owns : (w : TypeRow) (p : ℕ) → owns (turned w) p ≡ true → owns w p ≡ true
turned-owns EmptyChoice p e = e
turned-owns EmptySequence p e = e
turned-owns Integer p e = e
turned-owns String p e = e
turned-owns Boolean p e = e
turned-owns (Element g c) p e = e
turned-owns (AnyElement c) p e = e
turned-owns (Sequence a b) p e = elim (or_cases (eqb b p) (eqb a p) e) [ inl x ↦ or_right (eqb a p) (eqb b p) x | inr x ↦ or_left (eqb a p) (eqb b p) x ]
turned-owns (Choice a b) p e = e
turned-owns (Repetition a) p e = e
