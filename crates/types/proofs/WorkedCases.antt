-- The worked small types.
use Rattle.std.proofs.Common.{◌≡◌, ℕ, zero, suc, true, ◌⊎◌, List, pos, Some, sym, refl, ap, ◌∙◌, subst, inl, inr, arith}
use Rattle.forest.specs.Forests.{Scalar, integer, string, boolean, Forest, none, leaf, node, tag_lawful}
use Rattle.rows.specs.declared.type_row.TypeRow.{TypeRow}
use Rattle.rows.specs.declared.type_row.TypeRow.TheVariants.{Element, Sequence, Repetition}
use Rattle.types.specs.Parts.{row}
use Rattle.types.specs.Belonging.{scalar_row, Belongs, nothing, one_scalar, one_element, any_element, both, by_first, by_second, no_more, one_more}
use Rattle.types.specs.Determinism.{Label, label, Nullable, empty, repeated, both_parts, first_part, second_part, First, MeetsAt, in_sequence, in_repetition, Deterministic}
use Rattle.types.specs.Determinism.First.{item, of_left, past_left, of_first, of_second, of_part}
use Rattle.types.specs.Worked.{one_then_many, many_then_one, endless, wide_and_narrow, WorkedTypes}

-- ROWS BY THEIR KIND

module _ {ts : List TypeRow} where
  item-first : {r n : ℕ} {l : Label} → label (row ts r) ≡ Some l → First ts r n → n ≡ r
  item-first i (item e j) = j
  item-first i (of_left e h) = let z : ◌≡◌ {A = ℕ} 0 1 = cc (ap label e) in absurd (omega arith)
  item-first i (past_left e z h) = let z : ◌≡◌ {A = ℕ} 0 1 = cc (ap label e) in absurd (omega arith)
  item-first i (of_first e h) = let z : ◌≡◌ {A = ℕ} 0 1 = cc (ap label e) in absurd (omega arith)
  item-first i (of_second e h) = let z : ◌≡◌ {A = ℕ} 0 1 = cc (ap label e) in absurd (omega arith)
  item-first i (of_part e h) = let z : ◌≡◌ {A = ℕ} 0 1 = cc (ap label e) in absurd (omega arith)

  item_not_null : {r : ℕ} {l : Label} → label (row ts r) ≡ Some l → Nullable ts r → ⊥
  item_not_null i (empty e) = let z : ◌≡◌ {A = ℕ} 0 1 = cc (ap label e) in omega arith
  item_not_null i (repeated e) = let z : ◌≡◌ {A = ℕ} 0 1 = cc (ap label e) in omega arith
  item_not_null i (both_parts e p q) = let z : ◌≡◌ {A = ℕ} 0 1 = cc (ap label e) in omega arith
  item_not_null i (first_part e p) = let z : ◌≡◌ {A = ℕ} 0 1 = cc (ap label e) in omega arith
  item_not_null i (second_part e p) = let z : ◌≡◌ {A = ℕ} 0 1 = cc (ap label e) in omega arith

  sequence_first : {r a b n : ℕ} → row ts r ≡ Sequence a b → First ts r n → First ts a n ⊎ (Nullable ts a × First ts b n)
  sequence_first i (item e j) = let z : ◌≡◌ {A = ℕ} 0 1 = cc (ap label i) in absurd (omega arith)
  sequence_first {a = a} {n = n} i (of_left {a = c} e h) = let j : c ≡ a = cc in inl (subst (λ x. First ts x n) j h)
  sequence_first {a = a} {b} {n} i (past_left {a = c} {b = d} e z h) = let j : c ≡ a = cc in let k : d ≡ b = cc in inr (subst (Nullable ts) j z, subst (λ x. First ts x n) k h)
  sequence_first i (of_first e h) = let z : ◌≡◌ {A = ℕ} 0 1 = cc in absurd (omega arith)
  sequence_first i (of_second e h) = let z : ◌≡◌ {A = ℕ} 0 1 = cc in absurd (omega arith)
  sequence_first i (of_part e h) = let z : ◌≡◌ {A = ℕ} 0 1 = cc in absurd (omega arith)

  repetition_first : {r a n : ℕ} → row ts r ≡ Repetition a → First ts r n → First ts a n
  repetition_first i (item e j) = let z : ◌≡◌ {A = ℕ} 0 1 = cc (ap label i) in absurd (omega arith)
  repetition_first i (of_left e h) = let z : ◌≡◌ {A = ℕ} 0 1 = cc in absurd (omega arith)
  repetition_first i (past_left e z h) = let z : ◌≡◌ {A = ℕ} 0 1 = cc in absurd (omega arith)
  repetition_first i (of_first e h) = let z : ◌≡◌ {A = ℕ} 0 1 = cc in absurd (omega arith)
  repetition_first i (of_second e h) = let z : ◌≡◌ {A = ℕ} 0 1 = cc in absurd (omega arith)
  repetition_first {a = a} {n} i (of_part {a = c} e h) = let j : c ≡ a = cc in subst (λ x. First ts x n) j h

  -- what follows at a row of another kind
  no_meeting : {s m n : ℕ} {w : TypeRow} → row ts s ≡ w → ((a b : ℕ) → w ≡ Sequence a b → ⊥) → ((a : ℕ) → w ≡ Repetition a → ⊥) → MeetsAt ts s m n → ⊥
  no_meeting i f g (in_sequence {a} {b} e l h) = f a b (sym i ∙ e)
  no_meeting i f g (in_repetition {a} e l h) = g a (sym i ∙ e)

  sequence_meets : {s a b m n : ℕ} → row ts s ≡ Sequence a b → MeetsAt ts s m n → First ts b n
  sequence_meets {b = b} {n = n} i (in_sequence {b = d} e l h) = let k : d ≡ b = cc in subst (λ x. First ts x n) k h
  sequence_meets i (in_repetition e l h) = let z : ◌≡◌ {A = ℕ} 0 1 = cc in absurd (omega arith)

  repetition_meets : {s a m n : ℕ} → row ts s ≡ Repetition a → MeetsAt ts s m n → First ts a n
  repetition_meets i (in_sequence e l h) = let z : ◌≡◌ {A = ℕ} 0 1 = cc in absurd (omega arith)
  repetition_meets {a = a} {n = n} i (in_repetition {a = c} e l h) = let k : c ≡ a = cc in subst (λ x. First ts x n) k h

-- INTEGER, INTEGER*

first-only : (n : ℕ) → First one_then_many 3 n → n ≡ 0
first-only n f = elim (sequence_first refl f) [ inl h ↦ item-first refl h | inr h ↦ absurd (item_not_null refl h.0) ]

follow_only : (s m n : ℕ) → MeetsAt one_then_many s m n → n ≡ 1
follow_only zero m n h = absurd (no_meeting refl (λ a b e. let z : ◌≡◌ {A = ℕ} 0 1 = cc in omega arith) (λ a e. let z : ◌≡◌ {A = ℕ} 0 1 = cc in omega arith) h)
follow_only (suc zero) m n h = absurd (no_meeting refl (λ a b e. let z : ◌≡◌ {A = ℕ} 0 1 = cc in omega arith) (λ a e. let z : ◌≡◌ {A = ℕ} 0 1 = cc in omega arith) h)
follow_only (suc (suc zero)) m n h = item-first refl (repetition_meets refl h)
follow_only (suc (suc (suc zero))) m n h = item-first refl (repetition_first refl (sequence_meets refl h))
follow_only (suc (suc (suc (suc s)))) m n h = absurd (no_meeting refl (λ a b e. let z : ◌≡◌ {A = ℕ} 0 1 = cc in omega arith) (λ a e. let z : ◌≡◌ {A = ℕ} 0 1 = cc in omega arith) h)

-- INTEGER*, INTEGER

two-firsts : Deterministic many_then_one 3 → ⊥
two-firsts d = let e = d.firsts 0 2 (of_left refl (of_part refl (item refl refl))) (past_left refl (repeated refl) (item refl refl)) refl in omega arith

-- ELEMENTS

-- a forest of an element row
data Inside (ts : List TypeRow) (t c : ℕ) : Forest → Type 0 where
  inside : {x : Forest} → tag_lawful t ≡ true → Belongs ts c x → Inside ts t c (node t x none)

scalar_no_element : {A : Type 0} (s : Scalar) {t c : ℕ} → Element t c ≡ scalar_row s → A
scalar_no_element (integer z) e = let w : ◌≡◌ {A = ℕ} 0 1 = cc in absurd (omega arith)
scalar_no_element (string bs) e = let w : ◌≡◌ {A = ℕ} 0 1 = cc in absurd (omega arith)
scalar_no_element (boolean b) e = let w : ◌≡◌ {A = ℕ} 0 1 = cc in absurd (omega arith)

element-forest : {ts : List TypeRow} {r t c : ℕ} {f : Forest} → row ts r ≡ Element t c → Belongs ts r f → Inside ts t c f
element-forest i (nothing e) = let z : ◌≡◌ {A = ℕ} 0 1 = cc in absurd (omega arith)
element-forest i (one_scalar {s = s} e l) = scalar_no_element s (sym i ∙ e)
element-forest {ts} {t = t} {c} i (one_element {t = u} {c = d} {f = x} e l b) =
    let j : u ≡ t = cc in
    let k : d ≡ c = cc in
    subst (λ z. Inside ts t c (node z x none)) (sym j) (inside (subst (λ z. tag_lawful z ≡ true) j l) (subst (λ z. Belongs ts z x) k b))
element-forest i (any_element e l b) = let z : ◌≡◌ {A = ℕ} 0 1 = cc in absurd (omega arith)
element-forest i (both e p q) = let z : ◌≡◌ {A = ℕ} 0 1 = cc in absurd (omega arith)
element-forest i (by_first e p) = let z : ◌≡◌ {A = ℕ} 0 1 = cc in absurd (omega arith)
element-forest i (by_second e p) = let z : ◌≡◌ {A = ℕ} 0 1 = cc in absurd (omega arith)
element-forest i (no_more e) = let z : ◌≡◌ {A = ℕ} 0 1 = cc in absurd (omega arith)
element-forest i (one_more e p q) = let z : ◌≡◌ {A = ℕ} 0 1 = cc in absurd (omega arith)

smaller : {t : ℕ} {x f : Forest} → (Belongs endless 0 x → ⊥) → Inside endless 6 0 (node t x f) → ⊥
smaller h (inside l d) = h d

-- an element whose content is itself has no forest: each would hold a smaller one
no_forest : (f : Forest) → Belongs endless 0 f → ⊥
no_forest none b = elim (element-forest refl b) [ ]
no_forest (leaf s f) b = elim (element-forest refl b) [ ]
no_forest (node t x f) b = smaller (no_forest x) (element-forest refl b)

into-any : {f : Forest} → Inside wide_and_narrow 6 0 f → Belongs wide_and_narrow 2 f
into-any (inside l b) = any_element refl l b

tag_six : {t : ℕ} {x f : Forest} → Inside wide_and_narrow 6 0 (node t x f) → t ≡ 6
tag_six (inside l b) = refl

too_wide : ((f : Forest) → Belongs wide_and_narrow 2 f → Belongs wide_and_narrow 1 f) → ⊥
too_wide h =
    let zero-in-one = h (node 1 (leaf (integer (pos 0)) none) none) (any_element refl refl (one_scalar refl refl)) in
    let e = tag_six (element-forest refl zero-in-one) in
    omega arith

pub worked_types : WorkedTypes
worked_types = record {
  one_then_many_one_way = record {
    firsts = λ m n f g o. first-only m f ∙ sym (first-only n g);
    follows = λ p m n w f g o. follow_only f.0 p m f.1 ∙ sym (follow_only g.0 p n g.1);
  };
  many_then_one_not = two-firsts;
  endless_fits = λ f b. absurd (no_forest f b);
  narrow_fits = λ f b. into-any (element-forest refl b);
  wide_does_not = too_wide;
}
