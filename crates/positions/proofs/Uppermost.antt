-- The root that a row is within.
use Rattle.std.proofs.Common.{◌≡◌, ℕ, zero, suc, ◌+◌, ◌<◌, ◌≤◌, true, false, eqb, ◌⊎◌, List, length, get_or, sym, refl, ap, ◌∙◌, subst, inl, inr, arith}
use Rattle.std.proofs.lemmas.List.{get_or_past}
use Rattle.std.proofs.lemmas.Bool.{cases_Bool, cases_lt, cases_eq}
use Rattle.rows.specs.declared.type_row.TypeRow.{TypeRow}
use Rattle.rows.specs.declared.type_row.TypeRow.TheVariants.{EmptyChoice, EmptySequence, Integer, String, Boolean, Element, AnyElement, Sequence, Choice, Repetition}
use Rattle.rows.specs.TypeRows.{owns}
use Rattle.types.specs.Parts.{row, Root, Lawful, Within, itself, part}
use Rattle.positions.specs.Life.{gift, GivenDown}
use Rattle.positions.proofs.Downward.{same-both}

same-gift : {A : Type 0} (w : TypeRow) (x : A) (p : ℕ) → gift w x x p ≡ x
same-gift EmptyChoice x p = refl
same-gift EmptySequence x p = refl
same-gift Integer x p = refl
same-gift String x p = refl
same-gift Boolean x p = refl
same-gift (Element t c) x p = refl
same-gift (AnyElement c) x p = refl
same-gift (Sequence a b) x p = same-both (eqb p a) x
same-gift (Choice a b) x p = refl
same-gift (Repetition a) x p = refl

-- a row below n owns p, or none does
pub owner : (ts : List TypeRow) (p n : ℕ) → ((s : ℕ) × ((s < n) × (owns (row ts s) p ≡ true))) ⊎ ((s : ℕ) → s < n → owns (row ts s) p ≡ false)
owner ts p zero = inr (λ s l. absurd (omega arith))
owner ts p (suc n) = elim (owner ts p n) [
  | inl h ↦ (let l = h.1.0 in inl (h.0, (omega arith, h.1.1)))
  | inr f ↦ elim (cases_Bool (owns (row ts n) p)) [
    | inl o ↦ inl (n, (omega arith, o))
    | inr o ↦ inr (λ s l. elim (cases_eq s n) [ inl e ↦ subst (λ z. owns (row ts z) p ≡ false) (sym e) o | inr ne ↦ f s (omega arith) ])
  ]
]

-- what no row of the table owns is owned nowhere
pub alone : (ts : List TypeRow) (r : ℕ) → ((s : ℕ) → s < length ts → owns (row ts s) r ≡ false) → (s : ℕ) → owns (row ts s) r ≡ false
alone ts r f s = elim (cases_lt s (length ts)) [ inl l ↦ f s l | inr l ↦ ap (λ w. owns w r) (get_or_past ts s EmptyChoice l) ]

pub record Topped (ts : List TypeRow) (top r : ℕ) : Type 0 where
  pub root : Root ts top
  pub within : Within ts top r

module _ {ts : List TypeRow} (law : Lawful ts) (tops : List ℕ) (done : GivenDown ts (length ts) 0 (λ r. r) (λ w x. x) tops 0) where
  -- so many rows are above r, at most
  up : (n r : ℕ) → length ts ≤ r + n → r < length ts → Topped ts (get_or tops r 0) r
  up zero r h l = absurd (omega arith)
  up (suc n) r h l = elim (owner ts r (length ts)) [
    | inl o ↦ (
        let s = o.0 in
        let z = law.lower s r o.1.1 in
        let g = up n s (omega arith) o.1.0 in
        let e : get_or tops r 0 ≡ get_or tops s 0 = done.parts s r (omega arith) o.1.0 o.1.1 ∙ same-gift (row ts s) (get_or tops s 0) r in
        subst (λ t. Topped ts t r) (sym e) (record { root = g.root; within = part g.within o.1.1 }))
    | inr f ↦ (
        let few = law.few in
        let e : get_or tops r 0 ≡ r = done.starts r (omega arith) (λ s q. f s) in
        subst (λ t. Topped ts t r) (sym e) (record { root = record { there = l; unowned = alone ts r f }; within = itself refl }))
  ]

  pub topped : (r : ℕ) → r < length ts → Topped ts (get_or tops r 0) r
  topped r l = up (length ts) r (omega arith) l
