-- Items that overlap.
use Rattle.std.proofs.Common.{◌≡◌, ℕ, ◌+◌, ◌<◌, min, Bool, true, false, eqb, List, length, get_or, slice_index, Some, None, Option, sym, refl, ap, ◌∙◌, subst, inl, inr, arith}
use Rattle.std.specs.Bool.{MatchBool}
use Rattle.std.specs.List.{AllWithin, HoldsAt, enumerate_from}
use Rattle.std.proofs.lemmas.List.FromFn.{length-enumerate_from, get_or-enumerate_from}
use Rattle.std.proofs.lemmas.Bool.{cases_eq, cases_order, ne_eqb}
use Rattle.rows.specs.declared.type_row.TypeRow.{TypeRow}
use Rattle.bits.specs.Bits.{related, row_items}
use Rattle.bits.proofs.RowItems.{each_item, all_items, some_item}
use Rattle.types.specs.Parts.{row}
use Rattle.types.specs.Determinism.{Label, kind, tag, any_tag, label, meets, both_meet, overlaps}
use Rattle.types.specs.Tables.{Exactly}
use Rattle.positions.specs.Filling.{Alone, Clear, ClearItems}

eqb-sym : (x y : ℕ) → eqb x y ≡ eqb y x
eqb-sym x y = elim (cases_eq x y) [ inl e ↦ ap (λ z. eqb z y) e ∙ ap (λ z. eqb y z) (sym e) | inr h ↦ ne_eqb x y h ∙ sym (ne_eqb y x (λ e. h (sym e))) ]

meets-sym : (x y : Label) → meets x y ≡ meets y x
meets-sym (kind x) (kind y) = eqb-sym x y
meets-sym (kind x) (tag u) = refl
meets-sym (kind x) any_tag = refl
meets-sym (tag t) (kind y) = refl
meets-sym (tag t) (tag u) = eqb-sym t u
meets-sym (tag t) any_tag = refl
meets-sym any_tag (kind y) = refl
meets-sym any_tag (tag u) = refl
meets-sym any_tag any_tag = refl

both_meet_sym : (x y : Option Label) → both_meet x y ≡ both_meet y x
both_meet_sym None None = refl
both_meet_sym None (Some y) = refl
both_meet_sym (Some x) None = refl
both_meet_sym (Some x) (Some y) = meets-sym x y

-- the first item behind m, as a number of 32 bits
abbrev pub next_of : ℕ → ℕ
next_of m = min (m + 1) 4294967295

-- no item of the row behind m overlaps m
abbrev pub AloneFrom : List TypeRow → List ℕ → ℕ → ℕ → Type 0
AloneFrom ts ws place m = (n : ℕ) → m < n → n < 512 → related ws place n ≡ true → overlaps (row ts m) (row ts n) ≡ true → n ≡ m

module _ (ts : List TypeRow) (ws : List ℕ) (place : ℕ) where
  pub alone_from : (m : ℕ) → m < 512 → Alone ts m (row_items ws place (next_of m)) → AloneFrom ts ws place m
  alone_from m s h n l = each_item ws place (next_of m) (λ n. overlaps (row ts m) (row ts n) ≡ true → n ≡ m) (λ k d l b. h k d b) n (omega arith)

  pub from_alone : (m : ℕ) → m < 512 → AloneFrom ts ws place m → Alone ts m (row_items ws place (next_of m))
  from_alone m s h = all_items ws place (next_of m) (λ n. overlaps (row ts m) (row ts n) ≡ true → n ≡ m) (λ n l. h n (omega arith))

  -- no two items overlap exactly if each overlaps none behind it
  pub clear_of : ((m : ℕ) → m < 512 → related ws place m ≡ true → AloneFrom ts ws place m) → Clear ts ws place
  clear_of all m n l h x y o = elim (cases_order m n) [
    | inl e ↦ e
    | inr (inl i) ↦ sym (all m l x n i h y o)
    | inr (inr i) ↦ all n h y m i l x (both_meet_sym (label (row ts n)) (label (row ts m)) ∙ o)
  ]

  pub of_clear : Clear ts ws place → (m : ℕ) → m < 512 → related ws place m ≡ true → AloneFrom ts ws place m
  of_clear c m l x n le h y o = sym (c m n l h x y o)

  -- each item stands alone among those behind it, or one does not
  pub clear_by : (r : Bool) → MatchBool r (AllWithin (λ m. Alone ts m (row_items ws place (next_of m))) (row_items ws place 0) 0 (length (row_items ws place 0))) ((k : ℕ) × (k < length (row_items ws place 0)) × HoldsAt (λ m. Alone ts m (row_items ws place (next_of m)) → ⊥) (row_items ws place 0) k)
      → Exactly r (Clear ts ws place)
  clear_by true h = (λ _. clear_of (λ m l x. alone_from m l (each_item ws place 0 (λ m. Alone ts m (row_items ws place (next_of m))) h m (omega arith) l x)), λ _. tt)
  clear_by false h = (λ x. absurd x, λ c. let s = some_item ws place 0 (λ m. Alone ts m (row_items ws place (next_of m)) → ⊥) (h.0, (h.1, h.2)) in s.1.3 (from_alone s.0 s.1.1 (of_clear c s.0 s.1.1 s.1.2)))

-- each row of the root has clear items behind it, or one has not
module _ (ts : List TypeRow) (ws tops : List ℕ) (root : ℕ) where
  abbrev pub ClearBehind : ℕ × ℕ → Type 0
  ClearBehind p = p.1 ≡ root → Clear ts ws (512 + p.0)

  numbered : (xs : List ℕ) (k : ℕ) → k < length xs → get_or (enumerate_from 0 xs) k (0, 0) ≡ (k, get_or xs k 0)
  numbered xs k l = let z : 0 + k ≡ k = omega arith in get_or-enumerate_from 0 xs k (0, 0) l ∙ ap (λ i. (i, get_or xs k 0)) z

  pub items_clear_by : (r : Bool) (xs : List ℕ) → length xs ≡ length ts → ((k : ℕ) → k < length ts → get_or xs k 0 ≡ slice_index tops k)
      → MatchBool r (AllWithin ClearBehind (enumerate_from 0 xs) 0 (length (enumerate_from 0 xs))) ((k : ℕ) × (k < length (enumerate_from 0 xs)) × HoldsAt (λ p. ClearBehind p → ⊥) (enumerate_from 0 xs) k)
      → Exactly r (ClearItems ts tops ws root)
  items_clear_by true xs long same h = (λ _ k l e. (let n = length-enumerate_from 0 xs in subst ClearBehind (numbered xs k (omega arith)) (h k (0, 0) (omega arith) (omega arith)) (same k l ∙ e)), λ _. tt)
  items_clear_by false xs long same h = (
    λ x. absurd x,
    λ c. (
        let n = length-enumerate_from 0 xs in
        let l = h.1 in
        subst (λ p. ClearBehind p → ⊥) (numbered xs h.0 (omega arith)) (h.2 (0, 0)) (λ e. c h.0 (omega arith) (sym (same h.0 (omega arith)) ∙ e))),
  )
