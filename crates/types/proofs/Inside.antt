-- Rows within a row: items, parts, and the one root above them.
use Rattle.std.proofs.Common.{◌≡◌, ℕ, ◌<◌, ◌≤◌, ◌⊎◌, List, length, Some, None, Option, sym, refl, ap, ◌∙◌, subst, inl, inr, arith}
use Rattle.std.proofs.lemmas.Bool.{cases_lt, false≢true}
use Rattle.std.proofs.lemmas.List.{get_or_past}
use Rattle.rows.specs.declared.type_row.TypeRow.{TypeRow}
use Rattle.rows.specs.declared.type_row.TypeRow.TheVariants.{EmptyChoice}
use Rattle.types.specs.Parts.{row, Root, Lawful, Within, itself, part}
use Rattle.types.specs.Determinism.{Label, label, First, Last, MeetsAt, in_sequence, in_repetition}
use Rattle.types.specs.Determinism.First.{item as f-item, of_left, past_left, of_first as f-first, of_second as f-second, of_part as f-part}
use Rattle.types.specs.Determinism.Last.{item as l-item, of_right, before_right, of_first as l-first, of_second as l-second, of_part as l-part}
use Rattle.types.proofs.Contexts.{left, right, first, second, repeats, owned, within-left, low}

-- an item is a row of the table
pub item-there : (ts : List TypeRow) (n : ℕ) {l : Label} → label (row ts n) ≡ Some l → n < length ts
item-there ts n {l} e = elim (cases_lt n (length ts)) [ inl lt ↦ lt | inr past ↦ no_item (sym (ap label (get_or_past ts n EmptyChoice past)) ∙ e) ]
  where
    no_item : {A : Type 0} → ◌≡◌ {A = Option Label} None (Some l) → A
    no_item e = let z : ◌≡◌ {A = ℕ} 0 1 = cc in absurd (omega arith)

module _ {ts : List TypeRow} (law : Lawful ts) where
  pub within_low : {c x : ℕ} → Within ts c x → x ≤ c
  within_low w = low law (within-left law w).1

  pub first-within : {c r n : ℕ} → Within ts c r → First ts r n → Within ts c n
  first-within {c} w (f-item e i) = subst (Within ts c) (sym i) w
  first-within {r = r} w (of_left e h) = first-within (part w (owned ts r e (left refl))) h
  first-within {r = r} w (past_left e z h) = first-within (part w (owned ts r e (right refl))) h
  first-within {r = r} w (f-first e h) = first-within (part w (owned ts r e (first refl))) h
  first-within {r = r} w (f-second e h) = first-within (part w (owned ts r e (second refl))) h
  first-within {r = r} w (f-part e h) = first-within (part w (owned ts r e (repeats refl))) h

  pub last_within : {c r n : ℕ} → Within ts c r → Last ts r n → Within ts c n
  last_within {c} w (l-item e i) = subst (Within ts c) (sym i) w
  last_within {r = r} w (of_right e h) = last_within (part w (owned ts r e (right refl))) h
  last_within {r = r} w (before_right e z h) = last_within (part w (owned ts r e (left refl))) h
  last_within {r = r} w (l-first e h) = last_within (part w (owned ts r e (first refl))) h
  last_within {r = r} w (l-second e h) = last_within (part w (owned ts r e (second refl))) h
  last_within {r = r} w (l-part e h) = last_within (part w (owned ts r e (repeats refl))) h

  pub meets-from : {s x n : ℕ} → MeetsAt ts s x n → Within ts s x
  meets-from {s} (in_sequence e l f) = last_within (part (itself refl) (owned ts s e (left refl))) l
  meets-from {s} (in_repetition e l f) = last_within (part (itself refl) (owned ts s e (repeats refl))) l

  pub meets-to : {c s x n : ℕ} → Within ts c s → MeetsAt ts s x n → Within ts c n
  meets-to {s = s} w (in_sequence e l f) = first-within (part w (owned ts s e (right refl))) f
  meets-to {s = s} w (in_repetition e l f) = first-within (part w (owned ts s e (repeats refl))) f

  -- what a row is within stands in one line
  pub line : {c s x : ℕ} → Within ts c x → Within ts s x → Within ts c s ⊎ Within ts s c
  line {c} {s} (itself e) w = inr (subst (Within ts s) e w)
  line {c} {s} (part h o) (itself e) = inl (subst (Within ts c) e (part h o))
  line {c} {s} {x} (part {s = p} h o) (part {s = q} g i) = line h (subst (Within ts s) (law.one_owner q p x i o) g)

  -- and a row is within one root
  pub one-root : {c d x : ℕ} → Root ts c → Root ts d → Within ts c x → Within ts d x → c ≡ d
  one-root {c} {d} rc rd v w = elim (line v w) [ inl h ↦ sym (top rd h) | inr h ↦ top rc h ]
    where
      top : {r s : ℕ} → Root ts r → Within ts s r → r ≡ s
      top root (itself e) = e
      top {r} root (part {s = q} h o) = absurd (false≢true (sym (root.unowned q) ∙ o))
