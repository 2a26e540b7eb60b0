-- Places as lists of rows left to be met.
use Rattle.std.proofs.Common.{◌≡◌, ℕ, List, [], ◌∷◌, Some, refl, ap, ◌∙◌, subst}
use Rattle.rows.specs.declared.type_row.TypeRow.{TypeRow}
use Rattle.types.specs.Parts.{row, Lawful}
use Rattle.types.specs.Determinism.{Label, label, First, MeetsAt, in_sequence, in_repetition}
use Rattle.types.specs.Determinism.First.{item as f-item, of_left, past_left, of_first, of_second, of_part}
use Rattle.types.specs.Determinism.Last.{item as l-item}
use Rattle.types.specs.Places.{Place, start, behind, type_of, Next, next_first, next_follow, Ends, end_nothing, end_last, Left, l_top}
use Rattle.types.proofs.Steps.{b_part, Step, now, later, Nullables, z_end, z_more, begins_first, first-begins}
use Rattle.types.proofs.Contexts.{left_of, part_in, unique, within-left, begins_left, after, ends, last_opens}

-- the rows that are left at a place
pub data Stands (ts : List TypeRow) : Place → List ℕ → Type 0 where
  on-start : {r : ℕ} → Stands ts (start r) (r ∷ [])
  on-behind : {r n : ℕ} {l : Label} {k : List ℕ} → label (row ts n) ≡ Some l → Left ts r n k → Stands ts (behind r n) k

pub first-label : {ts : List TypeRow} {r n : ℕ} → First ts r n → (l : Label) × (label (row ts n) ≡ Some l)
first-label {ts} (f-item {l = l} e i) = (l, ap (λ x. label (row ts x)) i ∙ e)
first-label (of_left e h) = first-label h
first-label (past_left e z h) = first-label h
first-label (of_first e h) = first-label h
first-label (of_second e h) = first-label h
first-label (of_part e h) = first-label h

pub meets-first : {ts : List TypeRow} {s m n : ℕ} → MeetsAt ts s m n → (r : ℕ) × First ts r n
meets-first (in_sequence {b = b} e l f) = (b, f)
meets-first (in_repetition {a = a} e l f) = (a, f)

-- what may come next is an item
pub next-label : {ts : List TypeRow} {p : Place} {n : ℕ} → Next ts p n → (l : Label) × (label (row ts n) ≡ Some l)
next-label (next_first f) = first-label f
next-label (next_follow f) = first-label (meets-first f.1.1).1

-- a step from a place, as a next item, and the place behind it
pub record Going (ts : List TypeRow) (p : Place) (n : ℕ) (u : List ℕ) : Type 0 where
  pub next : Next ts p n
  pub left : Left ts (type_of p) n u
  pub stands : Stands ts (behind (type_of p) n) u

module _ {ts : List TypeRow} (law : Lawful ts) where
  going : {p : Place} {n : ℕ} {u : List ℕ} → Next ts p n → Left ts (type_of p) n u → Going ts p n u
  going x h = record { next = x; left = h; stands = on-behind (next-label x).1 h }

  no_step : {n : ℕ} {u : List ℕ} → Step ts [] n u → ⊥
  no_step t = elim t [ ]

  pub goes : {p : Place} {k u : List ℕ} {n : ℕ} → Stands ts p k → Step ts k n u → Going ts p n u
  goes (on-start {r}) (now g) = going (next_first (begins_first g)) (begins_left law (l_top refl refl) g)
  goes (on-start {r}) (later z t) = absurd (no_step t)
  goes (on-behind e h) t = let a = after law h (l-item e refl) t in going (next_follow a.0) a.1

  meets-step : {r s m n : ℕ} {k : List ℕ} → Left ts r s k → MeetsAt ts s m n → (h : List ℕ) × (Left ts r m h × ((u : List ℕ) × Step ts h n u))
  meets-step {n = n} {k} h (in_sequence e l f) =
      let b = last_opens law (left_of law e h) l in
      let g = first-begins k f in
      (b.rest, (b.left, (g.0, b.opens.steps n g.0 (now g.1))))
  meets-step {s = s} {n = n} {k} h (in_repetition e l f) =
      let b = last_opens law (part_in law e h) l in
      let g = first-begins (s ∷ k) f in
      (b.rest, (b.left, (g.0, b.opens.steps n g.0 (now (b_part e g.1)))))

  pub step_of : {p : Place} {k : List ℕ} {n : ℕ} → Stands ts p k → Next ts p n → (u : List ℕ) × Step ts k n u
  step_of (on-start {r}) (next_first f) = let g = first-begins [] f in (g.0, now g.1)
  step_of {n = n} (on-behind e h) (next_follow f) =
      let w = within-left law f.1.0 in
      let g = meets-step w.1 f.1.1 in
      (g.1.1.0, subst (λ x. Step ts x n g.1.1.0) (unique law g.1.0 h) g.1.1.1)

  pub ends_of : {p : Place} {k : List ℕ} → Stands ts p k → Nullables ts k → Ends ts p
  ends_of on-start (z_more z h) = end_nothing z
  ends_of (on-behind e h) z = end_last (ends law h (l-item e refl) z)

  pub nulls_of : {p : Place} {k : List ℕ} → Stands ts p k → Ends ts p → Nullables ts k
  nulls_of on-start (end_nothing z) = z_more z z_end
  nulls_of (on-behind e h) (end_last l) = let b = last_opens law (l_top refl refl) l in subst (Nullables ts) (unique law b.left h) (b.opens.nulls z_end)
