-- A table of types by its rows, and decisions about it.
use Rattle.std.specs.Prelude.{ℕ, ◌<◌, Bool, T, ◌↔◌, List, length, take, Some, None, Option}
use Rattle.rows.specs.declared.type_row.TypeRow.{TypeRow}
use Rattle.types.specs.declared.type_rows.TypeRows.{TypeRows}

abbrev pub rows_of : TypeRows → List TypeRow
rows_of t = take t.count t.rows

-- the test is true exactly if the fact holds
abbrev pub Exactly : Bool → Type 0 → Type 0
Exactly b P = T b ↔ P

-- r is the lowest row of which P does not hold
pub record FailsFirst (ts : List TypeRow) (P : ℕ → Type 0) (r : ℕ) : Type 0 where
  pub there : r < length ts
  pub fails : P r → ⊥
  pub before : (n : ℕ) → n < r → P n

-- the lowest row of which P does not hold, or none where it holds of each
abbrev pub Lowest : Option ℕ → List TypeRow → (ℕ → Type 0) → Type 0
Lowest None ts P = (n : ℕ) → n < length ts → P n
Lowest (Some r) ts P = FailsFirst ts P r
