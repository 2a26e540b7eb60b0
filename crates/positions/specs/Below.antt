-- Marks of rows, and what holds below a row.
use Rattle.std.specs.Prelude.{◌≡◌, ℕ, ◌<◌, Bool, false, List, slice_index_or}
use Rattle.rows.specs.declared.type_row.TypeRow.{TypeRow}
use Rattle.rows.specs.TypeRows.{owns}
use Rattle.types.specs.Parts.{row}
use Rattle.types.specs.Determinism.{MeetsAt}

abbrev pub flag : List Bool → ℕ → Bool
flag t r = slice_index_or t r false

-- m and n meet at a row below `end`
abbrev pub MeetsBelow : List TypeRow → ℕ → ℕ → ℕ → Type 0
MeetsBelow ts end m n = (s : ℕ) × ((s < end) × MeetsAt ts s m n)

-- no row below `end` owns c
abbrev pub FreeBelow : List TypeRow → ℕ → ℕ → Type 0
FreeBelow ts end c = (s : ℕ) → s < end → owns (row ts s) c ≡ false
