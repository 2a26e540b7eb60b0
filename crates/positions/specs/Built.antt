-- Tables of positions, and that they are right.
use Rattle.std.specs.Prelude.{ℕ, ◌%◌, Bool, cond, List, nat_lt, slice_index}
use Rattle.rows.specs.declared.type_row.TypeRow.{TypeRow}
use Rattle.types.specs.Tables.{rows_of}
use Rattle.bits.specs.Bits.{related}
use Rattle.positions.specs.Below.{flag}
use Rattle.positions.specs.declared.tables.Positions.{Positions}
use Rattle.positions.specs.Tables.{TablesOf}

abbrev pub types_of : Positions → List TypeRow
types_of p = rows_of p.types

abbrev pub top : Positions → ℕ → ℕ
top p r = slice_index p.tops r

-- The tables are those of the types.
abbrev pub Built : Positions → Type 0
Built p = TablesOf (types_of p) p.nullable.marks p.alive.marks p.tops p.lasts.words p.whole

-- The forest may end at a place of the type of row `inside`, by the tables. A place has the number of its row, at the start, or 512 more than the item
-- that it is behind.
abbrev pub ends_at : Positions → ℕ → ℕ → Bool
ends_at p inside place = cond (nat_lt place 512) (flag p.nullable.marks place) (related p.lasts.words inside (place % 512))
