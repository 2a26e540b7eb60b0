-- The tables of types that can be asked about.
use Rattle.std.specs.Prelude.{◌≡◌}
use Rattle.types.specs.declared.type_rows.TypeRows.{TypeRows}
use Rattle.types.specs.Asking.{Askable}
use Rattle.types.specs.Tables.{rows_of}
use Rattle.positions.specs.declared.tables.Positions.{Positions}
use Rattle.positions.specs.Built.{Built}

-- the positions of types that can be asked about
pub record Answerable (t : TypeRows) (There : Type 0) (p : Positions) : Type 0 where
  pub askable : Askable (rows_of t) There
  pub types : p.types ≡ t
  pub built : Built p
