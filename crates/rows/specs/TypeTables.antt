-- The rules on the parts of type rows, as tests on the rows of a table.
use Rattle.std.specs.Prelude.{Bool, true, not, ◌&&◌, List, [], ◌∷◌, ◌++◌, length}
use Rattle.std.specs.List.{list_all}
use Rattle.rows.specs.declared.type_row.TypeRow.{TypeRow}
use Rattle.rows.specs.TypeRows.{type_fits, shares, twice}

-- no row of the list has a part of this row
abbrev pub free : List TypeRow → TypeRow → Bool
free qs r = list_all (λ q. not (shares r q)) qs

-- A type row keeps the rules behind those before it: its fields are in range, its parts are lower, named once and not owned yet.
abbrev pub type_right : List TypeRow → TypeRow → Bool
type_right before r = type_fits (length before) r && (not (twice r) && free before r)

abbrev pub types_lawful : List TypeRow → List TypeRow → Bool
types_lawful before [] = true
types_lawful before (r ∷ rs) = type_right before r && types_lawful (before ++ (r ∷ [])) rs
