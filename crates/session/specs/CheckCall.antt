-- What a check answers, and what it makes of a session.
use Rattle.std.specs.Prelude.{◌≡◌, List, [], ◌++◌, Ok, Err, Result}
use Rattle.rows.specs.declared.type_row.TypeRow.{TypeRow}
use Rattle.typing.specs.declared.answer.QueryType.{QueryType}
use Rattle.typing.specs.declared.fault.TypeFault.{TypeFault}
use Rattle.typing.specs.Checking.{Checks}
use Rattle.session.specs.Calls.{Standing, opened, checked, Tables}

-- the type rows that a check made, if one stands
abbrev pub made_in : Standing → List TypeRow
made_in opened = []
made_in (checked ms) = ms

-- the declared type rows, and behind them those that a check made
abbrev pub all_types : Tables → List TypeRow
all_types t = t.types ++ made_in t.standing

-- an accepted check stands, and a refused one leaves the session open
abbrev pub Stands : Result QueryType TypeFault → Standing → Type 0
Stands (Ok a) s = (ms : List TypeRow) × (s ≡ checked ms)
Stands (Err f) s = s ≡ opened

-- A check of the session t: it works from the declared rows, and changes nothing but the rows that it makes and how the session stands.
pub record CheckCall (t : Tables) (result : Result QueryType TypeFault) (u : Tables) : Type 0 where
  pub types : u.types ≡ t.types
  pub program : u.program ≡ t.program
  pub checks : Checks t.types t.program result (all_types u)
  pub stands : Stands result u.standing
