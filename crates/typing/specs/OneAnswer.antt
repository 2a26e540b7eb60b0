-- The check has one answer.
use Rattle.std.specs.Prelude.{◌≡◌, List, Result}
use Rattle.rows.specs.declared.type_row.TypeRow.{TypeRow}
use Rattle.rows.specs.Programs.{ProgramRows}
use Rattle.typing.specs.declared.fault.TypeFault.{TypeFault}
use Rattle.typing.specs.declared.answer.QueryType.{QueryType}
use Rattle.typing.specs.Checking.{Checks}

-- The rows declared and the program decide what the check answers, and which types it leaves.
abbrev pub OneAnswer : Type 0
OneAnswer = (ts us vs : List TypeRow) (g : ProgramRows) (a b : Result QueryType TypeFault) → Checks ts g a us → Checks ts g b vs → (a ≡ b) × (us ≡ vs)
