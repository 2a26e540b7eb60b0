-- What the declared rows and the program decide of a check, whatever rows an earlier check has made.
use Rattle.std.specs.Prelude.{ℕ, Err}
use Rattle.rows.specs.declared.function.Query.{Query}
use Rattle.typing.specs.declared.fault.TypeFault.{TypeFault}
use Rattle.typing.specs.Outcomes.{Progress, Gives, goes}
use Rattle.typing.specs.Checking.{Ready, Checks, all_typed, declared}
use Rattle.session.specs.Calls.{Tables}

-- everything can be typed
abbrev pub Accepts : Tables → Type 0
Accepts t = (q : Query) × (x : ℕ) × (o : Progress) × Ready t.types t.program q × Gives (all_typed t.program q (declared t.types)) (goes x o)

-- a check is refused so
abbrev pub Refuses : Tables → TypeFault → Type 0
Refuses t f = Checks t.types t.program (Err f) t.types
