-- What the calls that type functions and the query answer, and what they make of the session's tables.
use Rattle.std.specs.Prelude.{ℕ, List, Result}
use Rattle.rows.specs.declared.function.Function.{Function}
use Rattle.rows.specs.Programs.{ProgramRows}
use Rattle.typing.specs.declared.fault.TypeFault.{TypeFault}
use Rattle.typing.specs.Outcomes.{Progress, Gives, ending_of}
use Rattle.typing.specs.Checking.{functions_typed}

-- functions have been typed in order, the first being function n
pub record FunctionsGave (g : ProgramRows) (n : ℕ) (fs : List Function) (p : Progress) (result : Result (Unit {0}) TypeFault) (q : Progress) : Type 0 where
  pub gives : Gives (functions_typed g n fs p) (ending_of result q)
