-- What an accepted check means by the typing rules.
use Rattle.std.specs.Prelude.{◌≡◌, ℕ, ◌+◌, List, [], ◌∷◌, length, Some}
use Rattle.rows.specs.declared.type_row.TypeRow.{TypeRow}
use Rattle.rows.specs.declared.function.Function.{Function}
use Rattle.rows.specs.declared.function.Query.{Query}
use Rattle.rows.specs.Programs.{ProgramRows}
use Rattle.types.specs.Belonging.{Subtype}
use Rattle.typing.specs.declared.answer.QueryType.{QueryType}
use Rattle.typing.specs.Outcomes.{Progress}
use Rattle.typing.specs.Rules.{Types}
use Rattle.typing.specs.Checking.{Ready, declared}

-- The functions in order: with its parameter, each one's body has by the rules a type that fits its result.
pub data FunctionsFit (g : ProgramRows) : List Function → Progress → Progress → Type 0 where
  no_more : {p : Progress} → FunctionsFit g [] p p
  body_fits : {f : Function} {fs : List Function} {b x : ℕ} {p q o : Progress} → f.body ≡ Some b → Types g (f.parameter ∷ []) b p x q → Subtype q.types x f.result → FunctionsFit g fs q o → FunctionsFit g (f ∷ fs) p o

-- The check of types ts and a program is accepted with this answer, and leaves the types us: all functions fit, and with its input the query has by the rules the type that is answered.
pub record AcceptedBy (ts : List TypeRow) (g : ProgramRows) (a : QueryType) (us : List TypeRow) : Type 0 where
  pub query : Query
  pub ready : Ready ts g query
  pub between : Progress
  pub functions : FunctionsFit g g.functions (declared ts) between
  pub answer : Types g (query.input ∷ []) query.row between a.row (record { types = us; error = a.error })
  pub made : length us ≡ length ts + a.made
