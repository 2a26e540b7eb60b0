-- What an accepted check leaves: the rules on rows are kept, and the row that it answers is a root that nothing names.
use Rattle.std.proofs.Common.{◌≡◌, ℕ, List, length, Some, Ok, arith}
use Rattle.rows.specs.declared.type_row.TypeRow.{TypeRow}
use Rattle.rows.specs.declared.function.Function.{Function}
use Rattle.rows.specs.declared.function.Query.{Query}
use Rattle.rows.specs.Programs.{ProgramRows}
use Rattle.types.specs.Parts.{row, content, Root, Lawful}
use Rattle.types.specs.Places.{Checked}
use Rattle.types.proofs.OfTable.{content_there}
use Rattle.typing.specs.declared.answer.QueryType.{QueryType}
use Rattle.typing.specs.Outcomes.{Progress}
use Rattle.typing.specs.Programs.{Orderly}
use Rattle.typing.specs.Checking.{Ready, Checks, declared}
use Rattle.typing.specs.Accepted.{FunctionsFit, no_more, body_fits, AcceptedBy}
use Rattle.typing.specs.Growth.{Kept, Keeps}
use Rattle.typing.proofs.Accepted.{accepted}
use Rattle.typing.proofs.GrowthSteps.{Start, kept_none, kept_on, start_on, keeps_on}
use Rattle.typing.proofs.Growth.{types_grow}

-- declared rows that can be typed with are as typing needs them
pub ready_checked : {ts : List TypeRow} {g : ProgramRows} {q : Query} → Lawful ts → Ready ts g q → Checked ts (length ts)
ready_checked {ts} law r =
    let contents : (n c : ℕ) → content (row ts n) ≡ Some c → Root ts c = λ n c e. r.contents n (content_there ts n c e) c e in
    record { lawful = law; contents = contents; declared_contents = λ n c l e. (contents n c e).there; one_way = r.one_way }

pub ready_start : {ts : List TypeRow} {g : ProgramRows} {q : Query} → Lawful ts → Ready ts g q → Start (length ts) (declared ts)
ready_start law r = record { checked = ready_checked law r; within = omega arith }

module _ {g : ProgramRows} (orderly : Orderly g) {n : ℕ} where
  pub functions_grow : {fs : List Function} {p q : Progress} → Start n p → FunctionsFit g fs p q → Kept n p q
  functions_grow s no_more = kept_none s
  functions_grow s (body_fits e t f r) = let k = types_grow orderly s t in kept_on k.kept (functions_grow (start_on s k.kept) r)

pub accepted_keeps : {g : ProgramRows} {ts us : List TypeRow} {a : QueryType} → Orderly g → Lawful ts → AcceptedBy ts g a us → Keeps (length ts) (declared ts) a.row (record { types = us; error = a.error })
accepted_keeps orderly law b =
    let s = ready_start law b.ready in
    let k = functions_grow orderly s b.functions in
    keeps_on k (types_grow orderly (start_on s k) b.answer)

pub checks_keep : {g : ProgramRows} {ts us : List TypeRow} (a : QueryType) → Orderly g → Lawful ts → Checks ts g (Ok a) us → Keeps (length ts) (declared ts) a.row (record { types = us; error = a.error })
checks_keep a orderly law c = accepted_keeps orderly law ((accepted orderly law).0 c)
