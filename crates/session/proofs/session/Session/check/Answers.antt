use Rattle.std.proofs.Common.{◌≡◌, true, Ok, Err, Result, MatchResult, arith}
use Rattle.forest.specs.Forests.{bytes_lawful}
use Rattle.types.specs.Parts.{Lawful}
use Rattle.types.proofs.Rules.{lawful}
use Rattle.typing.specs.declared.answer.QueryType.{QueryType}
use Rattle.typing.specs.declared.fault.TypeFault.{TypeFault}
use Rattle.typing.specs.Programs.{Orderly}
use Rattle.typing.proofs.OneAnswer.{checked_once}
use Rattle.evaluation.specs.Promises.{Promises, NotAccepted}
use Rattle.evaluation.proofs.Laws.{run_laws}
use Rattle.evaluation.proofs.Promised.{promised, refused_by_rules}
use Rattle.evaluation.proofs.WorkedRuns.{worked_cases}
use Rattle.session.specs.Calls.{Tables, tables}
use Rattle.session.specs.CheckCall.{CheckCall, all_types}
use Rattle.session.specs.Tables.{declared_of}
use Rattle.session.proofs.CheckCall.{declared_long}
use Rattle.session.proofs.Orders.{orderly}
use Rattle.session.proofs.session.Session.check.Goals as goal

-- an accepted check of a session keeps its promises, and what is refused the rules do not accept
told : (t u : Tables) (r : Result QueryType TypeFault) → Orderly t.program → Lawful t.types → bytes_lawful t.program.text ≡ true → CheckCall t r u
    → MatchResult r (λ a. Promises t.types t.program a (all_types u)) (λ f. NotAccepted t.types t.program)
told t u (Ok a) orderly law text call = promised orderly law text call.checks
told t u (Err f) orderly law text call = refused_by_rules orderly law call.checks

pub returns-clause-promises : goal.returns-clause-promises
returns-clause-promises c =
    let s = c.args.self.now in
    let long = declared_long s.types in
    let few = s.types.counts.few in
    let ordered = s.types.counts.ordered in
    let law = lawful (declared_of s.types) (omega arith) s.types.lawful in
    told (tables s) (tables c.type_program.new.self) c.type_program.result (orderly s.program) law s.program.text_bytes c.type_program.ensures

pub returns-clause-one_answer : goal.returns-clause-one_answer
returns-clause-one_answer c = checked_once

pub returns-clause-runs : goal.returns-clause-runs
returns-clause-runs c = run_laws

pub returns-clause-worked : goal.returns-clause-worked
returns-clause-worked c = worked_cases
