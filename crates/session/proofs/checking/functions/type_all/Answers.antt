use Rattle.std.proofs.Common.{rules, ◌≡◌, ℕ, length, List, Err, ap, ◌∙◌, arith}
use Rattle.session.proofs.Typings.{typing_at, stays_on}
use Rattle.session.proofs.FunctionsTyped.{sole, all_stop, all_go, query_low}
use Rattle.session.proofs.checking.functions.type_all.Goals as goal

pub returns-in_err-type_functions-clause-types : goal.returns-in_err-type_functions-clause-types
returns-in_err-type_functions-clause-types c =
    let failed : c.from_residual.result ≡ Err c.in_err-type_functions.field-0.0 = search rules in
    rw failed (all_stop c.args.query c.in_err-type_functions.ensures.types)

pub type_under-requires-clause-variable : goal.type_under-requires-clause-variable
type_under-requires-clause-variable c =
    let low = c.requires.input.low in
    let some = c.args.counts.now.ordered in
    let more = c.type_functions.ensures.stays.grows.more in
    omega arith

pub type_under-requires-clause-body : goal.type_under-requires-clause-body
type_under-requires-clause-body c = let p = c.args.program.now in query_low (length p.expressions.items) p.query c.args.query p.query_known c.requires.query

pub type_under-requires-clause-room : goal.type_under-requires-clause-room
type_under-requires-clause-room c =
    let p = c.args.program.now in
    let low = query_low (length p.expressions.items) p.query c.args.query p.query_known c.requires.query in
    let few = p.expressions_few in
    let none = ap (λ (vs : List ℕ). length vs) (c.type_functions.ensures.stays.variables ∙ c.requires.outside) in
    omega arith

pub returns-clause-types : goal.returns-clause-types
returns-clause-types c =
    all_go c.args.query c.in_ok-type_functions.ensures.types (typing_at (sole c.args.query.input (c.type_functions.ensures.stays.variables ∙ c.requires.outside)) c.type_under.ensures.types)

pub returns-clause-stays : goal.returns-clause-stays
returns-clause-stays c = stays_on c.type_functions.ensures.stays c.type_under.ensures.stays
