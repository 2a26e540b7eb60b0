use Rattle.std.proofs.Common.{rules, ◌≡◌, ℕ, length, List, Err, ap, arith}
use Rattle.session.proofs.Orders.{orderly}
use Rattle.session.proofs.Typings.{typed_on, typing_at}
use Rattle.session.proofs.FunctionsTyped.{body_low, sole, without_body, body_stops, body_fits, on_ok}
use Rattle.session.proofs.checking.functions.type_function.Goals as goal

pub returns-in_default-clause-types : goal.returns-in_default-clause-types
returns-in_default-clause-types c = without_body c.in_default.is

pub type_under-requires-clause-body : goal.type_under-requires-clause-body
type_under-requires-clause-body c =
    let p = c.args.program.now in
    body_low (length p.expressions.items) p.functions.rows.items c.args.number c.in-Some.body c.args.function p.functions_known c.requires.there c.in-Some.is

pub type_under-requires-clause-room : goal.type_under-requires-clause-room
type_under-requires-clause-room c =
    let p = c.args.program.now in
    let low = body_low (length p.expressions.items) p.functions.rows.items c.args.number c.in-Some.body c.args.function p.functions_known c.requires.there c.in-Some.is in
    let few = p.expressions_few in
    let none = ap (λ (vs : List ℕ). length vs) c.requires.outside in
    omega arith

pub returns-in_err-row-clause-types : goal.returns-in_err-row-clause-types
returns-in_err-row-clause-types c =
    let failed : c.from_residual.result ≡ Err c.in_err-row.field-0.0 = search rules in
    rw failed (body_stops c.in-Some.is (typing_at (sole c.args.function.parameter c.requires.outside) c.in_err-row.ensures.types))

pub fit-requires-clause-checked : goal.fit-requires-clause-checked
fit-requires-clause-checked c =
    let on = typed_on (orderly c.args.program.now) c.requires.ready (let l : length c.type_under.new.types ≡ 512 = search rules in l) c.type_under.ensures.stays c.in_ok-row.ensures.types in
    on.standing.typable.checked

pub fit-requires-clause-there : goal.fit-requires-clause-there
fit-requires-clause-there c =
    let on = typed_on (orderly c.args.program.now) c.requires.ready (let l : length c.type_under.new.types ≡ 512 = search rules in l) c.type_under.ensures.stays c.in_ok-row.ensures.types in
    on.there

pub fit-requires-clause-root : goal.fit-requires-clause-root
fit-requires-clause-root c =
    let on = typed_on (orderly c.args.program.now) c.requires.ready (let l : length c.type_under.new.types ≡ 512 = search rules in l) c.type_under.ensures.stays c.in_ok-row.ensures.types in
    on.roots c.args.function.result (c.requires.ready.typable.functions c.args.number c.args.function c.requires.there).1

pub returns-clause-types : goal.returns-clause-types
returns-clause-types c = body_fits c.in-Some.is (typing_at (sole c.args.function.parameter c.requires.outside) c.in_ok-row.ensures.types) c.fit.result c.fit.ensures

pub returns-clause-ready : goal.returns-clause-ready
returns-clause-ready c =
    let on = typed_on (orderly c.args.program.now) c.requires.ready (let l : length c.type_under.new.types ≡ 512 = search rules in l) c.type_under.ensures.stays c.in_ok-row.ensures.types in
    on_ok c.fit.result on.standing
