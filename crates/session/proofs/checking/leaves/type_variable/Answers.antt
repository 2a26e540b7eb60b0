use Rattle.std.proofs.Common.{◌<◌, sym, arith}
use Rattle.session.proofs.Making.{table-long}
use Rattle.session.proofs.Typings.{unbound, bound, copied_now, walkable_now}
use Rattle.session.proofs.checking.leaves.type_variable.Goals as goal

pub copy_type-requires-clause-walkable : goal.copy_type-requires-clause-walkable
copy_type-requires-clause-walkable c =
    let h = c.requires.1 in
    let l = h.typable.variables c.args.number c.in-Some.row (sym c.in-Some.ensures) in
    let n = table-long c.args.types.now c.args.counts.now h.long in
    let there : c.in-Some.row < c.args.counts.now.all = omega arith in
    walkable_now h there

pub copy_type-requires-clause-long : goal.copy_type-requires-clause-long
copy_type-requires-clause-long c = c.requires.1.long

pub returns-in-None-clause-types : goal.returns-in-None-clause-types
returns-in-None-clause-types c = unbound c.args.state.now.variables.items c.args.number _ c.in-None.ensures c.fault.ensures

pub returns-in-Some-clause-types : goal.returns-in-Some-clause-types
returns-in-Some-clause-types c =
    let h = c.requires.1 in
    let l = h.typable.variables c.args.number c.in-Some.row (sym c.in-Some.ensures) in
    let n = table-long c.args.types.now c.args.counts.now h.long in
    let there : c.in-Some.row < c.args.counts.now.all = omega arith in
    bound c.args.spot c.args.state.now.variables.items c.args.number _ (sym c.in-Some.ensures) (copied_now h there c.copy_type.ensures.copies)
