use Rattle.std.proofs.Common.{◌<◌, arith}
use Rattle.subtyping.specs.Worklist.{number}
use Rattle.subtyping.proofs.Growing.{pushed}
use Rattle.subtyping.proofs.pairs.Pairs.push.Goals as goal

pub returns-then-insert : goal.returns-then-insert
returns-then-insert c =
    let low = c.args.pair.left_low in
    let right = c.args.pair.right_low in
    let within : number c.args.pair < 1048576 = omega arith in
    pushed c.args.self.now _ (number c.args.pair) within c.insert-then-insert.result c.if-insert.ensures c.insert-then-insert.ensures
