use Rattle.std.proofs.Common.{sym, subst}
use Rattle.subtyping.specs.Comparison.{Looked, failed, no_end}
use Rattle.subtyping.proofs.Following.{looked}
use Rattle.subtyping.proofs.search.Search.look.Goals as goal

pub returns-then-ends_alike : goal.returns-then-ends_alike
returns-then-ends_alike c = looked (sym c.if-ends_alike.ensures) c.expand.ensures

pub returns-else-ends_alike : goal.returns-else-ends_alike
returns-else-ends_alike c =
    let s = c.args.self.now in
    subst (Looked s.positions.now s.local s.row c.args.pair.left c.args.pair.right c.args.pairs.now c.args.pairs.now) (sym c.if-ends_alike.false) (failed (no_end (sym c.if-ends_alike.ensures)))
