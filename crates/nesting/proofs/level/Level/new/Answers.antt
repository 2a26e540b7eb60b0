use Rattle.std.proofs.Common.{ap, ◌∙◌}
use Rattle.nesting.specs.Levels.{deepest}
use Rattle.nesting.proofs.Depths.{deepest-none}
use Rattle.nesting.proofs.level.Level.new.Goals as goal

pub returns-clause-empty : goal.returns-clause-empty
returns-clause-empty g c =
    let ts = (g.S.Store.means c.args.store.now).trees in
    ap (deepest ts) (c.in_ok-marks.ensures.items_if_clones_equal (λ y e. e)) ∙ deepest-none ts c.count.result
