use Rattle.std.proofs.Common.{◌+◌, ◌*◌, drop}
use Rattle.forest.specs.Forests.{forest}
use Rattle.forest.specs.Stores.{children_at}
use Rattle.nesting.specs.Levels.{item_depth}
use Rattle.positions.specs.Built.{types_of}
use Rattle.validation.specs.Walking.{Known, tree_at}
use Rattle.validation.proofs.Going.{Walking}
use Rattle.validation.proofs.reading.Walk.+belonging.Given as goal

abbrev pub decreases-children_belong : goal.decreases-children_belong
decreases-children_belong g l = 2 * item_depth (tree_at (g.S.Store.means l.self.now.store.now).trees l.handle)

abbrev pub decreases-step : goal.decreases-step
decreases-step g l = 2 * item_depth (tree_at (g.S.Store.means l.self.now.store.now).trees l.handle) + 1

abbrev pub invariant-children_belong-loop-index : goal.invariant-children_belong-loop-index
invariant-children_belong-loop-index g l =
    let trees = (g.S.Store.means l.self.store.now).trees in
    let cs = children_at trees l.handle in
    record { walking : Walking l.self.positions.now l.root (forest cs) (forest (drop l.index cs)) l.place; known : Known (types_of l.self.positions.now) trees l.marks.words.items }
