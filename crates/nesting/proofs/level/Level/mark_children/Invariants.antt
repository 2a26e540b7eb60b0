use Rattle.std.proofs.Common.{◌≡◌, max, drop}
use Rattle.forest.specs.Forests.{depth, forest}
use Rattle.forest.specs.Stores.{children_at}
use Rattle.nesting.specs.Levels.{deepest}
use Rattle.nesting.proofs.level.Level.mark_children.Given as goal

abbrev pub invariant-loop-index : goal.invariant-loop-index
invariant-loop-index g l =
    let ts = (g.S.Store.means l.initial.self.store.now).trees in
    let cs = children_at ts l.handle in
    (l.self.store ≡ l.initial.self.store)
    × (max (deepest ts l.self.marks.items) (depth (forest (drop l.index cs))) ≡ max (deepest ts l.initial.self.marks.items) (depth (forest cs)))
