use Rattle.std.proofs.Common.{◌≡◌, ◌-◌, max, drop}
use Rattle.forest.specs.Forests.{depth, forest}
use Rattle.forest.specs.Stores.{picked}
use Rattle.nesting.specs.Levels.{deepest}
use Rattle.nesting.proofs.nesting.nested_too_deep.Given as goal

abbrev pub invariant-loop-handle : goal.invariant-loop-handle
invariant-loop-handle g l =
    let ts = (g.S.Store.means l.store).trees in
    (l.level.store.now ≡ l.store)
    × (max (deepest ts l.level.marks.items) (depth (forest (picked ts (drop l.handle-index l.handles)))) ≡ depth (forest (picked ts l.handles)))

abbrev pub invariant-loop-depth : goal.invariant-loop-depth
invariant-loop-depth g l =
    let ts = (g.S.Store.means l.store).trees in
    (l.level.store.now ≡ l.store) × (deepest ts l.level.marks.items ≡ depth (forest (picked ts l.handles)) - l._depth)
