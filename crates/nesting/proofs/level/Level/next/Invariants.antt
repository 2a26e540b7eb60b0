use Rattle.std.proofs.Common.{◌≡◌, ◌-◌, max, drop}
use Rattle.nesting.specs.Levels.{deepest}
use Rattle.nesting.proofs.level.Level.next.Given as goal

abbrev pub invariant-loop-handle : goal.invariant-loop-handle
invariant-loop-handle g l =
    let ts = (g.S.Store.means l.self.store.now).trees in
    let ms = l.self.marks.items in
    (l.below.store.now ≡ l.self.store.now)
    × (max (deepest ts l.below.marks.items) (deepest (drop l.handle ts) (drop l.handle ms) - 1) ≡ deepest ts ms - 1)
