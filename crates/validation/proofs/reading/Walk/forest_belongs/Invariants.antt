use Rattle.std.proofs.Common.{drop}
use Rattle.forest.specs.Forests.{forest}
use Rattle.forest.specs.Stores.{picked}
use Rattle.positions.specs.Built.{types_of}
use Rattle.validation.specs.Walking.{Known}
use Rattle.validation.proofs.Going.{Walking}
use Rattle.validation.proofs.reading.Walk.forest_belongs.Given as goal

abbrev pub invariant-loop-handle : goal.invariant-loop-handle
invariant-loop-handle g l =
    let trees = (g.S.Store.means l.self.store.now).trees in
    let is = picked trees l.handles in
    record { walking : Walking l.self.positions.now l.root (forest is) (forest (drop l.handle-index is)) l.place; known : Known (types_of l.self.positions.now) trees l.marks.words.items }
