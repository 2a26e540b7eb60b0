use Rattle.bits.specs.Items.{items_left}
use Rattle.subtyping.proofs.Following.{Along}
use Rattle.subtyping.proofs.search.Search.expand.Given as goal

abbrev pub invariant-loop-item : goal.invariant-loop-item
invariant-loop-item l = Along l.self.positions.now l.moves l.pair.left l.pair.right l.initial.pairs l.pairs (items_left l.item-iterator)
