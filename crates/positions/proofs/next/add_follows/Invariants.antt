use Rattle.bits.specs.Items.{items_left}
use Rattle.positions.proofs.Meeting.{Adding}
use Rattle.positions.proofs.next.add_follows.Given as goal

abbrev pub invariant-loop-item : goal.invariant-loop-item
invariant-loop-item l = Adding l.lasts.words l.initial.next.words l.next.words l.left l.right (items_left l.item-iterator)
