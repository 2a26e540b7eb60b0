use Rattle.std.proofs.Common.{refl}
use Rattle.types.proofs.Contexts.{left, right, repeats}
use Rattle.positions.proofs.Items.{part-below}
use Rattle.positions.proofs.next.add_meets.Goals as goal

pub add_follows-requires : goal.add_follows-requires
add_follows-requires c = record { left = part-below c.requires c.in-Sequence.is (left refl); right = part-below c.requires c.in-Sequence.is (right refl) }

pub add_follows-requires-in-Repetition : goal.add_follows-requires-in-Repetition
add_follows-requires-in-Repetition c = record { left = part-below c.requires c.in-Repetition.is (repeats refl); right = part-below c.requires c.in-Repetition.is (repeats refl) }
