use Rattle.std.proofs.Common.{◌-◌, ◌≤◌}
use Rattle.bits.proofs.Walk.{Clear}
use Rattle.bits.proofs.search.next.Given as goal

abbrev pub invariant-loop-at : goal.invariant-loop-at
invariant-loop-at l = (l.from ≤ l.at) × Clear l.words l.from l.at

abbrev pub decreases-loop-at : goal.decreases-loop-at
decreases-loop-at l = l.end - l.at
