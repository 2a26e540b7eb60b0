use Rattle.positions.specs.Life.{Pass}
use Rattle.positions.proofs.alive.mark_more.Given as goal

abbrev pub invariant-loop-place : goal.invariant-loop-place
invariant-loop-place l = Pass l.rows l.initial.alive.marks l.alive.marks l.place l.changed
