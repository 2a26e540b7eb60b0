use Rattle.types.specs.Tables.{rows_of}
use Rattle.positions.specs.Life.{Marked, falses}
use Rattle.positions.proofs.alive.alive_rows.Given as goal

abbrev pub invariant-round : goal.invariant-round
invariant-round l = Marked (rows_of l.types) l.alive.marks

abbrev pub decreases-round : goal.decreases-round
decreases-round l = falses l.alive.marks
