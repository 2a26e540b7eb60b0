use Rattle.positions.proofs.Items.{Nulls}
use Rattle.positions.proofs.nullable.nullable_rows.Given as goal

abbrev pub invariant-loop-place : goal.invariant-loop-place
invariant-loop-place l = Nulls l.rows l.nullable.marks l.place
