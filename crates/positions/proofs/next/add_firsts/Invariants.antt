use Rattle.types.specs.Determinism.{First}
use Rattle.positions.specs.Right.{Nulls}
use Rattle.positions.proofs.Growing.{Filled}
use Rattle.positions.proofs.next.add_firsts.Given as goal

abbrev pub invariant-loop-place : goal.invariant-loop-place
invariant-loop-place l = Nulls l.rows l.nullable.marks → Filled (First l.rows) l.next.words l.place
