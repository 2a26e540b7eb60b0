use Rattle.types.specs.Determinism.{Last}
use Rattle.positions.proofs.Growing.{Filled}
use Rattle.positions.proofs.lasts.add_lasts.Given as goal

abbrev pub invariant-loop-place : goal.invariant-loop-place
invariant-loop-place l = Filled (Last l.rows) l.lasts.words l.place
