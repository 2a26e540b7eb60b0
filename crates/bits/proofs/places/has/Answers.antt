use Rattle.std.proofs.Common.{arith}
use Rattle.std.proofs.lemmas.Grind.{common_steps}
use Rattle.bits.specs.Bits.{bit}
use Rattle.bits.proofs.places.has.Goals as goal

pub returns : goal.returns
unfolding bit
returns c = grind (arith, common_steps)
