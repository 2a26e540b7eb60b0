use Rattle.bits.proofs.Laws.{bit-zeros}
use Rattle.bits.proofs.relation.Relation.new.Goals as goal

pub returns : goal.returns
returns g c = bit-zeros g.row.WORDS
