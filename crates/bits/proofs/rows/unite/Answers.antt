use Rattle.std.proofs.Common.{arith}
use Rattle.bits.proofs.Unions.{unite_more}
use Rattle.bits.proofs.rows.unite.Goals as goal

pub loop-word-preserved : goal.loop-word-preserved
loop-word-preserved c = unite_more c.args.words.now c.loop-word.words c.args.to c.args.from c.loop-word.word (omega arith) (omega arith) c.loop-word.invariant
