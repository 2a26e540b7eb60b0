use Rattle.std.proofs.Common.{sym, arith}
use Rattle.bits.proofs.Changes.{inserted}
use Rattle.bits.proofs.places.insert.Goals as goal

pub returns : goal.returns
returns c = inserted c.args.words.now c.flip.new.words c.args.place (omega arith) (omega arith) (sym c.if-has.ensures) c.flip.ensures
