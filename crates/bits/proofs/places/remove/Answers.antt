use Rattle.std.proofs.Common.{sym, arith}
use Rattle.bits.proofs.Laws.{bit-within}
use Rattle.bits.proofs.Changes.{removed}
use Rattle.bits.proofs.places.remove.Goals as goal

pub flip-requires : goal.flip-requires
flip-requires c = bit-within c.args.words.now c.args.place (sym c.if-has.ensures)

pub returns-then-has : goal.returns-then-has
returns-then-has c = removed c.args.words.now c.flip.new.words c.args.place (omega arith) (sym c.if-has.ensures) c.flip.ensures
