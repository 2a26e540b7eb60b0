use Rattle.std.proofs.Common.{◌/◌, ◌%◌, get_or, set, sym, subst, arith}
use lib.Bits.{bit_xor}
use Rattle.std.proofs.lemmas.Nat.{one_shl}
use Rattle.bits.specs.Bits.{Flipped}
use Rattle.bits.proofs.Words.{flipped}
use Rattle.bits.proofs.places.flip.Goals as goal

pub returns : goal.returns
returns c =
    let ws = c.args.words.now in
    let i = c.args.place in
    subst (λ m. Flipped ws (set ws (i / 64) (bit_xor (get_or ws (i / 64) 0) m)) i) (sym (one_shl (i % 64) 64 (omega arith))) (flipped ws i (omega arith))
