use Rattle.std.proofs.Common.{◌+◌, ◌*◌, sym, refl, ◌∙◌}
use Rattle.std.proofs.lemmas.Bool.{false≢true}
use Rattle.bits.proofs.Laws.{bit-zeros}
use Rattle.subtyping.proofs.pairs.Pairs.new.Goals as goal

pub invariant_of-result : goal.invariant_of-result
invariant_of-result c = record {
  held = λ x s. absurd (false≢true (sym (c.new-2.ensures x) ∙ s));
  long = refl;
  listed = λ r n l s. absurd (false≢true (sym (c.new-2.ensures (r * 512 + n)) ∙ s));
  busy = λ r none. bit-zeros 32 r;
}
