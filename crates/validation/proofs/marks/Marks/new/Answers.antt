use Rattle.std.proofs.Common.{◌≡◌, ◌*◌, false, List, ℕ, sym, subst}
use Rattle.bits.specs.Bits.{bit}
use Rattle.bits.proofs.Laws.{bit-zeros}
use Rattle.validation.proofs.marks.Marks.new.Goals as goal

pub returns : goal.returns
returns c j = subst (λ (ws : List ℕ). bit ws j ≡ false) (sym (c.in_ok-words.ensures.items_if_clones_equal (λ y e. e))) (bit-zeros (c.args.trees * 8) j)
