use Rattle.std.proofs.Common.{◌≡◌, ℕ, ◌+◌, ◌*◌, ◌/◌, ◌%◌, sym, ap, ◌∙◌, subst, MatchOption, arith}
use Rattle.bits.specs.Bits.{bit}
use Rattle.bits.proofs.Laws.{bit-within}
use Rattle.subtyping.specs.Worklist.{number, Waiting}
use Rattle.subtyping.proofs.pairs.Pairs.first.Goals as goal

pub returns-in_err-left : goal.returns-in_err-left
returns-in_err-left c =
    let q = c.args.self.now in
    let long = q.long in
    subst (λ o. MatchOption o ((x : ℕ) → Waiting q x → ⊥) (λ pair. Waiting q (number pair))) (sym c.from_residual.ensures)
    (λ x s.
    let whole : x / 512 * 512 + x % 512 ≡ x = omega arith in
    let marked = q.listed (x / 512) (x % 512) (omega arith) (ap (bit q.waiting.words) whole ∙ s) in
    let within = bit-within q.places (x / 512) marked in
    c.in_err-left.ensures (x / 512) (omega arith) (omega arith) marked)
