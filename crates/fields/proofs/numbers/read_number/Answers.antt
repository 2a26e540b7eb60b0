use Rattle.std.proofs.Common.{◌+◌, ◌<◌, length, get_or, drop, sym, ◌∙◌, arith}
use Rattle.std.proofs.lemmas.List.{at_drop_more}
use Rattle.fields.specs.Numbers.{digits_after, at_most}
use Rattle.fields.proofs.Digits.{most, none_more, number-some}
use Rattle.fields.proofs.numbers.read_number.Goals as goal

pub returns-in_err-value : goal.returns-in_err-value
returns-in_err-value c =
    let w = c.args.word.now in
    let i = c.loop-byte.byte-index in
    let lt : i < length w = omega arith in
    let step = at_drop_more (λ bs. at_most most (digits_after c.loop-byte.value bs)) w i 0 lt in
    rw c.from_residual.ensures
    (sym (number-some most w (omega arith) ∙ sym c.loop-byte.invariant.0 ∙ step ∙ none_more most c.loop-byte.value (get_or w i 0) (drop (i + 1) w) c.in_err-value.ensures))
