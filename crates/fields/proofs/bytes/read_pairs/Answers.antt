use Rattle.std.proofs.Common.{◌≡◌, get_or, length, vec_items, Some, sym, ap, ◌∙◌, rules}
use Rattle.std.specs.Slice.Iter.{chunks_rest}
use Rattle.fields.specs.Bytes.{hex_byte, hex_pairs}
use Rattle.fields.proofs.Pairs.{onto, pair_read}
use Rattle.fields.proofs.bytes.read_pairs.Goals as goal

pub loop-pair-preserved : goal.loop-pair-preserved
loop-pair-preserved c =
    let read = vec_items c.loop-pair.bytes in
    let pair = c.in-Some.pair.now in
    let step = c.in-Some.ensures.steps in
    let two : length pair ≡ 2 = search rules in
    let byte : Some c.in_ok-ok_or.field-0 ≡ hex_byte (get_or pair 0 0) (get_or pair 1 0) = search rules in (
      pair_read read _ pair (chunks_rest c.next.new.self) _ c.in_ok-push.ensures.items two byte
          ∙ ap (λ bs. onto read (hex_pairs bs)) (sym step.1.0)
          ∙ c.loop-pair.invariant.0,
      step.0 ∙ c.loop-pair.invariant.1,
    )
