use Rattle.std.proofs.Common.{◌≡◌, vec_items}
use Rattle.std.specs.Slice.Iter.{chunks_rest, chunks_size}
use Rattle.fields.specs.Bytes.{hex_pairs}
use Rattle.fields.proofs.Pairs.{onto}
use Rattle.fields.proofs.bytes.read_pairs.Given as goal

abbrev pub invariant-loop-pair : goal.invariant-loop-pair
invariant-loop-pair l =
    (onto (vec_items l.bytes) (hex_pairs (chunks_rest l.pair-iterator)) ≡ hex_pairs l.digits) × (chunks_size l.pair-iterator ≡ 2)
