use Rattle.std.proofs.Common.{◌≡◌, vec_items}
use Rattle.std.specs.Iterator.Adapters.{enumerate_source, enumerate_count}
use Rattle.std.specs.Slice.Iter.{chunks_rest, chunks_size}
use Rattle.capture.proofs.Loading.{SoFar}
use Rattle.capture.proofs.capture.Capture.load.Given as goal

abbrev pub invariant-loop-index : goal.invariant-loop-index
invariant-loop-index l =
    (goal.iterator-loop-index).can_next l.index-iterator × (goal.iterator-loop-index).is_finite l.index-iterator
    × (chunks_size (enumerate_source l.index-iterator) ≡ 8)
    × SoFar l.bytes (chunks_rest (enumerate_source l.index-iterator)) (enumerate_count l.index-iterator) l.earliest (vec_items l.events)
