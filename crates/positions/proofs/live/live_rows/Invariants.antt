use Rattle.std.proofs.Common.{◌≡◌, true, false}
use Rattle.std.specs.Iterator.Adapters.{rev_source, enumerate_source, enumerate_count}
use Rattle.std.specs.Slice.Iter.{iter_rest}
use Rattle.types.specs.Tables.{rows_of}
use Rattle.positions.specs.Life.{left_gift}
use Rattle.positions.proofs.Downward.{Descending}
use Rattle.positions.proofs.live.live_rows.Given as goal

abbrev pub invariant-loop-place : goal.invariant-loop-place
invariant-loop-place l = record {
  numbered : enumerate_count (rev_source l.place-iterator) ≡ 0;
  descending : Descending (rows_of l.types) l.end false (λ r. true) (left_gift l.alive.marks) l.live.marks (iter_rest (enumerate_source (rev_source l.place-iterator)));
}
