use Rattle.std.proofs.Common.{◌≡◌, length}
use Rattle.std.specs.Iterator.Adapters.{rev_source, enumerate_source, enumerate_count}
use Rattle.std.specs.Slice.Iter.{iter_rest}
use Rattle.types.specs.Tables.{rows_of}
use Rattle.positions.proofs.Downward.{Descending}
use Rattle.positions.proofs.tops.tops_of.Given as goal

abbrev pub invariant-loop-place : goal.invariant-loop-place
invariant-loop-place l = record {
  long : length l.tops ≡ 512;
  numbered : enumerate_count (rev_source l.place-iterator) ≡ 0;
  descending : Descending (rows_of l.types) (length (rows_of l.types)) 0 (λ r. r) (λ w x. x) l.tops (iter_rest (enumerate_source (rev_source l.place-iterator)));
}
