use Rattle.std.proofs.Common.{◌≡◌, ℕ, ◌<◌, Bool, true, false, List, length, sym, ◌∙◌, subst, arith}
use Rattle.std.specs.Iterator.Adapters.{rev_source, enumerate_source}
use Rattle.std.specs.Slice.Iter.{iter_rest}
use Rattle.std.proofs.lemmas.List.{get_or-replicate}
use Rattle.types.proofs.OfTable.{table-lawful}
use Rattle.positions.specs.Below.{flag}
use Rattle.positions.specs.Life.{given, left_gift}
use Rattle.positions.proofs.Downward.{descend_start, descend_more, descend_end}
use Rattle.positions.proofs.Remainders.{all_left}
use Rattle.positions.proofs.live.live_rows.Goals as goal

pub loop-place-init : goal.loop-place-init
loop-place-init c =
    let marked = subst (λ (t : List Bool). (r : ℕ) → r < 512 → flag t r ≡ true) (sym c.all-live.ensures) (λ r l. get_or-replicate 512 r true false l) in
    record {
      numbered = cc;
      descending = descend_start (table-lawful c.args.types.now) c.args.end false (λ r. true) (left_gift c.args.alive.now.marks) c.all-live.result.marks
          (iter_rest (enumerate_source (rev_source c.into_iter-place-iterator.result))) c.as_slice.result.now c.as_slice.ensures.rows (cc) c.requires marked;
    }

pub loop-place-preserved : goal.loop-place-preserved
loop-place-preserved c =
    let step = c.in-Some.ensures.steps in
    let before = iter_rest (enumerate_source (rev_source c.loop-place.place-iterator)) in
    let after = iter_rest (enumerate_source (rev_source c.next.new.self)) in
    let v = c.args.alive.now.marks in
    let live = c.loop-place.live.marks in
    let w = c.in-Some.row.now in
    let numbered = c.loop-place.invariant.numbered in
    let k : c.in-Some.place ≡ length after = omega (arith, step.1.1) in
    let is : c.give.new.self.marks ≡ given w (left_gift v w (flag live c.in-Some.place)) (flag live c.in-Some.place) live = cc in
    record {
      numbered = step.0 ∙ numbered;
      descending = descend_more (table-lawful c.args.types.now) c.args.end false (λ r. true) (left_gift v) live before after w c.in-Some.place c.requires c.loop-place.live.long
          step.1.0 k is c.loop-place.invariant.descending;
    }

pub returns : goal.returns
returns c right =
    let v = c.args.alive.now.marks in
    let live = c.loop-place.live.marks in
    let left = iter_rest (enumerate_source (rev_source c.loop-place.place-iterator)) in
    all_left (table-lawful c.args.types.now) v right c.args.end live c.requires
    (descend_end (table-lawful c.args.types.now) c.args.end false (λ r. true) (left_gift v) live left c.in-None.ensures.steps.1.0 c.loop-place.invariant.descending)
