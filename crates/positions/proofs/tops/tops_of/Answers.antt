use Rattle.std.proofs.Common.{◌≡◌, ℕ, ◌<◌, List, length, get_or, sym, refl, ◌∙◌, rules, arith}
use Rattle.std.specs.Iterator.Adapters.{rev_source, enumerate_source}
use Rattle.std.specs.Slice.Iter.{iter_rest}
use Rattle.std.proofs.lemmas.List.{take_all}
use Rattle.rows.specs.declared.type_row.TypeRow.{TypeRow}
use Rattle.types.specs.Parts.{Lawful}
use Rattle.types.specs.Tables.{rows_of}
use Rattle.types.proofs.OfTable.{table-lawful}
use Rattle.positions.proofs.Downward.{Descending, descend_start, descend_more, descend_end}
use Rattle.positions.proofs.Uppermost.{Topped, topped}
use Rattle.positions.proofs.tops.tops_of.Goals as goal

pub loop-place-init : goal.loop-place-init
loop-place-init c =
    let t = c.args.types.now in
    let ts = rows_of t in
    let left = iter_rest (enumerate_source (rev_source c.into_iter-place-iterator.result)) in
    let is : left ≡ ts = cc in
    record {
      long = c.from_fn-tops.ensures.items.long;
      numbered = cc;
      descending = descend_start (table-lawful t) (length ts) 0 (λ r. r) (λ w x. x) c.from_fn-tops.result left ts refl (is ∙ sym (take_all (length ts) ts (omega arith))) (omega arith)
          (λ r l. let h = c.from_fn-tops.ensures.items.at r 0 l in search rules);
    }

pub loop-place-preserved : goal.loop-place-preserved
loop-place-preserved c =
    let t = c.args.types.now in
    let step = c.in-Some.ensures.steps in
    let before = iter_rest (enumerate_source (rev_source c.loop-place.place-iterator)) in
    let after = iter_rest (enumerate_source (rev_source c.next.new.self)) in
    let tops = c.loop-place.tops in
    let numbered = c.loop-place.invariant.numbered in
    let k : c.in-Some.place ≡ length after = omega (arith, step.1.1) in
    record {
      long = omega (arith, c.give.auto.table, c.loop-place.invariant.long);
      numbered = step.0 ∙ numbered;
      descending = descend_more (table-lawful t) (length (rows_of t)) 0 (λ r. r) (λ w x. x) tops before after c.in-Some.row.now c.in-Some.place (omega arith) c.loop-place.invariant.long
          step.1.0 k c.give.ensures c.loop-place.invariant.descending;
    }

-- what each row is given, once all have given
all : {ts left : List TypeRow} (law : Lawful ts) (tops : List ℕ) (r : ℕ) → length left ≡ 0 → Descending ts (length ts) 0 (λ r. r) (λ w x. x) tops left → r < length ts → Topped ts (get_or tops r 0) r
all {ts} {left} law tops r e d l = topped law tops (descend_end law (length ts) 0 (λ r. r) (λ w x. x) tops left e d) r l

pub returns-clause-roots : goal.returns-clause-roots
returns-clause-roots c r l = (all (table-lawful c.args.types.now) c.loop-place.tops r c.in-None.ensures.steps.1.0 c.loop-place.invariant.descending l).root

pub returns-clause-within : goal.returns-clause-within
returns-clause-within c r l = (all (table-lawful c.args.types.now) c.loop-place.tops r c.in-None.ensures.steps.1.0 c.loop-place.invariant.descending l).within
