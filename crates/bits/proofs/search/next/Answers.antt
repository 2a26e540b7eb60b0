use Rattle.std.proofs.Common.{◌/◌, arith}
use Rattle.bits.proofs.Laws.{bit_past}
use Rattle.bits.proofs.Walk.{clear-on, clear-word, clear_first, set_first, clear-none}
use Rattle.bits.proofs.search.next.Goals as goal

pub returns-then-zeros-left : goal.returns-then-zeros-left
returns-then-zeros-left c =
    let ws = c.args.words.now in
    let at = c.loop-at.at in
    let fits = c.type_inv.words (at / 64) in
    record {
      low = omega arith;
      below = omega arith;
      before = clear-none ws c.args.from _ (clear-on ws c.args.from at _ _ (omega arith) c.loop-at.invariant.1 (clear_first ws at fits.fits (omega arith)));
      here = set_first ws at fits.fits (omega arith);
    }

pub returns-else-zeros-left : goal.returns-else-zeros-left
returns-else-zeros-left c =
    let ws = c.args.words.now in
    let at = c.loop-at.at in
    let fits = c.type_inv.words (at / 64) in
    clear-none ws c.args.from c.args.end (clear-on ws c.args.from at _ _ (omega arith) c.loop-at.invariant.1 (clear_first ws at fits.fits (omega arith)))

pub returns-then-left-step : goal.returns-then-left-step
returns-then-left-step c =
    let ws = c.args.words.now in
    let at = c.loop-at.at in
    clear-none ws c.args.from c.args.end (clear-on ws c.args.from at _ _ (omega arith) c.loop-at.invariant.1 (clear-word ws at (omega arith)))

pub loop-at-preserved : goal.loop-at-preserved
loop-at-preserved c =
    let ws = c.args.words.now in
    let at = c.loop-at.at in
    (omega arith, clear-on ws c.args.from at _ _ (omega arith) c.loop-at.invariant.1 (clear-word ws at (omega arith)))

pub returns-else-at-words : goal.returns-else-at-words
returns-else-at-words c =
    let ws = c.args.words.now in
    clear-none ws c.args.from c.args.end (clear-on ws c.args.from c.loop-at.at c.args.end _ (omega arith) c.loop-at.invariant.1 (λ j l h. bit_past ws j (omega arith)))
