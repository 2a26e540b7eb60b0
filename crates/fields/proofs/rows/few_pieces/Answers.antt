use Rattle.std.proofs.Common.{◌≡◌, length, ap, ◌∙◌, arith, rules, tests}
use Rattle.std.proofs.lemmas.Iterator.Consumers.{YieldsList-turn, YieldsList-end}
use Rattle.fields.specs.Lists.{texts}
use Rattle.fields.proofs.Cuts.{YieldsList-pieces}
use Rattle.fields.proofs.rows.few_pieces.Goals as goal

pub returns-in_err-ok : goal.returns-in_err-ok
returns-in_err-ok c =
    let more = YieldsList-turn (YieldsList-pieces 44 {i = c.into_iter-piece-iterator.result} _ c.args.word.now (search rules) (search rules) (λ x b q k. search (rules, tests))) c.loop-piece.yielded _ c.loop-piece.yielded_by _ _ c.in-Some.piece c.in-Some.is c.next.ensures.steps in
    let full : length c.loop-piece.few.items ≡ 5 = search rules in
    rw c.from_residual.ensures (omega (arith, ap length c.loop-piece.invariant, full, more.0))

pub returns : goal.returns
returns c =
    ap texts c.loop-piece.invariant ∙ (YieldsList-end (YieldsList-pieces 44 {i = c.into_iter-piece-iterator.result} _ c.args.word.now (search rules) (search rules) (λ x b q k. search (rules, tests))) c.loop-piece.yielded _ c.loop-piece.yielded_by _ _ c.in-None.is c.next.ensures.steps).0
