use Rattle.std.proofs.Common.{ℕ, true, false, sym, subst}
use Rattle.positions.specs.declared.moves.Moves.{Moves}
use Rattle.subtyping.specs.Comparison.{Answers, Expanded}
use Rattle.subtyping.proofs.Following.{along_on, along_past, along_end, along_stop}
use Rattle.subtyping.proofs.search.Search.expand.Goals as goal

pub loop-item-preserved : goal.loop-item-preserved
loop-item-preserved c = along_past c.loop-item.invariant c.in-Some.ensures.steps (sym c.if-can_occur.ensures)

pub loop-item-preserved-then-can_occur : goal.loop-item-preserved-then-can_occur
loop-item-preserved-then-can_occur c =
    along_on c.loop-item.invariant c.in-Some.ensures.steps (sym c.if-can_occur.ensures)
    (subst (λ z. Answers c.args.self.now.positions.now z c.in-Some.item c.in-Some-covering.answer) c.right_place-place.ensures c.in-Some-covering.ensures) c.follow.ensures

pub returns-in_default : goal.returns-in_default
returns-in_default c =
    let p = c.args.self.now.positions.now in
    subst (λ (m : Moves). Expanded p m c.args.pair.left c.args.pair.right c.args.pairs.now c.loop-item.pairs false) c.moves-moves.ensures
    (along_stop c.loop-item.invariant c.in-Some.ensures.steps (sym c.if-can_occur.ensures)
    (subst (λ z. (m : ℕ) → Answers p z c.in-Some.item m → ⊥) c.right_place-place.ensures c.in_default.ensures))

pub returns : goal.returns
returns c =
    subst (λ (m : Moves). Expanded c.args.self.now.positions.now m c.args.pair.left c.args.pair.right c.args.pairs.now c.loop-item.pairs true) c.moves-moves.ensures
    (along_end c.loop-item.invariant c.in-None.ensures.steps.0)
