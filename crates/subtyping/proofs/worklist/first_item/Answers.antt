use Rattle.std.proofs.Common.{sym, ◌∙◌, subst, MatchOption, arith}
use Rattle.std.proofs.lemmas.Bool.{false_from_ne_true}
use Rattle.bits.specs.Bits.{related}
use Rattle.bits.proofs.RowItems.{row_front, row_empty}
use Rattle.subtyping.specs.Waits.{Nothing, InRow}
use Rattle.subtyping.proofs.worklist.first_item.Goals as goal

pub returns-in_err-item : goal.returns-in_err-item
returns-in_err-item c =
    let ws = c.args.relation.now.words in
    let r = c.args.row in
    subst (λ o. MatchOption o (Nothing ws r) (InRow ws r)) (sym c.from_residual.ensures)
    (λ n l. false_from_ne_true (related ws r n) (row_empty ws r 0 (sym c.items.ensures ∙ c.in_err-item.ensures.steps.0) n (omega arith) l))

pub returns : goal.returns
returns c = let f = row_front c.args.relation.now.words c.args.row 0 c.in_ok-item.item _ (sym c.items.ensures ∙ c.in_ok-item.ensures.steps) in (f.0.below, f.0.here)
