use Rattle.std.proofs.Common.{◌≡◌, Err, sym, refl, ap, ◌∙◌, subst, rules}
use Rattle.forest.specs.declared.failure.Failure.{Failure}
use Rattle.table.specs.Tables.{at_row, Fails}
use Rattle.table.proofs.Fill.{within-limits, full_meaning, same-search}
use Rattle.table.proofs.table.Table.load.Goals as goal

pub returns : goal.returns
returns c =
    let rs = c.args.rows.now in
    let es = c.args.children.now in
    let bs = c.args.text.now in
    let p = c.in_ok-own.ensures in
    let full = c.in_ok-add_rows.ensures in
    let none = same-search _ rs es bs c.in_ok-own.own p ∙ full.0 in (
      within-limits rs es bs c.if-rows-gt-MOST.false c.if-children-gt-MOST.false c.if-text-gt-MOST.false ∙ ap at_row none,
      full_meaning _ rs es bs c.in_ok-own.own c.add_rows.new.own refl p full.1,
    )

pub returns-in_err-add_rows : goal.returns-in_err-add_rows
returns-in_err-add_rows c =
    let rs = c.args.rows.now in
    let es = c.args.children.now in
    let bs = c.args.text.now in
    let p = c.in_ok-own.ensures in
    let stopped = c.in_err-add_rows.ensures in
    let bad = same-search _ rs es bs c.in_ok-own.own p ∙ stopped.1 in
    let fails = subst (λ (f : Failure). Fails rs es bs f) (sym stopped.2) (within-limits rs es bs c.if-rows-gt-MOST.false c.if-children-gt-MOST.false c.if-text-gt-MOST.false ∙ ap at_row bad) in
    let failed : c.from_residual-in_err-add_rows.result ≡ Err c.in_err-add_rows.field-0.0 = search rules in
    rw failed fails
