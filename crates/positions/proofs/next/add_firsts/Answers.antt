use Rattle.std.proofs.Common.{sym, subst}
use Rattle.types.specs.Parts.{Lawful}
use Rattle.types.specs.Determinism.{First}
use Rattle.positions.proofs.Growing.{filled_more}
use Rattle.positions.proofs.Items.{first_step}
use Rattle.positions.proofs.next.add_firsts.Goals as goal

pub loop-place-preserved : goal.loop-place-preserved
loop-place-preserved c nulls =
    let ts = c.as_slice-rows.result.now in
    let flags = c.args.nullable.now.marks in
    let law : Lawful ts = subst Lawful (sym c.as_slice-rows.ensures.rows) c.as_slice-rows.ensures.lawful in
    filled_more (First ts) (c.loop-place.invariant nulls) c.add_ends.ensures
    (λ n l. first_step law flags nulls c.loop-place.next.words c.loop-place.place n l (c.loop-place.invariant nulls).below)
