use Rattle.std.proofs.Common.{List, sym, refl, subst}
use Rattle.rows.specs.declared.type_row.TypeRow.{TypeRow}
use Rattle.types.specs.Parts.{Lawful}
use Rattle.types.specs.Determinism.{Last}
use Rattle.positions.specs.Right.{Nulls}
use Rattle.positions.proofs.Growing.{filled_more, grown-row}
use Rattle.positions.proofs.Items.{last_step}
use Rattle.positions.proofs.lasts.add_lasts.Goals as goal

pub loop-place-preserved : goal.loop-place-preserved
loop-place-preserved c =
    let ts = c.as_slice-rows.result.now in
    let flags = c.args.nullable.now.marks in
    let law : Lawful ts = subst Lawful (sym c.as_slice-rows.ensures.rows) c.as_slice-rows.ensures.lawful in
    let nulls = subst (λ (us : List TypeRow). Nulls us flags) (sym c.as_slice-rows.ensures.rows) c.requires.nulls in
    filled_more (Last ts) c.loop-place.invariant (grown-row flags (sym c.turn.ensures) (λ n. refl) c.add_ends.ensures)
    (λ n l. last_step law flags nulls c.loop-place.lasts.words c.loop-place.place n l c.loop-place.invariant.below)
