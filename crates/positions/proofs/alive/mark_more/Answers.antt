use Rattle.std.proofs.Common.{◌+◌, Bool, true, List, T, sym, ◌∙◌, subst, arith}
use Rattle.types.specs.Parts.{Lawful}
use Rattle.positions.specs.Life.{Pass}
use Rattle.positions.proofs.Marks.{pass_mark, pass_skip}
use Rattle.positions.proofs.alive.mark_more.Goals as goal
use Rattle.positions.proofs.alive.mark_more.Goals.{then-not-has+then-has_forest, else-not-has, else-not-has-via-then-not-has+else-has_forest, else-not-has-via-else-not-has}

pub loop-place-preserved : goal.loop-place-preserved
loop-place-preserved c =
    let ts = c.as_slice-rows.result.now in
    let law : Lawful ts = subst Lawful (sym c.as_slice-rows.ensures.rows) c.as_slice-rows.ensures.lawful in
    let old = c.args.alive.now.marks in
    let v = c.loop-place.alive.marks in
    let long = c.loop-place.alive.long in
    let few = c.as_slice-rows.ensures.few in
    let k = c.loop-place.place in
    let p = c.loop-place.invariant in
    elim c.if-not-has.branch [
      | then-not-has+then-has_forest w ↦ simp (w.alive-is, w.changed-is) (subst (λ (m : List Bool). Pass ts old m (k + 1) true) (sym w.set.ensures) (pass_mark law old v k c.loop-place.changed p (omega arith) (sym c.has.ensures ∙ w.if-not-has.true) (subst T (sym w.if-has_forest.true ∙ w.has_forest.ensures) tt)))
      | else-not-has w ↦ simp (w.alive-is, w.changed-is) (pass_skip law old v k c.loop-place.changed p (elim w.else-not-has.branch [
        | else-not-has-via-then-not-has+else-has_forest u ↦ (λ a. absurd (subst T (sym u.has_forest.ensures ∙ u.if-has_forest.false) a))
        | else-not-has-via-else-not-has u ↦ (λ a. subst T (sym u.if-not-has.false ∙ c.has.ensures) tt)
      ]))
    ]
