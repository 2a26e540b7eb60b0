use Rattle.std.proofs.Common.{◌≡◌, ℕ, ◌+◌, Bool, false, List, length, set, sym, ap, ◌∙◌, subst, arith}
use Rattle.types.specs.Parts.{row, Lawful}
use Rattle.types.specs.Determinism.{Nullable}
use Rattle.types.specs.Tables.{Exactly}
use Rattle.positions.specs.Below.{flag}
use Rattle.positions.specs.Filling.{null_by}
use Rattle.positions.proofs.Fresh.{no_flag}
use Rattle.positions.proofs.Items.{Nulls, nulls_none, nulls_more, nulls_all}
use Rattle.positions.proofs.nullable.nullable_rows.Goals as goal

pub loop-place-init : goal.loop-place-init
loop-place-init c = nulls_none c.as_slice-rows.result.now c.all-nullable.result.marks (subst (λ (t : List Bool). (r : ℕ) → flag t r ≡ false) (sym c.all-nullable.ensures) (no_flag 512))

pub loop-place-preserved : goal.loop-place-preserved
loop-place-preserved c =
    let ts = c.as_slice-rows.result.now in
    let t = c.loop-place.nullable.marks in
    let k = c.loop-place.place in
    let law : Lawful ts = subst Lawful (sym c.as_slice-rows.ensures.rows) c.as_slice-rows.ensures.lawful in
    let few = c.as_slice-rows.ensures.few in
    let long = c.loop-place.nullable.long in
    let e : c.set.new.self.marks ≡ set t k (null_by t (row ts k)) = c.set.ensures ∙ ap (set t k) c.may_be_nothing-marked.ensures in
    subst (λ (m : List Bool). Nulls ts m (k + 1)) (sym e) (nulls_more law t k (omega arith) c.loop-place.invariant)

pub returns : goal.returns
returns c =
    let ts = c.as_slice-rows.result.now in
    let t = c.loop-place.nullable.marks in
    let e : c.loop-place.place ≡ length ts = omega arith in
    subst (λ ts. (r : ℕ) → Exactly (flag t r) (Nullable ts r)) c.as_slice-rows.ensures.rows (nulls_all (subst (Nulls ts t) e c.loop-place.invariant))
