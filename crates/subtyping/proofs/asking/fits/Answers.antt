use Rattle.std.proofs.Common.{◌≡◌, ℕ, ◌<◌, length, Err, subst, sym, rules}
use Rattle.types.specs.declared.type_rows.TypeRows.{TypeRows}
use Rattle.types.specs.Parts.{Root}
use Rattle.types.specs.Belonging.{Subtype}
use Rattle.types.specs.Places.{Checked}
use Rattle.types.specs.Tables.{rows_of, Exactly}
use Rattle.types.specs.Asking.{TellsSubtype}
use Rattle.types.proofs.Asked.{asked_for, refused_for}
use Rattle.types.proofs.Exact.{known, shown}
use Rattle.types.proofs.OfTable.{asked_checked}
use Rattle.types.proofs.WorkedCases.{worked_types}
use Rattle.subtyping.proofs.asking.fits.Goals as goal

pub returns-in_err-positions-clause-answer : goal.returns-in_err-positions-clause-answer
returns-in_err-positions-clause-answer c =
    let there = c.are_there-there.ensures in
    let failed : c.from_residual.result ≡ Err c.in_err-positions.field-0.0 = search rules in
    subst (TellsSubtype (rows_of c.args.types) c.args.row c.args.root) (sym failed) (refused_for (known there) (shown there) c.in_err-positions.ensures)

pub returns-in_err-positions-clause-worked : goal.returns-in_err-positions-clause-worked
returns-in_err-positions-clause-worked c = worked_types

pub returns-clause-answer : goal.returns-clause-answer
returns-clause-answer c =
    let ts = rows_of c.args.types in
    let there = c.are_there-there.ensures in
    let asked = asked_for (known there) c.in_ok-positions.ensures.askable in
    let Told : TypeRows → Type 0 = λ t. c.args.row < length (rows_of t) → Root (rows_of t) c.args.root → (declared : ℕ) → Checked (rows_of t) declared → c.args.root < declared → Exactly c.is_subtype.result (Subtype (rows_of t) c.args.row c.args.root) in
    let told = subst Told c.in_ok-positions.ensures.types (c.is_subtype.ensures c.in_ok-positions.ensures.built) in
    (asked, told asked.there.0 asked.there.1 (length ts) (asked_checked c.args.types asked) asked.there.1.there)

pub returns-clause-worked : goal.returns-clause-worked
returns-clause-worked c = worked_types
