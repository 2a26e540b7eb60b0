use Rattle.std.proofs.Common.{◌≡◌, ℕ, ◌<◌, length, Some, rules, arith}
use borrow.Author.Tests.{tests}
use Rattle.std.specs.List.{AllWithin, HoldsAt}
use Rattle.std.proofs.lemmas.Iterator.{YieldsList-from_slice, IsFirst-from_position}
use Rattle.rows.specs.declared.type_row.TypeRow.{TypeRow}
use Rattle.rows.specs.declared.type_row.TypeRow.TheVariants.{EmptyChoice}
use Rattle.types.specs.Parts.{content, Root}
use Rattle.types.specs.Tables.{rows_of}
use Rattle.types.proofs.type_rows.TypeRows.first_unrooted.Goals as goal

pub returns : goal.returns
returns c =
    let ts = rows_of c.args.self.now in
    let row = c.in_ok-row.row in
    let Rooted : TypeRow → Type 0 = λ w. (x : ℕ) → content w ≡ Some x → Root ts x in
    let m : (row < length ts) × HoldsAt (λ w. Rooted w → ⊥) ts row × AllWithin Rooted ts 0 row =
    IsFirst-from_position _ _ _ (λ w. Rooted w → ⊥) Rooted c.in_ok-row.ensures.ran (YieldsList-from_slice ts cc) (λ x q k. search (rules, tests)) (λ x q k. search (rules, tests)) in
    record { there = m.0; fails = m.1 EmptyChoice; before = λ n l. m.2 n EmptyChoice (omega arith) l }
