use Rattle.std.proofs.Common.{ℕ, rules}
use borrow.Author.Tests.{tests}
use Rattle.std.proofs.lemmas.Iterator.{cases_from_all}
use Rattle.std.proofs.lemmas.Iterator.Consumers.{YieldsList-from_first}
use Rattle.bits.specs.Bits.{row_items}
use Rattle.bits.specs.Items.{items_left}
use Rattle.types.specs.Tables.{rows_of}
use Rattle.positions.specs.Filling.{Alone}
use Rattle.positions.proofs.Overlaps.{clear_by, next_of}
use Rattle.positions.proofs.determinism.is_clear.Goals as goal

pub returns : goal.returns
returns c =
    let ts = rows_of c.args.types.now in
    let ws = c.args.next.now.words in
    let Yes : ℕ → Type 0 = λ m. Alone ts m (row_items ws c.args.place (next_of m)) in
    clear_by ts ws c.args.place c.all.result
    (cases_from_all c.all.new.self _ c.all.result Yes (λ m. Yes m → ⊥) c.all.ensures.ran
    (YieldsList-from_first (λ x. x) items_left (row_items ws c.args.place 0) c.items.ensures) (λ x q k. search (rules, tests)) (λ x q k. search (rules, tests)))
