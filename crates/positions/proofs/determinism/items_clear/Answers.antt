use Rattle.std.proofs.Common.{length, take, rules, arith}
use borrow.Author.Tests.{tests}
use Rattle.std.proofs.lemmas.Iterator.{cases_from_all, YieldsList-from_slice}
use Rattle.std.proofs.lemmas.Iterator.Consumers.{YieldsList-from_enumerate}
use Rattle.std.proofs.lemmas.List.{get_or-take, length-take-le}
use Rattle.types.specs.Tables.{rows_of}
use Rattle.types.proofs.OfTable.{table-lawful}
use Rattle.positions.proofs.Overlaps.{ClearBehind, items_clear_by}
use Rattle.positions.proofs.determinism.items_clear.Goals as goal

pub returns : goal.returns
returns c =
    let ts = rows_of c.args.types.now in
    let ws = c.args.next.now.words in
    let tops = c.args.tops.now in
    let root = c.args.root in
    let xs = take (length ts) tops in
    let law = table-lawful c.args.types.now in
    let few = law.few in
    let long = c.requires in
    items_clear_by ts ws tops root c.all.result xs (length-take-le (length ts) tops (omega arith)) (λ k l. get_or-take (length ts) tops k 0 l)
    (cases_from_all c.all.new.self _ c.all.result (ClearBehind ts ws tops root) (λ p. ClearBehind ts ws tops root p → ⊥) c.all.ensures.ran
    (YieldsList-from_enumerate (YieldsList-from_slice xs (search rules)) (search rules)) (λ x q k. search (rules, tests)) (λ x q k. search (rules, tests)))
