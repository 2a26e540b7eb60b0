use Rattle.std.proofs.Common.{◌≡◌, [], length, ap, arith}
use Rattle.std.proofs.lemmas.Grind.{common_steps}
use Rattle.bits.specs.Items.{items_left}
use Rattle.bits.proofs.RowItems.{found_none, found_some}
use Rattle.bits.proofs.items.ItemsIterator.next.Goals as goal

pub returns-in_err-place-clause-steps : goal.returns-in_err-place-clause-steps
returns-in_err-place-clause-steps c =
    let s = c.args.self.now in
    let e : items_left s ≡ [] = found_none s.words.now s.row s.from c.in_err-place.ensures in
    grind (arith, common_steps)

pub returns-clause-steps : goal.returns-clause-steps
returns-clause-steps c =
    let s = c.args.self.now in
    found_some s.words.now s.row s.from c.in_ok-place.place c.in_ok-place.ensures

pub returns-clause-goes : goal.returns-clause-goes
returns-clause-goes c =
    let s = c.args.self.now in
    let e = ap length (found_some s.words.now s.row s.from c.in_ok-place.place c.in_ok-place.ensures) in
    grind (arith, common_steps)
