use Rattle.std.proofs.Common.{refl, arith}
use Rattle.types.proofs.Contexts.{left, right, first, second, repeats}
use Rattle.bits.specs.Bits.{related}
use Rattle.positions.proofs.Growing.{grown-unite, grown-both, grown-row, null_left, not_null_left}
use Rattle.positions.proofs.Items.{part-below}
use Rattle.positions.proofs.ends.add_ends.Goals as goal

pub returns-then-has : goal.returns-then-has
returns-then-has g c =
    let ws = c.args.items.now.words in
    let a = c.in-Sequence.first in
    let b = c.in-Sequence.second in
    grown-row c.args.nullable.now.marks c.in-Sequence.is (λ n. null_left (related ws a n) (related ws b n) c.if-has.ensures)
    (grown-both ws c.unite.new.self.words c.unite-then-has.new.self.words c.args.place a b (omega arith) (omega arith)
    (part-below c.requires.lower c.in-Sequence.is (left refl)) (part-below c.requires.lower c.in-Sequence.is (right refl)) c.unite.ensures c.unite-then-has.ensures)

pub returns-else-has : goal.returns-else-has
returns-else-has g c =
    let ws = c.args.items.now.words in
    let a = c.in-Sequence.first in
    let b = c.in-Sequence.second in
    grown-row c.args.nullable.now.marks c.in-Sequence.is (λ n. not_null_left (related ws a n) (related ws b n) c.if-has.ensures)
    (grown-unite ws c.unite.new.self.words c.args.place a (omega arith) (part-below c.requires.lower c.in-Sequence.is (left refl)) c.unite.ensures)

pub returns-in-Choice : goal.returns-in-Choice
returns-in-Choice g c =
    let ws = c.args.items.now.words in
    let a = c.in-Choice.first in
    let b = c.in-Choice.second in
    grown-row c.args.nullable.now.marks c.in-Choice.is (λ n. refl)
    (grown-both ws c.unite-in-Choice.new.self.words c.unite-in-Choice-2.new.self.words c.args.place a b (omega arith) (omega arith)
    (part-below c.requires.lower c.in-Choice.is (first refl)) (part-below c.requires.lower c.in-Choice.is (second refl)) c.unite-in-Choice.ensures c.unite-in-Choice-2.ensures)

pub returns-in-Repetition : goal.returns-in-Repetition
returns-in-Repetition g c =
    grown-row c.args.nullable.now.marks c.in-Repetition.is (λ n. refl)
    (grown-unite c.args.items.now.words c.unite-in-Repetition.new.self.words c.args.place c.in-Repetition.part (omega arith) (part-below c.requires.lower c.in-Repetition.is (repeats refl)) c.unite-in-Repetition.ensures)
