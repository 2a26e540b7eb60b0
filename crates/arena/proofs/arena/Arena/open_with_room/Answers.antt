use Rattle.std.proofs.Common.{ap, rules}
use Rattle.forest.specs.Forests.{bytes_lawful}
use Rattle.arena.specs.Rows.{built, sound}
use Rattle.arena.proofs.arena.Arena.open_with_room.Goals as goal

-- an arena with no rows is sound, and has just the trees below
pub invariant_of-result-clause-good : goal.invariant_of-result-clause-good
unfolding sound
invariant_of-result-clause-good c = ap (sound _ _ _) c.in_ok-with_capacity.ensures.items

pub invariant_of-result-clause-bytes : goal.invariant_of-result-clause-bytes
invariant_of-result-clause-bytes c = ap bytes_lawful c.in_ok-with_capacity-3.ensures.items

pub returns-clause-opened : goal.returns-clause-opened
unfolding built
returns-clause-opened c =
    let none = c.in_ok-with_capacity.ensures.items in
    record {
      base = search rules;
      space = search rules;
      rows = none;
      children = c.in_ok-with_capacity-2.ensures.items;
      text = c.in_ok-with_capacity-3.ensures.items;
      trees = λ ts. ap (built ts _ _) none;
    }
