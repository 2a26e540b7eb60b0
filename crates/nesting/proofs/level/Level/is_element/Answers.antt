use Rattle.std.proofs.Common.{rules}
use Rattle.nesting.proofs.Depths.{element-deep}
use Rattle.nesting.proofs.level.Level.is_element.Goals as goal

pub returns : goal.returns
returns g c = search (rules, element-deep)
