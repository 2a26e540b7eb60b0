use Rattle.std.proofs.Common.{rules}
use Rattle.nesting.proofs.Depths.{deepest-set}
use Rattle.nesting.proofs.level.Level.mark.Goals as goal

pub returns-then-place-len-clause-deeper : goal.returns-then-place-len-clause-deeper
returns-then-place-len-clause-deeper g c = deepest-set (g.S.Store.means c.args.self.now.store.now).trees c.args.self.now.marks.items c.args.handle (search rules)
