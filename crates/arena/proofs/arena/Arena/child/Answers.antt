use Rattle.std.proofs.Common.{◌≡◌, get_or, rules}
use Rattle.arena.specs.Arenas.{trees_over}
use Rattle.arena.proofs.Reading.{names-child}
use Rattle.arena.proofs.arena.Arena.child.Goals as goal

pub returns : goal.returns
returns c = λ ts e le.
    let named = c.children-children.ensures.named ts e le in
    let es = c.children-children.result.now in
    let at : c.unwrap_or.result ≡ get_or es c.args.index 0 = search rules in
    names-child (trees_over ts c.args.self.now) c.args.handle c.args.index c.unwrap_or.result es named.0 named.1 at
