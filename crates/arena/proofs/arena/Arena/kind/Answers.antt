use Rattle.std.proofs.Common.{rules}
use Rattle.arena.specs.Arenas.{Found}
use Rattle.arena.proofs.Reading.{kind-read}
use Rattle.arena.proofs.arena.Arena.kind.Goals as goal

pub returns : goal.returns
returns c =
    let found : Found c.args.self.now c.args.handle c.row.result = search rules in
    kind-read _ _ _ _ found c.map.ensures.cases
