use Rattle.arena.proofs.Reading.{spells}
use Rattle.arena.proofs.arena.Arena.text.Goals as goal

pub returns-in-None-clause-named : goal.returns-in-None-clause-named
returns-in-None-clause-named c =
    spells c.args.self.now c.args.handle c.row.result c.and_then.result _ c.row.ensures c.and_then.ensures c.in-None.is
