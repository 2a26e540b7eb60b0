use Rattle.session.proofs.Kept.{lawful}
use Rattle.session.proofs.session.Session.type_count.Goals as goal

pub returns-clause-lawful : goal.returns-clause-lawful
returns-clause-lawful c = lawful c.args.self.now
