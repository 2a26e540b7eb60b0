use Rattle.session.proofs.Typings.{error_typed}
use Rattle.session.proofs.checking.leaves.type_error.Goals as goal

pub returns-clause-types : goal.returns-clause-types
returns-clause-types c = error_typed c.args.state.now.error c.in_ok-row.ensures.makes
