use Rattle.std.proofs.Common.{false, refl}
use Rattle.session.proofs.Refusals.{copied_standing, copied_input}
use Rattle.session.proofs.session.Session.refused.Goals as goal

pub type_all-requires-clause-ready : goal.type_all-requires-clause-ready
type_all-requires-clause-ready c = copied_standing c.declared_rows-declared.result _ refl refl c.in-Ok.ensures (record { variables = c.new.result; error = false }) c.new.ensures

pub type_all-requires-clause-input : goal.type_all-requires-clause-input
type_all-requires-clause-input c = copied_input c.declared_rows-declared.result c.in-Ok.ensures
