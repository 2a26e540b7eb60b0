use Rattle.std.proofs.Common.{arith}
use Rattle.probe.specs.Performing.{text_or_failure}
use Rattle.probe.proofs.Wider.{wider}
use Rattle.probe.proofs.calls.printed.Goals as goal

pub returns-then-not-was_short : goal.returns-then-not-was_short
returns-then-not-was_short g c = wider g.S.Store.LAYER (g.S.Store.means c.args.store.now) c.args.handles.now 1048576 c.args.places (text_or_failure c.print_into-text.result) (omega arith) (c.was_short.ensures c.if-not-was_short.true) c.print_into-text.ensures
