use Rattle.std.proofs.Common.{length}
use Rattle.session.proofs.checking.joining.+choose.Given as goal

abbrev pub decreases-choose : goal.decreases-choose
decreases-choose l = length l.rest.now
