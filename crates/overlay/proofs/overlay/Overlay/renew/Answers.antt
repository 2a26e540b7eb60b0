use Rattle.std.proofs.Common.{rules}
use Rattle.overlay.proofs.Renewing.{renewed-is}
use Rattle.overlay.proofs.overlay.Overlay.renew.Goals as goal

pub returns-then-has_room-clause-renewed : goal.returns-then-has_room-clause-renewed
returns-then-has_room-clause-renewed g c = renewed-is (g.S.Store.means c.args.self.below).trees c.args.self.own c.renew_in_place.new.self c.args.allowances c.cut-space.result c.args.self.fits (search rules) c.cut-space.ensures (search rules) (search rules)

pub returns-in-Ok-clause-renewed : goal.returns-in-Ok-clause-renewed
returns-in-Ok-clause-renewed g c = renewed-is (g.S.Store.means c.args.self.below).trees c.args.self.own c.in-Ok.own c.args.allowances c.cut-space.result c.args.self.fits c.in-Ok.ensures c.cut-space.ensures (search rules) (search rules)
