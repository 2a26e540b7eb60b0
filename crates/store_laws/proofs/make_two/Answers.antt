use Rattle.std.proofs.Common.{w64, SFits}
use Rattle.std.proofs.lemmas.Int.{to_z-of_z}
use Rattle.store_laws.proofs.Back.{both-stand}
use Rattle.store_laws.proofs.make_two.Goals as goal

pub returns : goal.returns
returns g c =
    let one : SFits w64 c.args.first = c.ranges.first in
    let two : SFits w64 c.args.second = c.ranges.second in
    both-stand g.S.Store.LAYER (g.S.Store.means c.args.store.now) (g.S.Store.means c.make_integer.new.self) (g.S.Store.means c.make_integer-2.new.self) c.args.first c.args.second c.in_ok-one.one c.in_ok-two.two (simp to_z-of_z at c.in_ok-one.ensures) (simp to_z-of_z at c.in_ok-two.ensures)
