use Rattle.std.proofs.Common.{◌≡◌, ◌++◌, map, drop}
use Rattle.printing.specs.Items.{printed_at}
use Rattle.printing.specs.Printed.{joined}
use Rattle.printing.proofs.Lists.{left}
use Rattle.printing.proofs.printer.Printer.write_forest.Given as goal

abbrev pub invariant-loop-place : goal.invariant-loop-place
invariant-loop-place g l =
    let texts = printed_at (g.S.Store.means l.fn.self.store.now).trees in
    (l.self.store ≡ l.fn.self.store)
    × (l.self.text.limit ≡ l.fn.self.text.limit)
    × (l.self.text.bytes.items ++ left l.place (map texts (drop l.place l.handles)) ≡ l.fn.self.text.bytes.items ++ joined (map texts l.handles))
