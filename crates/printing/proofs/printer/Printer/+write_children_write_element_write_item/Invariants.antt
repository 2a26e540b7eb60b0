use Rattle.std.proofs.Common.{◌≡◌, ◌+◌, ◌*◌, ◌++◌, map, get_or, drop}
use Rattle.forest.specs.Stores.{children_at, nothing}
use Rattle.printing.specs.Items.{item_printed}
use Rattle.printing.specs.Printed.{joined}
use Rattle.printing.proofs.Lists.{left}
use Rattle.printing.proofs.Sizes.{item-size}
use Rattle.printing.proofs.printer.Printer.+write_children_write_element_write_item.Given as goal

abbrev pub decreases-write_children : goal.decreases-write_children
decreases-write_children g l = 3 * item-size (get_or (g.S.Store.means l.self.now.store.now).trees l.handle nothing)

abbrev pub decreases-write_element : goal.decreases-write_element
decreases-write_element g l = 3 * item-size (get_or (g.S.Store.means l.self.now.store.now).trees l.handle nothing) + 1

abbrev pub decreases-write_item : goal.decreases-write_item
decreases-write_item g l = 3 * item-size (get_or (g.S.Store.means l.self.now.store.now).trees l.handle nothing) + 2

abbrev pub invariant-write_children-loop-index : goal.invariant-write_children-loop-index
invariant-write_children-loop-index g l =
    let cs = children_at (g.S.Store.means l.fn.self.store.now).trees l.handle in
    (l.self.store ≡ l.fn.self.store)
    × (l.self.text.limit ≡ l.fn.self.text.limit)
    × (l.self.text.bytes.items ++ left l.index (map item_printed (drop l.index cs)) ≡ l.fn.self.text.bytes.items ++ joined (map item_printed cs))
