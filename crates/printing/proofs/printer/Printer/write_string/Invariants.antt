use Rattle.std.proofs.Common.{◌≡◌, [], ◌∷◌, ◌++◌, drop}
use Rattle.forest.specs.Stores.{text_at}
use Rattle.printing.specs.Printed.{all_escaped, quote, quoted}
use Rattle.printing.proofs.printer.Printer.write_string.Given as goal

abbrev pub invariant-loop-index : goal.invariant-loop-index
invariant-loop-index g l =
    let bs = text_at (g.S.Store.means l.fn.self.store.now).trees l.handle in
    (l.self.store ≡ l.fn.self.store)
    × (l.self.text.limit ≡ l.fn.self.text.limit)
    × (l.self.text.bytes.items ++ (all_escaped (drop l.index bs) ++ (quote ∷ [])) ≡ l.fn.self.text.bytes.items ++ quoted bs)
