-- What an iterator over the items of a row has left.
use Rattle.std.specs.Prelude.{ℕ, List}
use Rattle.bits.specs.declared.items.Items.{Items}
use Rattle.bits.specs.Bits.{row_items}

abbrev pub items_left : Items → List ℕ
items_left s = row_items s.words.now s.row s.from
