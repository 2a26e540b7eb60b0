-- Trees of a store as text.
use Rattle.std.specs.Prelude.{ℕ, zero, suc, List, [], map, codes, slice_index_or}
use Rattle.forest.specs.Forests.{Item, scalar, element}
use Rattle.printing.specs.Printed.{scalar_printed, element_printed, texts}

abbrev pub item_printed : Item → List ℕ
item_printed (scalar s) = scalar_printed s
item_printed (element t c) = element_printed t (texts c)

-- what is not there prints nothing
abbrev pub printed_at : List Item → ℕ → List ℕ
printed_at ts h = slice_index_or (map item_printed ts) h []

-- what stands before an item, by its place: a comma, unless it is the first
abbrev pub separator : ℕ → List ℕ
separator zero = []
separator (suc n) = codes ","
