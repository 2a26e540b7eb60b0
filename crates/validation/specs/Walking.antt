-- A walk along trees of a store, from place to place of a root, and what is known of the trees below them.
use Rattle.std.specs.Prelude.{◌≡◌, ℕ, ◌+◌, ◌<◌, true, List, length, Some, None, Option, slice_index_or}
use Rattle.forest.specs.Forests.{Item, forest}
use Rattle.forest.specs.Stores.{kind_number, item_kind, item_tag, item_children, children_at, nothing}
use Rattle.forest.specs.declared.kind.Kind.{Kind}
use Rattle.rows.specs.declared.type_row.TypeRow.{TypeRow}
use Rattle.bits.specs.Bits.{related}
use Rattle.types.specs.Parts.{row, content}
use Rattle.types.specs.Belonging.{Belongs}
use Rattle.types.specs.Determinism.{label}
use Rattle.types.specs.Places.{Checked}
use Rattle.positions.specs.declared.tables.Positions.{Positions}
use Rattle.positions.specs.Built.{types_of, Built}
use Rattle.validation.specs.Matching.{suits}

-- the tables are right, contents are roots, and every root is one-way
pub record OneWayTypes (p : Positions) : Type 0 where
  pub built : Built p
  pub checked : Checked (types_of p) (length (types_of p))

-- what is marked holds: the children of tree h belong to row c
abbrev pub Known : List TypeRow → List Item → List ℕ → Type 0
Known ts trees marks = (h c : ℕ) → c < 512 → related marks h c ≡ true → Belongs ts c (forest (children_at trees h))

-- the number of the place behind an item
abbrev pub behind_item : ℕ → ℕ
behind_item m = 512 + m

-- the item row m may come next at a place, and suits a kind and a tag
pub record Suits (p : Positions) (place : ℕ) (k : Kind) (t m : ℕ) : Type 0 where
  pub inside : m < 512
  pub next : related p.whole.next.words place m ≡ true
  pub fits : suits (label (row (types_of p) m)) (kind_number k) t ≡ true

abbrev pub SuitsItem : Positions → ℕ → Item → ℕ → Type 0
SuitsItem p place i m = Suits p place (item_kind i) (item_tag i) m

-- the children of an item belong to the row c
abbrev pub Inside : Positions → Item → ℕ → Type 0
Inside p i c = Belongs (types_of p) c (forest (item_children i))

-- One step from a place over an item: to the place behind a row that takes it; or to none, as no row suits it, or as its children do not belong to the
-- content of one that does.
pub data Stepped (p : Positions) (place : ℕ) (i : Item) : Option ℕ → Type 0 where
  over : {m next : ℕ} → next ≡ behind_item m → SuitsItem p place i m → ((c : ℕ) → content (row (types_of p) m) ≡ Some c → Inside p i c) → Stepped p place i (Some next)
  no_row : ((m : ℕ) → SuitsItem p place i m → ⊥) → Stepped p place i None
  outside : {m c : ℕ} → SuitsItem p place i m → content (row (types_of p) m) ≡ Some c → (Inside p i c → ⊥) → Stepped p place i None

-- the tree that a handle names
abbrev pub tree_at : List Item → ℕ → Item
tree_at trees h = slice_index_or trees h nothing
