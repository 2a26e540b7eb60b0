-- The trees that rows stand for.
use Rattle.std.specs.Prelude.{ℕ, ◌+◌, Bool, true, ◌&&◌, List, [], ◌∷◌, ◌++◌, length, take, drop, ℤ, Some, None, Option, nat_le}
use Rattle.forest.specs.Forests.{Item, scalar, element, integer, string, boolean, forest, integer_lawful, tag_lawful}
use Rattle.forest.specs.declared.kind.Kind.{Kind}
use Rattle.forest.specs.Stores.{picked, all_below, item_kind, item_tag, item_value}
use Rattle.arena.specs.declared.row.Row.{Row}
use Rattle.arena.specs.declared.row.Row.TheVariants.{Boolean, Integer, String, Element}
use Rattle.arena.specs.declared.row.Span.{Span}

-- the things that a span names
abbrev pub part : {X : Type 0} → Span → List X → List X
part s xs = take s.length (drop s.from xs)

-- the span lies within n things
abbrev pub within : Span → ℕ → Bool
within s n = nat_le (s.from + s.length) n

-- The tree of a row: its child entries es are places in the trees ts, its text is a part of bs.
abbrev pub row_item : List Item → List ℕ → List ℕ → Row → Item
row_item ts es bs (Boolean b) = scalar (boolean b)
row_item ts es bs (Integer z) = scalar (integer z)
row_item ts es bs (String s) = scalar (string (part s bs))
row_item ts es bs (Element t s) = element t (forest (picked ts (part s es)))

-- kind, tag and value of a row's tree rest on the row alone

abbrev pub row_kind : Row → Kind
row_kind r = item_kind (row_item [] [] [] r)

abbrev pub row_tag : Row → ℕ
row_tag r = item_tag (row_item [] [] [] r)

abbrev pub row_value : Row → ℤ
row_value r = item_value (row_item [] [] [] r)

-- the entries that an element names, and the bytes that a String does

abbrev pub row_children : Row → Option Span
row_children (Boolean b) = None
row_children (Integer z) = None
row_children (String s) = None
row_children (Element t s) = Some s

abbrev pub row_text : Row → Option Span
row_text (Boolean b) = None
row_text (Integer z) = None
row_text (String s) = Some s
row_text (Element t s) = None

-- The trees ts and then one for each row, whose children are among the trees before it.
unfoldable pub built : List Item → List ℕ → List ℕ → List Row → List Item
built ts es bs [] = ts
built ts es bs (r ∷ rs) = built (ts ++ (row_item ts es bs r ∷ [])) es bs rs

-- A row is sound behind n trees if its fields are in range, its part is there, and its children are among the n.
abbrev pub row_sound : ℕ → List ℕ → List ℕ → Row → Bool
row_sound n es bs (Boolean b) = true
row_sound n es bs (Integer z) = integer_lawful z
row_sound n es bs (String s) = within s (length bs)
row_sound n es bs (Element t s) = tag_lawful t && (within s (length es) && all_below n (part s es))

-- each row is, behind n trees and the rows before it
unfoldable pub sound : ℕ → List ℕ → List ℕ → List Row → Bool
sound n es bs [] = true
sound n es bs (r ∷ rs) = row_sound n es bs r && sound (n + 1) es bs rs
