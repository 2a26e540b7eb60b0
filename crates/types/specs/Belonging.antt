-- Which forests belong to a row of a table of types, and when one type is a subtype of another.
use Rattle.std.specs.Prelude.{◌≡◌, ℕ, true, List}
use Rattle.forest.specs.Forests.{Scalar, integer, string, boolean, Forest, none, leaf, node, scalar_lawful, tag_lawful}
use Rattle.rows.specs.declared.type_row.TypeRow.{TypeRow}
use Rattle.rows.specs.declared.type_row.TypeRow.TheVariants.{EmptySequence, Integer, String, Boolean, Element, AnyElement, Sequence, Choice, Repetition}
use Rattle.types.specs.Parts.{row}

-- one forest, then another
abbrev pub join : Forest → Forest → Forest
join none g = g
join (leaf s f) g = leaf s (join f g)
join (node t c f) g = node t c (join f g)

-- the row that asks for one scalar of this kind
abbrev pub scalar_row : Scalar → TypeRow
scalar_row (integer z) = Integer
scalar_row (string bs) = String
scalar_row (boolean b) = Boolean

-- A forest belongs to a row. To the empty choice none does. A content is a row of the table, so types are recursive.
pub data Belongs (ts : List TypeRow) : ℕ → Forest → Type 0 where
  nothing : {r : ℕ} → row ts r ≡ EmptySequence → Belongs ts r none
  one_scalar : {r : ℕ} {s : Scalar} → row ts r ≡ scalar_row s → scalar_lawful s ≡ true → Belongs ts r (leaf s none)
  one_element : {r t c : ℕ} {f : Forest} → row ts r ≡ Element t c → tag_lawful t ≡ true → Belongs ts c f → Belongs ts r (node t f none)
  any_element : {r t c : ℕ} {f : Forest} → row ts r ≡ AnyElement c → tag_lawful t ≡ true → Belongs ts c f → Belongs ts r (node t f none)
  both : {r a b : ℕ} {f g : Forest} → row ts r ≡ Sequence a b → Belongs ts a f → Belongs ts b g → Belongs ts r (join f g)
  by_first : {r a b : ℕ} {f : Forest} → row ts r ≡ Choice a b → Belongs ts a f → Belongs ts r f
  by_second : {r a b : ℕ} {f : Forest} → row ts r ≡ Choice a b → Belongs ts b f → Belongs ts r f
  no_more : {r a : ℕ} → row ts r ≡ Repetition a → Belongs ts r none
  one_more : {r a : ℕ} {f g : Forest} → row ts r ≡ Repetition a → Belongs ts a f → Belongs ts r g → Belongs ts r (join f g)

-- a fits b: every forest of a belongs to b
abbrev pub Subtype : List TypeRow → ℕ → ℕ → Type 0
Subtype ts a b = (f : Forest) → Belongs ts a f → Belongs ts b f
