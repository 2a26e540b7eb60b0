-- What a store means, what reading it gives, and what making does to it.
use Rattle.std.specs.Prelude.{◌≡◌, ℕ, ◌+◌, ◌-◌, ◌<◌, ◌≤◌, Bool, true, false, ◌&&◌, List, [], ◌∷◌, ◌++◌, map, length, ℤ, pos, Some, None, Ok, Err, Option, Result, nat_le, nat_lt, slice_get, slice_index, slice_index_or}
use Rattle.std.specs.List.{list_all}
use Rattle.forest.specs.declared.fault.Fault.{Fault}
use Rattle.forest.specs.declared.fault.Reason.TheVariants.{SpaceShort, OutOfRange}
use Rattle.forest.specs.declared.kind.Kind.{Kind}
use Rattle.forest.specs.declared.kind.Kind.TheVariants.{Integer, String, Boolean, Element}
use Rattle.forest.specs.declared.space.Space.{Space}
use Rattle.forest.specs.Faults.{faulted}
use Rattle.forest.specs.Forests.{Scalar, integer, string, boolean, Item, scalar, element, items, forest, lawful, integer_lawful, tag_lawful}

-- A store means a list of trees, one item each, and what it may still take. A handle is a place in the list.
pub record Meaning : Type 0 where
  pub trees : List Item
  pub space : Space

-- What is asked of every meaning: no tree past the limit, also after all that may still be made; each tree is lawful.
pub record Sound (m : Meaning) : Type 0 where
  pub few : length m.trees + m.space.trees ≤ 1000000
  pub legal : lawful (forest m.trees) ≡ true

-- Reading, one item at a time.

abbrev pub kind_number : Kind → ℕ
kind_number Integer = 3
kind_number String = 4
kind_number Boolean = 5
kind_number Element = 6

abbrev pub scalar_kind : Scalar → Kind
scalar_kind (integer z) = Integer
scalar_kind (string bs) = String
scalar_kind (boolean b) = Boolean

abbrev pub item_kind : Item → Kind
item_kind (scalar s) = scalar_kind s
item_kind (element t c) = Element

abbrev pub item_tag : Item → ℕ
item_tag (scalar s) = 0
item_tag (element t c) = t

abbrev pub item_children : Item → List Item
item_children (scalar s) = []
item_children (element t c) = items c

abbrev pub boolean_value : Bool → ℤ
boolean_value true = pos 1
boolean_value false = pos 0

abbrev pub scalar_value : Scalar → ℤ
scalar_value (integer z) = z
scalar_value (string bs) = pos 0
scalar_value (boolean b) = boolean_value b

abbrev pub item_value : Item → ℤ
item_value (scalar s) = scalar_value s
item_value (element t c) = pos 0

abbrev pub scalar_text : Scalar → List ℕ
scalar_text (integer z) = []
scalar_text (string bs) = bs
scalar_text (boolean b) = []

abbrev pub item_text : Item → List ℕ
item_text (scalar s) = scalar_text s
item_text (element t c) = []

-- Reading by handle: what is not there has no kind, and reads 0.

abbrev pub kind_at : List Item → ℕ → Option Kind
kind_at ts h = slice_get (map item_kind ts) h

abbrev pub tag_at : List Item → ℕ → ℕ
tag_at ts h = slice_index (map item_tag ts) h

abbrev pub children_at : List Item → ℕ → List Item
children_at ts h = slice_index_or (map item_children ts) h []

abbrev pub value_at : List Item → ℕ → ℤ
value_at ts h = slice_index_or (map item_value ts) h (pos 0)

abbrev pub text_at : List Item → ℕ → List ℕ
text_at ts h = slice_index_or (map item_text ts) h []

-- r is a handle of child j of the tree at h, or 0 where there is no such child. Which handle of that tree it is, is the store's choice.
pub record Child (ts : List Item) (h j r : ℕ) : Type 0 where
  pub there : j < length (children_at ts h) → r < length ts
  pub tree : (d : Item) → j < length (children_at ts h) → slice_index_or ts r d ≡ slice_index_or (children_at ts h) j d
  pub absent : length (children_at ts h) ≤ j → r ≡ 0

-- Making: the item that is asked for, or none where a field is out of range.

abbrev pub when : Bool → Item → Option Item
when true i = Some i
when false i = None

abbrev pub asked_integer : ℤ → Option Item
asked_integer z = when (integer_lawful z) (scalar (integer z))

abbrev pub asked_boolean : ℕ → Option Item
asked_boolean n = when (nat_le n 1) (scalar (boolean (nat_le 1 n)))

abbrev pub asked_string : List ℕ → Option Item
asked_string bs = Some (scalar (string bs))

-- Stands in for a tree that is not there, where a definition must give one.
abbrev pub nothing : Item
nothing = scalar (boolean false)

-- the trees that handles name
abbrev pub picked : List Item → List ℕ → List Item
picked ts [] = []
picked ts (h ∷ hs) = slice_index_or ts h nothing ∷ picked ts hs

abbrev pub all_below : ℕ → List ℕ → Bool
all_below n hs = list_all (λ h. nat_lt h n) hs

abbrev pub asked_element : List Item → ℕ → List ℕ → Option Item
asked_element ts t hs = when (tag_lawful t && all_below (length ts) hs) (element t (forest (picked ts hs)))

-- what one tree takes of the space
abbrev pub cost : Item → Space
cost i = record { trees = 1; children = length (item_children i); bytes = length (item_text i) }

abbrev pub holds : Space → Space → Bool
holds s c = nat_le c.trees s.trees && (nat_le c.children s.children && nat_le c.bytes s.bytes)

abbrev pub less : Space → Space → Space
less s c = record { trees = s.trees - c.trees; children = s.children - c.children; bytes = s.bytes - c.bytes }

-- one tree more, at the end
abbrev pub grown : Meaning → Item → Meaning
grown m i = record { trees = m.trees ++ (i ∷ []); space = less m.space (cost i) }

-- the answer to a call that makes, and the store's meaning after it
abbrev pub make_if : Bool → ℕ → Item → Meaning → Result ℕ Fault × Meaning
make_if true l i m = (Ok (length m.trees), grown m i)
make_if false l i m = (Err (faulted SpaceShort l 0), m)

-- Making in a store of layer l: out of range first, then space short, else one tree more.
abbrev pub make : ℕ → Option Item → Meaning → Result ℕ Fault × Meaning
make l None m = (Err (faulted OutOfRange l 0), m)
make l (Some i) m = make_if (holds m.space (cost i)) l i m
