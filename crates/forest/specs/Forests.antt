-- Items and forests: what a capture, a table or a query's result is made of.
use Rattle.std.specs.Prelude.{ℕ, ◌+◌, max, Bool, true, ◌&&◌, List, [], ◌∷◌, ℤ, pos, negsuc, nat_le, nat_lt}
use Rattle.std.specs.List.{list_all}

pub data Scalar : Type 0 where
  integer : ℤ → Scalar
  string : List ℕ → Scalar
  boolean : Bool → Scalar

-- A forest is empty, or it begins with a scalar or with an element (a tag and a content), and a forest follows.
pub data Forest : Type 0 where
  none : Forest
  leaf : Scalar → Forest → Forest
  node : ℕ → Forest → Forest → Forest

-- One item of a forest.
pub data Item : Type 0 where
  scalar : Scalar → Item
  element : ℕ → Forest → Item

-- A forest is the list of its items.
abbrev pub items : Forest → List Item
items none = []
items (leaf s f) = scalar s ∷ items f
items (node t c f) = element t c ∷ items f

abbrev pub before : Item → Forest → Forest
before (scalar s) f = leaf s f
before (element t c) f = node t c f

abbrev pub forest : List Item → Forest
forest [] = none
forest (i ∷ is) = before i (forest is)

-- How many elements stand inside one another, at most.
abbrev pub depth : Forest → ℕ
depth none = 0
depth (leaf s f) = depth f
depth (node t c f) = max (1 + depth c) (depth f)

-- Integers go from −10^12 to 10^12, tags from 1 to 65,535, and a String is made of bytes.
abbrev pub integer_lawful : ℤ → Bool
integer_lawful (pos n) = nat_le n 1000000000000
integer_lawful (negsuc n) = nat_lt n 1000000000000

abbrev pub tag_lawful : ℕ → Bool
tag_lawful t = nat_le 1 t && nat_le t 65535

abbrev pub bytes_lawful : List ℕ → Bool
bytes_lawful bs = list_all (λ b. nat_lt b 256) bs

abbrev pub scalar_lawful : Scalar → Bool
scalar_lawful (integer z) = integer_lawful z
scalar_lawful (string bs) = bytes_lawful bs
scalar_lawful (boolean b) = true

abbrev pub lawful : Forest → Bool
lawful none = true
lawful (leaf s f) = scalar_lawful s && lawful f
lawful (node t c f) = tag_lawful t && (lawful c && lawful f)
