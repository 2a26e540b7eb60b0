-- A forest is the list of its items.
use Rattle.std.proofs.Common.{◌≡◌, List, [], ◌∷◌, refl, ap}
use Rattle.forest.specs.Forests.{Forest, none, leaf, node, Item, scalar, element, items, before, forest}

pub items-before : (i : Item) (f : Forest) → items (before i f) ≡ i ∷ items f
items-before (scalar s) f = refl
items-before (element t c) f = refl

pub items-forest : (xs : List Item) → items (forest xs) ≡ xs
items-forest [] = refl
items-forest (x ∷ xs) = rw (items-before x (forest xs), items-forest xs)

pub forest-items : (f : Forest) → forest (items f) ≡ f
forest-items none = refl
forest-items (leaf s f) = ap (leaf s) (forest-items f)
forest-items (node t c f) = ap (node t c) (forest-items f)
