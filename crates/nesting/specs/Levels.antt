-- Levels of a walk down the trees of a store: a mark for each tree says whether it stands at the level.
use Rattle.std.specs.Prelude.{ℕ, ◌+◌, max, Bool, cond, List, [], ◌∷◌}
use Rattle.forest.specs.Forests.{Item, scalar, element, depth}

abbrev pub item_depth : Item → ℕ
item_depth (scalar s) = 0
item_depth (element t c) = 1 + depth c

-- the depth of the deepest tree that is marked
abbrev pub deepest : List Item → List Bool → ℕ
deepest [] ms = 0
deepest (t ∷ ts) [] = 0
deepest (t ∷ ts) (m ∷ ms) = max (cond m (item_depth t) 0) (deepest ts ms)
