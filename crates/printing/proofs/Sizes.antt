-- How many items a tree has: what a walk over it counts down.
use Rattle.std.proofs.Common.{ℕ, zero, suc, ◌+◌, ◌<◌, ◌≤◌, List, [], ◌∷◌, length, get_or, ap, le_of_suc-le-suc, not-suc-le-zero, arith}
use Rattle.forest.specs.Forests.{Forest, none, leaf, node, Item, scalar, element, items}
use Rattle.forest.specs.Stores.{Child, nothing, children_at}

abbrev pub forest-size : Forest → ℕ
forest-size none = 0
forest-size (leaf s f) = 1 + forest-size f
forest-size (node t c f) = 1 + forest-size c + forest-size f

abbrev pub item-size : Item → ℕ
item-size (scalar s) = 1
item-size (element t c) = 1 + forest-size c

among : (f : Forest) (j : ℕ) → j < length (items f) → item-size (get_or (items f) j nothing) ≤ forest-size f
among none j lt = absurd (not-suc-le-zero lt)
among (leaf s f) zero lt = omega arith
among (leaf s f) (suc j) lt = omega (arith, among f j (le_of_suc-le-suc lt))
among (node t c f) zero lt = omega arith
among (node t c f) (suc j) lt = omega (arith, among f j (le_of_suc-le-suc lt))

smaller : (ts : List Item) (h j : ℕ) → j < length (children_at ts h) → item-size (get_or (children_at ts h) j nothing) < item-size (get_or ts h nothing)
smaller [] h j lt = absurd (not-suc-le-zero lt)
smaller (scalar s ∷ ts) zero j lt = absurd (not-suc-le-zero lt)
smaller (element t c ∷ ts) zero j lt = omega (arith, among c j lt)
smaller (i ∷ ts) (suc h) j lt = smaller ts h j lt

-- a child is smaller
pub child_smaller : (ts : List Item) (h j r : ℕ) → Child ts h j r → j < length (children_at ts h) → item-size (get_or ts r nothing) < item-size (get_or ts h nothing)
child_smaller ts h j r child lt = omega (arith, smaller ts h j lt, ap item-size (child.tree nothing lt))
