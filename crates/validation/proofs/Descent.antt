-- A child has fewer elements inside one another than the tree that it is a child of: what a walk down trees counts down.
use Rattle.std.proofs.Common.{ℕ, zero, suc, ◌<◌, ◌≤◌, List, [], ◌∷◌, length, get_or, ap, le_of_suc-le-suc, not-suc-le-zero, arith}
use Rattle.forest.specs.Forests.{Forest, none, leaf, node, Item, scalar, element, items, depth}
use Rattle.forest.specs.Stores.{Child, nothing, children_at}
use Rattle.nesting.specs.Levels.{item_depth}

among : (f : Forest) (j : ℕ) → j < length (items f) → item_depth (get_or (items f) j nothing) ≤ depth f
among none j lt = absurd (not-suc-le-zero lt)
among (leaf s f) zero lt = omega arith
among (leaf s f) (suc j) lt = omega (arith, among f j (le_of_suc-le-suc lt))
among (node t c f) zero lt = omega arith
among (node t c f) (suc j) lt = omega (arith, among f j (le_of_suc-le-suc lt))

lower : (ts : List Item) (h j : ℕ) → j < length (children_at ts h) → item_depth (get_or (children_at ts h) j nothing) < item_depth (get_or ts h nothing)
lower [] h j lt = absurd (not-suc-le-zero lt)
lower (scalar s ∷ ts) zero j lt = absurd (not-suc-le-zero lt)
lower (element t c ∷ ts) zero j lt = omega (arith, among c j lt)
lower (i ∷ ts) (suc h) j lt = lower ts h j lt

pub child_lower : (ts : List Item) (h j r : ℕ) → Child ts h j r → j < length (children_at ts h) → item_depth (get_or ts r nothing) < item_depth (get_or ts h nothing)
child_lower ts h j r child lt = omega (arith, lower ts h j lt, ap item_depth (child.tree nothing lt))
