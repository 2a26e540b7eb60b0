-- What a run reads off forests: truth, numbers, equality, and which arm takes an item.
use Rattle.std.specs.Prelude.{ℕ, Bool, true, false, cond, not, ◌&&◌, List, [], ◌∷◌, ◌++◌, length, ℤ, pos, negsuc, ◌==◌}
use Rattle.forest.specs.Forests.{Scalar, integer, string, boolean, Forest, none, leaf, node, items}
use Rattle.rows.specs.declared.arm.Arm.{Arm}
use Rattle.rows.specs.declared.arm.Pattern.{Pattern}
use Rattle.rows.specs.declared.arm.Pattern.TheVariants.{Integer, String, Boolean, Element, AnyElement}

-- how many items a forest has
abbrev pub size : Forest → ℕ
size f = length (items f)

abbrev pub is_none : Forest → Bool
is_none none = true
is_none (leaf s f) = false
is_none (node t c f) = false

-- what stands inside the first item
abbrev pub inside : Forest → Forest
inside none = none
inside (leaf s f) = none
inside (node t c f) = c

abbrev pub scalar_truth : Scalar → Bool
scalar_truth (integer z) = false
scalar_truth (string bs) = false
scalar_truth (boolean b) = b

abbrev pub truth : Forest → Bool
truth none = false
truth (leaf s f) = scalar_truth s
truth (node t c f) = false

abbrev pub scalar_number : Scalar → ℤ
scalar_number (integer z) = z
scalar_number (string bs) = pos 0
scalar_number (boolean b) = pos 0

abbrev pub number : Forest → ℤ
number none = pos 0
number (leaf s f) = scalar_number s
number (node t c f) = pos 0

abbrev pub same_integer : ℤ → ℤ → Bool
same_integer (pos m) (pos n) = m == n
same_integer (pos m) (negsuc n) = false
same_integer (negsuc m) (pos n) = false
same_integer (negsuc m) (negsuc n) = m == n

abbrev pub same_bytes : List ℕ → List ℕ → Bool
same_bytes [] [] = true
same_bytes [] (y ∷ ys) = false
same_bytes (x ∷ xs) [] = false
same_bytes (x ∷ xs) (y ∷ ys) = x == y && same_bytes xs ys

abbrev pub same_scalar : Scalar → Scalar → Bool
same_scalar (integer x) (integer y) = same_integer x y
same_scalar (integer x) (string y) = false
same_scalar (integer x) (boolean y) = false
same_scalar (string x) (integer y) = false
same_scalar (string x) (string y) = same_bytes x y
same_scalar (string x) (boolean y) = false
same_scalar (boolean x) (integer y) = false
same_scalar (boolean x) (string y) = false
same_scalar (boolean x) (boolean y) = cond x y (not y)

-- equality of scalars; an element is equal to nothing
abbrev pub same : Forest → Forest → Bool
same none g = false
same (leaf x f) none = false
same (leaf x f) (leaf y g) = same_scalar x y
same (leaf x f) (node t c g) = false
same (node t c f) g = false

abbrev pub takes_scalar : Pattern → Scalar → Bool
takes_scalar Integer (integer z) = true
takes_scalar Integer (string bs) = false
takes_scalar Integer (boolean b) = false
takes_scalar String (integer z) = false
takes_scalar String (string bs) = true
takes_scalar String (boolean b) = false
takes_scalar Boolean (integer z) = false
takes_scalar Boolean (string bs) = false
takes_scalar Boolean (boolean b) = true
takes_scalar (Element t) s = false
takes_scalar AnyElement s = false

abbrev pub takes_tag : Pattern → ℕ → Bool
takes_tag Integer t = false
takes_tag String t = false
takes_tag Boolean t = false
takes_tag (Element u) t = u == t
takes_tag AnyElement t = true

-- an arm takes the first item of a forest
abbrev pub takes : Pattern → Forest → Bool
takes p none = false
takes p (leaf s f) = takes_scalar p s
takes p (node t c f) = takes_tag p t

-- the branch of a match that runs, and the variables that it runs with: the first arm that takes the item binds it, else binds nothing
abbrev pub chosen : List Arm → ℕ → Forest → List Forest → ℕ × List Forest
chosen [] else f env = (else, env)
chosen (arm ∷ arms) else f env = cond (takes arm.pattern f) (arm.body, env ++ (f ∷ [])) (chosen arms else f env)
