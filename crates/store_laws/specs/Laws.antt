-- What holds of every store, by what reading and making promise alone.
use Rattle.std.specs.Prelude.{◌≡◌, ℕ, ◌⊎◌, List, [], ◌∷◌, ◌++◌, ℤ, Ok, Err, Result}
use Rattle.forest.specs.declared.fault.Fault.{Fault}
use Rattle.forest.specs.Forests.{scalar, integer}
use Rattle.forest.specs.Stores.{Meaning, make, asked_integer, asked_element, value_at}

-- Two Integers were made: both are there to be read, and every tree from before is where it was.
pub record BothStand (m n : Meaning) (x y : ℤ) (h k : ℕ) : Type 0 where
  pub first : value_at n.trees h ≡ x
  pub second : value_at n.trees k ≡ y
  pub kept : n.trees ≡ (m.trees ++ (scalar (integer x) ∷ [])) ++ (scalar (integer y) ∷ [])

-- one Integer was made, or refused
abbrev pub Made : ℕ → Meaning → ℤ → Result ℕ Fault → Meaning → Type 0
Made l m x r n = (r, n) ≡ make l (asked_integer x) m

-- The first was refused; or it was made and the second refused, and then the first stays.
abbrev pub RefusedOne : ℕ → Meaning → ℤ → ℤ → Fault → Meaning → Type 0
RefusedOne l m x y f n = Made l m x (Err f) n ⊎ ((k : Meaning) × (h : ℕ) × Made l m x (Ok h) k × Made l k y (Err f) n)

-- an element was made, or refused
abbrev pub MadeElement : ℕ → Meaning → ℕ → List ℕ → Result ℕ Fault → Meaning → Type 0
MadeElement l m t hs r n = (r, n) ≡ make l (asked_element m.trees t hs) m
