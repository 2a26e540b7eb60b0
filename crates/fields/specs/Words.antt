-- So many words, and a reader for one.
use Rattle.std.specs.Prelude.{ℕ, List, [], ◌∷◌, Some, None, Option}
use Rattle.std.specs.Option.{option_map}

-- one word and no other
abbrev pub only : {X : Type 0} → List X → Option X
only [] = None
only (a ∷ []) = Some a
only (a ∷ b ∷ more) = None

-- the first word and the others
abbrev pub first : {X : Type 0} → List X → Option (X × List X)
first [] = None
first (a ∷ more) = Some (a, more)

-- what is made of a value, if there is one
abbrev pub given : {X Y : Type 0} → Option X → (X → Option Y) → Option Y
given None next = None
given (Some x) next = next x

-- two words, three and five
abbrev pub pair : {X : Type 0} → List X → Option (X × X)
pair words = given (first words) (λ a. option_map (λ b. (a.0, b)) (only a.1))

abbrev pub triple : {X : Type 0} → List X → Option (X × X × X)
triple words = given (first words) (λ a. option_map (λ w. (a.0, w.0, w.1)) (pair a.1))

abbrev pub quintuple : {X : Type 0} → List X → Option (X × X × X × X × X)
quintuple words = given (first words) (λ a. given (first a.1) (λ b. option_map (λ w. (a.0, b.0, w.0, w.1, w.2)) (triple b.1)))

-- what a word stands for, if it can be read
abbrev pub Reader : Type 0 → Type 0
Reader X = List ℕ → Option X
