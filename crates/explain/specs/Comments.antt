-- Lines as a script writes its comments.
use Rattle.std.specs.Prelude.{◌≡◌, ℕ, List, [], ◌∷◌, ◌++◌}

-- each line begins with "# " and ends in a line feed
abbrev pub comments : List (List ℕ) → List ℕ
comments [] = []
comments (words ∷ lines) = (35 ∷ 32 ∷ words) ++ ((10 ∷ []) ++ comments lines)

-- text that is nothing but such lines
abbrev pub Comments : List ℕ → Type 0
Comments text = (lines : List (List ℕ)) × (text ≡ comments lines)
