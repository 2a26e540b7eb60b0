-- Lists in a script: pieces that a separator parts, each read by itself.
use Rattle.std.specs.Prelude.{ℕ, cond, List, [], ◌∷◌, ◌++◌, map, Some, None, codes, Option, ◌==◌}
use Rattle.std.specs.Borrow.{Bor}
use Rattle.std.specs.Option.{option_map}
use Rattle.std.specs.Str.{bytes_eq}

-- the pieces of bytes, after the piece that has begun
abbrev pub pieces_after : ℕ → List ℕ → List ℕ → List (List ℕ)
pieces_after separator piece [] = piece ∷ []
pieces_after separator piece (b ∷ bs) = cond (b == separator) (piece ∷ pieces_after separator [] bs) (pieces_after separator (piece ++ (b ∷ [])) bs)

-- What stands between separators: one piece more than there are separators, and a piece may be empty.
abbrev pub pieces : ℕ → List ℕ → List (List ℕ)
pieces separator bytes = pieces_after separator [] bytes

-- what slices hold
abbrev pub texts : List (Bor (List ℕ)) → List (List ℕ)
texts slices = map (λ s. s.now) slices

-- one value before others, if all are there
abbrev pub before : {X : Type 0} → Option X → Option (List X) → Option (List X)
before None xs = None
before (Some x) xs = option_map (λ ys. x ∷ ys) xs

-- each piece read, if each can be
abbrev pub each : {X : Type 0} → (List ℕ → Option X) → List (List ℕ) → Option (List X)
each read [] = Some []
each read (p ∷ ps) = before (read p) (each read ps)

-- `-` stands for an empty list
abbrev pub or_none : {X : Type 0} → (List ℕ → Option (List X)) → List ℕ → Option (List X)
or_none read word = cond (bytes_eq word (codes "-")) (Some []) (read word)
