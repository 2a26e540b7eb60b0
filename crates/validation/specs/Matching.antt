-- Which items of a store a row of the types suits.
use Rattle.std.specs.Prelude.{ℕ, Bool, false, ◌&&◌, Some, None, Option, ◌==◌}
use Rattle.types.specs.Determinism.{Label, kind, tag, any_tag}

-- a label suits an item of a kind (3 to 6) and a tag, whatever its content
abbrev pub suits : Option Label → ℕ → ℕ → Bool
suits None k t = false
suits (Some (kind x)) k t = x == k
suits (Some (tag u)) k t = 6 == k && u == t
suits (Some any_tag) k t = 6 == k
