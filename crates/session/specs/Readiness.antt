-- The lowest of some numbers of which a fact does not hold, as an answer.
use Rattle.std.specs.Prelude.{ℕ, Some, None, Option}
use Rattle.typing.specs.Checking.{Everywhere, LowestFailing}

-- the lowest of n numbers of which P does not hold, or none where it holds of each
abbrev pub Lowest : Option ℕ → ℕ → (ℕ → Type 0) → Type 0
Lowest None n P = Everywhere n P
Lowest (Some r) n P = LowestFailing n P r
