-- What waits among pairs.
use Rattle.std.specs.Prelude.{◌≡◌, ℕ, ◌<◌, true, false, List}
use Rattle.bits.specs.Bits.{bit, related}

-- only visited pairs wait
abbrev pub OnlyVisited : List ℕ → List ℕ → Type 0
OnlyVisited visited waiting = (x : ℕ) → bit waiting x ≡ true → bit visited x ≡ true

-- no item stands in row r
abbrev pub Nothing : List ℕ → ℕ → Type 0
Nothing ws r = (n : ℕ) → n < 512 → related ws r n ≡ false

-- the item n stands in row r
abbrev pub InRow : List ℕ → ℕ → ℕ → Type 0
InRow ws r n = (n < 512) × (related ws r n ≡ true)

-- the left place of each pair that waits is marked
abbrev pub Listed : List ℕ → List ℕ → Type 0
Listed waiting places = (r n : ℕ) → n < 512 → related waiting r n ≡ true → bit places r ≡ true

-- a place of which no pair waits is not marked
abbrev pub Busy : List ℕ → List ℕ → Type 0
Busy waiting places = (r : ℕ) → Nothing waiting r → bit places r ≡ false
