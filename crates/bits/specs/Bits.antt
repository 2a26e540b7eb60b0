-- Bits kept 64 to a word.
use Rattle.std.specs.Prelude.{◌≡◌, ℕ, zero, suc, ◌+◌, ◌-◌, ◌*◌, ◌/◌, ◌%◌, ◌^◌, ◌<◌, ◌≤◌, Bool, true, false, cond, not, ◌&&◌, ◌||◌, ◌≢◌, ◌⊎◌, List, length, Some, None, Option, ◌==◌, nat_lt, slice_index}
use Rattle.std.specs.List.{filter, range_with_len}

-- the bit of a number at a place
abbrev pub digit : ℕ → ℕ → Bool
digit w k = w / 2 ^ k % 2 == 1

-- the bit at a place; past the end there is none
unfoldable pub bit : List ℕ → ℕ → Bool
bit ws i = digit (slice_index ws (i / 64)) (i % 64)

-- how many bits there are
abbrev pub room : List ℕ → ℕ
room ws = 64 * length ws

-- how many of the first n numbers pass
unfoldable pub tally : (ℕ → Bool) → ℕ → ℕ
tally p zero = 0
tally p (suc n) = tally p n + cond (p n) 1 0

-- how many bits are set
unfoldable pub size : List ℕ → ℕ
size ws = tally (bit ws) (64 * length ws)

-- one bit turned, the others kept
pub record Flipped (old new : List ℕ) (place : ℕ) : Type 0 where
  pub others : (j : ℕ) → j ≢ place → bit new j ≡ bit old j
  pub here : bit new place ≡ not (bit old place)

-- one bit set, and whether it is new
pub record Inserted (old new : List ℕ) (place : ℕ) (fresh : Bool) : Type 0 where
  pub others : (j : ℕ) → j ≢ place → bit new j ≡ bit old j
  pub here : place < room old → bit new place ≡ true
  pub past : room old ≤ place → new ≡ old
  pub answer : fresh ≡ (nat_lt place (room old) && not (bit old place))
  pub more : fresh ≡ true → size new ≡ size old + 1
  pub same_size : fresh ≡ false → size new ≡ size old
  pub same : fresh ≡ false → new ≡ old

-- one bit cleared
pub record Removed (old new : List ℕ) (place : ℕ) : Type 0 where
  pub others : (j : ℕ) → j ≢ place → bit new j ≡ bit old j
  pub here : bit new place ≡ false
  pub less : bit old place ≡ true → size old ≡ size new + 1
  pub same : bit old place ≡ false → new ≡ old

-- the row `to` with the bits of the row `from` added; a row has 512 bits in 8 words
pub record United (old new : List ℕ) (to from : ℕ) : Type 0 where
  pub bits : to * 8 + 8 ≤ length old → from * 8 + 8 ≤ length old → (j : ℕ) → bit new j ≡ (bit old j || (j / 512 == to && bit old (from * 512 + j % 512)))
  pub outside : (length old < to * 8 + 8) ⊎ (length old < from * 8 + 8) → new ≡ old

-- found is the first number from `from` on, below `end`, of which P holds
pub record FoundFirst (P : ℕ → Type 0) (from end found : ℕ) : Type 0 where
  pub low : from ≤ found
  pub below : found < end
  pub before : (j : ℕ) → from ≤ j → j < found → P j → ⊥
  pub here : P found

-- the first such number, or none where P holds of no number there
abbrev pub FirstOf : (ℕ → Type 0) → ℕ → ℕ → Option ℕ → Type 0
FirstOf P from end None = (j : ℕ) → from ≤ j → j < end → P j → ⊥
FirstOf P from end (Some found) = FoundFirst P from end found

-- RELATIONS: A ROW HAS 512 BITS

-- the item n stands in row r
abbrev pub related : List ℕ → ℕ → ℕ → Bool
related ws r n = bit ws (r * 512 + n)

-- the items of row r, from one on
unfoldable pub row_items : List ℕ → ℕ → ℕ → List ℕ
row_items ws r from = filter (related ws r) (range_with_len from (512 - from))
