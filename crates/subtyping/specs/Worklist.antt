-- A set of pairs that were visited, some of which wait to be looked at.
use Rattle.std.specs.Prelude.{◌≡◌, ℕ, ◌+◌, ◌-◌, ◌*◌, ◌<◌, ◌≤◌, true, false, ◌⊎◌, ◌≢◌, Some, None, Option}
use Rattle.bits.specs.Bits.{bit, size}
use Rattle.subtyping.specs.declared.pairs.Pair.{Pair}
use Rattle.subtyping.specs.declared.pairs.Pairs.{Pairs}

-- the number of a pair
abbrev pub pair : ℕ → ℕ → ℕ
pair left right = left * 512 + right

abbrev pub number : Pair → ℕ
number p = pair p.left p.right

abbrev pub Visited : Pairs → ℕ → Type 0
Visited q x = bit q.visited.words x ≡ true

abbrev pub Waiting : Pairs → ℕ → Type 0
Waiting q x = bit q.waiting.words x ≡ true

-- what a search has still to do, at most
abbrev pub load : Pairs → ℕ
load q = 2 * (1048576 - size q.visited.words) + size q.waiting.words

abbrev pub Fresh : Pairs → Type 0
Fresh q = (x : ℕ) → Visited q x → ⊥

-- Pairs were put, none but those of P; those that are new wait.
pub record Grown (old q : Pairs) (P : ℕ → Type 0) : Type 0 where
  pub still : (x : ℕ) → Visited old x → Visited q x
  pub only : (x : ℕ) → Visited q x → Visited old x ⊎ P x
  pub done : (x : ℕ) → Visited old x → bit q.waiting.words x ≡ bit old.waiting.words x
  pub new : (x : ℕ) → Visited q x → (Visited old x → ⊥) → Waiting q x
  pub lighter : load q ≤ load old

-- All pairs of P were put, and no others.
pub record Put (old q : Pairs) (P : ℕ → Type 0) : Type 0 where
  pub grown : Grown old q P
  pub all : (x : ℕ) → P x → Visited q x

-- A pair that waited does so no more.
pub record Taken (old q : Pairs) (x : ℕ) : Type 0 where
  pub visited : q.visited.words ≡ old.visited.words
  pub idle : bit q.waiting.words x ≡ false
  pub others : (y : ℕ) → (y ≢ x) → bit q.waiting.words y ≡ bit old.waiting.words y
  pub lighter : load q < load old

-- No pair waited, or one did that does so no more.
abbrev pub Popped : Pairs → Pairs → Option Pair → Type 0
Popped old q None = (x : ℕ) → Waiting old x → ⊥
Popped old q (Some p) = Waiting old (number p) × Taken old q (number p)
