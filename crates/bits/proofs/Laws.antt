-- What holds of bits kept 64 to a word.
use Rattle.std.proofs.Common.{◌≡◌, ℕ, ◌+◌, ◌*◌, ◌/◌, ◌%◌, ◌<◌, ◌≤◌, true, false, ◌≢◌, List, length, get_or, replicate, sym, ap, ◌∙◌, inl, inr, arith}
use Rattle.std.proofs.lemmas.List.{get_or_past, get_or-replicate, length-replicate}
use Rattle.std.proofs.lemmas.Bool.{cases_lt, both_ways}
use Rattle.bits.specs.Bits.{bit, digit, room, size, tally}
use Rattle.bits.proofs.Digits.{digit-none}
use Rattle.bits.proofs.Tallies.{tally-same, tally-none, tally-le, tally-some, tally-more}

-- a word that is 0 has no bit set
bit-none : (ws : List ℕ) (i : ℕ) → get_or ws (i / 64) 0 ≡ 0 → bit ws i ≡ false
unfolding bit
bit-none ws i e = ap (λ w. digit w (i % 64)) e ∙ digit-none (i % 64)

-- past the end no bit is set
pub bit_past : (ws : List ℕ) (i : ℕ) → room ws ≤ i → bit ws i ≡ false
bit_past ws i h = bit-none ws i (get_or_past ws (i / 64) 0 (omega arith))

pub bit-within : (ws : List ℕ) (i : ℕ) → bit ws i ≡ true → i < room ws
bit-within ws i e = elim (cases_lt i (room ws)) [ inl h ↦ h | inr h ↦ absurd (both_ways _ (bit_past ws i h) e) ]

-- zeros hold no bit
pub bit-zeros : (n i : ℕ) → bit (replicate n 0) i ≡ false
bit-zeros n i = elim (cases_lt (i / 64) n) [
  | inl h ↦ bit-none (replicate n 0) i (get_or-replicate n (i / 64) 0 0 h)
  | inr h ↦ bit_past (replicate n 0) i (omega (arith, length-replicate {A = ℕ} n 0))
]

-- no bit set
pub size_none : (ws : List ℕ) → ((i : ℕ) → i < room ws → bit ws i ≡ false) → size ws ≡ 0
unfolding size
size_none ws h = tally-none (bit ws) (room ws) h

pub size-zeros : (n : ℕ) → size (replicate n 0) ≡ 0
size-zeros n = size_none (replicate n 0) (λ i h. bit-zeros n i)

-- some bit set
pub size-some : (ws : List ℕ) (i : ℕ) → bit ws i ≡ true → 0 < size ws
unfolding size
size-some ws i e = tally-some (bit ws) (room ws) i (bit-within ws i e) e

pub size-le : (ws : List ℕ) → size ws ≤ room ws
unfolding size
size-le ws = tally-le (bit ws) (room ws)

-- the size goes by the bits alone
pub size_same : (ws vs : List ℕ) → length ws ≡ length vs → ((i : ℕ) → i < room ws → bit ws i ≡ bit vs i) → size ws ≡ size vs
unfolding size
size_same ws vs e h = tally-same (bit ws) (bit vs) (room ws) h ∙ ap (λ n. tally (bit vs) (64 * n)) e

-- one bit more
pub size-more : (ws vs : List ℕ) (i : ℕ) → length ws ≡ length vs → i < room ws → bit ws i ≡ false → bit vs i ≡ true → ((j : ℕ) → j ≢ i → bit vs j ≡ bit ws j) → size vs ≡ size ws + 1
unfolding size
size-more ws vs i e l was now h = ap (λ n. tally (bit vs) (64 * n)) (sym e) ∙ tally-more (bit ws) (bit vs) (room ws) i l was now h
