-- A walk along the words for the next set bit.
use Rattle.std.proofs.Common.{◌≡◌, ℕ, ◌+◌, ◌-◌, ◌/◌, ◌%◌, ◌^◌, ◌<◌, ◌≤◌, true, false, List, get_or, sym, ap, ◌∙◌, subst, inl, inr, lt_of_le_of_lt, arith}
use lib.Count.{count_trailing_zeros}
use Rattle.std.proofs.lemmas.Nat.{shr_below, shr_le}
use Rattle.std.proofs.lemmas.Bool.{cases_lt, both_ways}
use Rattle.bits.specs.Bits.{bit, digit}
use Rattle.bits.proofs.Digits.{digit-none, trailing_here, trailing_below, trailing_within}
use Rattle.bits.proofs.Words.{bit-from}

-- no bit from one place on, below another
abbrev pub Clear : List ℕ → ℕ → ℕ → Type 0
Clear ws from to = (j : ℕ) → from ≤ j → j < to → bit ws j ≡ false

-- clear up to a place and from there on as far as need be
pub clear-on : (ws : List ℕ) (from mid past to : ℕ) → to ≤ past → Clear ws from mid → Clear ws mid past → Clear ws from to
clear-on ws from mid past to le before after j l h = elim (cases_lt j mid) [ inl lt ↦ before j l lt | inr ge ↦ after j ge (omega arith) ]

-- nothing found
pub clear-none : (ws : List ℕ) (from to : ℕ) → Clear ws from to → (j : ℕ) → from ≤ j → j < to → bit ws j ≡ true → ⊥
clear-none ws from to clear j l h e = both_ways _ (clear j l h) e

-- what is left of a word from a place on
abbrev rest : List ℕ → ℕ → ℕ
rest ws i = get_or ws (i / 64) 0 / 2 ^ (i % 64)

clear-from : (ws : List ℕ) (i n : ℕ) → i % 64 + n ≤ 64 → ((m : ℕ) → m < n → digit (rest ws i) m ≡ false) → Clear ws i (i + n)
clear-from ws i n h none j l lt =
    let there : i + (j - i) ≡ j = omega arith in
    sym (ap (bit ws) there) ∙ bit-from ws i (j - i) (omega arith) ∙ none (j - i) (omega arith)

-- a word with no bit left
pub clear-word : (ws : List ℕ) (i : ℕ) → rest ws i ≡ 0 → Clear ws i (i + (64 - i % 64))
clear-word ws i e = clear-from ws i (64 - i % 64) (omega arith) (λ m h. ap (λ w. digit w m) e ∙ digit-none m)

-- the first bit of what is left
first-within : (ws : List ℕ) (i : ℕ) → get_or ws (i / 64) 0 < 2 ^ 64 → 0 < rest ws i → i % 64 + count_trailing_zeros 64 (rest ws i) < 64
first-within ws i h p =
    let long : (64 - i % 64) + i % 64 ≡ 64 = omega arith in
    let short = shr_below (get_or ws (i / 64) 0) (64 - i % 64) (i % 64) (subst (λ n. get_or ws (i / 64) 0 < 2 ^ n) (sym long) h) in
    omega (arith, trailing_within (rest ws i) (64 - i % 64) 64 p short (omega arith))

pub clear_first : (ws : List ℕ) (i : ℕ) → get_or ws (i / 64) 0 < 2 ^ 64 → 0 < rest ws i → Clear ws i (i + count_trailing_zeros 64 (rest ws i))
clear_first ws i h p = clear-from ws i (count_trailing_zeros 64 (rest ws i)) (omega (arith, first-within ws i h p)) (trailing_below 64 (rest ws i))

pub set_first : (ws : List ℕ) (i : ℕ) → get_or ws (i / 64) 0 < 2 ^ 64 → 0 < rest ws i → bit ws (i + count_trailing_zeros 64 (rest ws i)) ≡ true
set_first ws i h p = bit-from ws i (count_trailing_zeros 64 (rest ws i)) (first-within ws i h p) ∙ trailing_here 64 (rest ws i) p (lt_of_le_of_lt (shr_le (get_or ws (i / 64) 0) (i % 64)) h)
