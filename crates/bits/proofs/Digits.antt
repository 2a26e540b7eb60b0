-- The bits of one word.
use Rattle.std.proofs.Common.{◌≡◌, ℕ, zero, suc, ◌+◌, ◌/◌, ◌%◌, ◌^◌, ◌<◌, ◌≤◌, true, false, cond, not, ◌||◌, eqb, sym, refl, ap, ◌∙◌, inl, inr, lt_of_lt_of_le, pow-suc, div-one, one-add, arith, pow_pos, pow_mono}
use native.Mathlib.Nat.{div-eq_of_lt}
use lib.Dec.{eqb-zero-suc, eqb-suc-zero, eqb-suc-suc}
use lib.Bits.{bit_or, bit_xor}
use lib.Count.{count_trailing_zeros, under}
use Rattle.std.proofs.lemmas.Nat.{or_shr, or_mod, xor_shr, xor_mod, shr-shr}
use Rattle.std.proofs.lemmas.Bool.{cases_lt, both_ways}
use Rattle.bits.specs.Bits.{digit}

pub digit-none : (k : ℕ) → digit 0 k ≡ false
digit-none k = ap (λ x. eqb (x % 2) 1) (div-eq_of_lt (pow_pos k))

digit-first : (n : ℕ) → digit n 0 ≡ eqb (n % 2) 1
digit-first n = ap (λ x. eqb (x % 2) 1) (div-one n)

pub digit-more : (n k m : ℕ) → digit n (k + m) ≡ digit (n / 2 ^ k) m
digit-more n k m = ap (λ x. eqb (x % 2) 1) (sym (shr-shr n k m))

digit-suc : (n m : ℕ) → digit n (suc m) ≡ digit (n / 2) m
digit-suc n m = ap (digit n) (sym (one-add m)) ∙ digit-more n 1 m

-- the or and the xor of two words, bit by bit
or_digits : (x y : ℕ) → x < 2 → y < 2 → eqb (bit_or x y) 1 ≡ (eqb x 1 || eqb y 1)
or_digits zero y h l = refl
or_digits (suc zero) zero h l = refl
or_digits (suc zero) (suc zero) h l = refl
or_digits (suc zero) (suc (suc y)) h l = absurd (omega arith)
or_digits (suc (suc x)) y h l = absurd (omega arith)

pub digit_or : (a b k : ℕ) → digit (bit_or a b) k ≡ (digit a k || digit b k)
digit_or a b k =
    ap (λ x. eqb (x % 2) 1) (or_shr a b k) ∙ ap (λ x. eqb x 1) (or_mod (a / 2 ^ k) (b / 2 ^ k) 1)
    ∙ or_digits (a / 2 ^ k % 2) (b / 2 ^ k % 2) (omega arith) (omega arith)

xor_digits : (x y : ℕ) → x < 2 → y < 2 → eqb (bit_xor x y) 1 ≡ cond (eqb y 1) (not (eqb x 1)) (eqb x 1)
xor_digits zero zero h l = refl
xor_digits zero (suc zero) h l = refl
xor_digits (suc zero) zero h l = refl
xor_digits (suc zero) (suc zero) h l = refl
xor_digits zero (suc (suc y)) h l = absurd (omega arith)
xor_digits (suc zero) (suc (suc y)) h l = absurd (omega arith)
xor_digits (suc (suc x)) y h l = absurd (omega arith)

digit-xor : (a b k : ℕ) → digit (bit_xor a b) k ≡ cond (digit b k) (not (digit a k)) (digit a k)
digit-xor a b k =
    ap (λ x. eqb (x % 2) 1) (xor_shr a b k) ∙ ap (λ x. eqb x 1) (xor_mod (a / 2 ^ k) (b / 2 ^ k) 1)
    ∙ xor_digits (a / 2 ^ k % 2) (b / 2 ^ k % 2) (omega arith) (omega arith)

-- a power of two has one bit
digit-power : (k m : ℕ) → digit (2 ^ k) m ≡ eqb k m
digit-power zero zero = refl
digit-power zero (suc m) = digit-suc 1 m ∙ digit-none m ∙ sym (eqb-zero-suc m)
digit-power (suc k) zero =
    let even : 2 ^ suc k % 2 ≡ 0 = omega (arith, pow-suc 2 k) in
    digit-first (2 ^ suc k) ∙ ap (λ x. eqb x 1) even ∙ sym (eqb-suc-zero k)
digit-power (suc k) (suc m) =
    let half : 2 ^ suc k / 2 ≡ 2 ^ k = omega (arith, pow-suc 2 k) in
    digit-suc (2 ^ suc k) m ∙ ap (λ x. digit x m) half ∙ digit-power k m ∙ sym (eqb-suc-suc k m)

pub digit-flip : (w k m : ℕ) → digit (bit_xor w (2 ^ k)) m ≡ cond (eqb k m) (not (digit w m)) (digit w m)
digit-flip w k m = digit-xor w (2 ^ k) m ∙ ap (λ b. cond b (not (digit w m)) (digit w m)) (digit-power k m)

-- above its length a number has no bit
digit-high : (n k m : ℕ) → n < 2 ^ k → k ≤ m → digit n m ≡ false
digit-high n k m h l = ap (λ x. eqb (x % 2) 1) (div-eq_of_lt (lt_of_lt_of_le h (pow_mono l)))

-- the lowest bit that is set
under_first : (n t d : ℕ) → n % 2 ≡ d → (n % 2 ≡ 0 → digit (n / 2) t ≡ true) → digit n (under d t) ≡ true
under_first n t zero e rest = digit-suc n t ∙ rest e
under_first n t (suc zero) e rest = digit-first n ∙ ap (λ x. eqb x 1) e
under_first n t (suc (suc d)) e rest = absurd (omega arith)

pub trailing_here : (k n : ℕ) → 0 < n → n < 2 ^ k → digit n (count_trailing_zeros k n) ≡ true
unfolding count_trailing_zeros
trailing_here zero n p h = absurd (omega arith)
trailing_here (suc k) n p h = under_first n (count_trailing_zeros k (n / 2)) (n % 2) refl (λ e. trailing_here k (n / 2) (omega arith) (omega (arith, pow-suc 2 k)))

under_below : (n t d m : ℕ) → n % 2 ≡ d → m < under d t → ((i : ℕ) → i < t → digit (n / 2) i ≡ false) → digit n m ≡ false
under_below n t zero zero e h rest = digit-first n ∙ ap (λ x. eqb x 1) e
under_below n t zero (suc m) e h rest = digit-suc n m ∙ rest m (omega arith)
under_below n t (suc d) m e h rest = absurd (omega arith)

pub trailing_below : (k n m : ℕ) → m < count_trailing_zeros k n → digit n m ≡ false
unfolding count_trailing_zeros
trailing_below zero n m h = absurd (omega arith)
trailing_below (suc k) n m h = under_below n (count_trailing_zeros k (n / 2)) (n % 2) m refl h (trailing_below k (n / 2))

-- and it stands within the number's length
pub trailing_within : (n j k : ℕ) → 0 < n → n < 2 ^ j → j ≤ k → count_trailing_zeros k n < j
trailing_within n j k p h l = elim (cases_lt (count_trailing_zeros k n) j) [
  | inl lt ↦ lt
  | inr ge ↦
      let set = trailing_here k n p (lt_of_lt_of_le h (pow_mono l)) in
      let clear = digit-high n j (count_trailing_zeros k n) h ge in
      absurd (both_ways _ clear set)
]
