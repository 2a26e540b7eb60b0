-- How many of the first numbers pass a test.
use Rattle.std.proofs.Common.{◌≡◌, ℕ, zero, suc, ◌+◌, ◌<◌, ◌≤◌, Bool, true, false, cond, ◌≢◌, sym, refl, ap, ◌∙◌, ap₂, inl, inr, arith}
use Rattle.std.proofs.lemmas.Bool.{cases_eq}
use Rattle.bits.specs.Bits.{tally}

-- what one number adds
abbrev one : Bool → ℕ
one b = cond b 1 0

pub tally-same : (p q : ℕ → Bool) (n : ℕ) → ((j : ℕ) → j < n → p j ≡ q j) → tally p n ≡ tally q n
unfolding tally
tally-same p q zero h = refl
tally-same p q (suc n) h = ap₂ (λ x b. x + one b) (tally-same p q n (λ j l. h j (omega arith))) (h n (omega arith))

pub tally-none : (p : ℕ → Bool) (n : ℕ) → ((j : ℕ) → j < n → p j ≡ false) → tally p n ≡ 0
unfolding tally
tally-none p zero h = refl
tally-none p (suc n) h = ap₂ (λ x b. x + one b) (tally-none p n (λ j l. h j (omega arith))) (h n (omega arith))

one-le : (b : Bool) → one b ≤ 1
one-le true = omega arith
one-le false = omega arith

pub tally-le : (p : ℕ → Bool) (n : ℕ) → tally p n ≤ n
unfolding tally
tally-le p zero = omega arith
tally-le p (suc n) = omega (arith, tally-le p n, one-le (p n))

pub tally-some : (p : ℕ → Bool) (n i : ℕ) → i < n → p i ≡ true → 0 < tally p n
unfolding tally
tally-some p zero i l e = absurd (omega arith)
tally-some p (suc n) i l e = elim (cases_eq i n) [
  | inl s ↦ omega (arith, ap one (ap p (sym s) ∙ e))
  | inr o ↦ omega (arith, tally-some p n i (omega arith) e)
]

-- one number more that passes
pub tally-more : (p q : ℕ → Bool) (n i : ℕ) → i < n → p i ≡ false → q i ≡ true → ((j : ℕ) → j ≢ i → q j ≡ p j) → tally q n ≡ tally p n + 1
unfolding tally
tally-more p q zero i l was now h = absurd (omega arith)
tally-more p q (suc n) i l was now h = elim (cases_eq n i) [
  | inl s ↦
      let less = ap one (ap p s ∙ was) in
      let more = ap one (ap q s ∙ now) in
      let rest = tally-same q p n (λ j lt. h j (λ e. omega arith)) in
      omega arith
  | inr o ↦
      let same = ap one (h n o) in
      let rest = tally-more p q n i (omega arith) was now h in
      omega arith
]
