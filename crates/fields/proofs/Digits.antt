-- A number digit by digit.
use Rattle.std.proofs.Common.{◌≡◌, ℕ, ◌+◌, ◌-◌, ◌*◌, ◌<◌, ◌≤◌, Bool, true, false, cond, leb, List, [], ◌∷◌, length, Some, None, refl, ap, ⊎_elim, arith}
use Rattle.std.specs.Bool.{then_some}
use Rattle.std.proofs.lemmas.Bool.{lt-leb, leb-true, leb-false, cases_Bool}
use Rattle.fields.specs.Numbers.{is_digit, digits_after, at_most, number}

-- the greatest number of 64 bits
abbrev pub most : ℕ
most = 18446744073709551615

-- a number past the limit stays past it
pub past : (limit n : ℕ) (bs : List ℕ) → limit < n → at_most limit (digits_after n bs) ≡ None
past limit n [] lt = ap (λ t. then_some t n) (lt-leb n limit lt)
past limit n (b ∷ bs) lt =
    elim (is_digit b) as (λ t. at_most limit (cond t (digits_after (n * 10 + (b - 48)) bs) None) ≡ None) [
      | true ↦ past limit (n * 10 + (b - 48)) bs (omega arith)
      | false ↦ refl
    ]

-- what a test lets through is what was tested
pub when-some : (t : Bool) (k m : ℕ) → Some m ≡ then_some t k → (t ≡ true) × (k ≡ m)
when-some true k m e = (refl, cc)
when-some false k m e = (cc, cc)

-- One digit more, within the limit.
pub one_more : (limit n m b : ℕ) (bs : List ℕ) → Some m ≡ at_most limit (digits_after n (b ∷ [])) → (digits_after n (b ∷ bs) ≡ digits_after m bs) × (m ≤ limit)
one_more limit n m b bs =
    let k = n * 10 + (b - 48) in
    elim (is_digit b) as (λ t. Some m ≡ at_most limit (cond t (Some k) None) → (cond t (digits_after k bs) None ≡ digits_after m bs) × (m ≤ limit)) [
      | true ↦ λ e. let w = when-some (leb k limit) k m e in (ap (λ x. digits_after x bs) w.1, omega (arith, leb-true k limit w.0, w.1))
      | false ↦ λ e. let z : ◌≡◌ {A = ℕ} 0 1 = cc in absurd (omega arith)
    ]

-- No digit, or the limit is passed: then what follows does not matter.
pub none_more : (limit n b : ℕ) (bs : List ℕ) → None ≡ at_most limit (digits_after n (b ∷ [])) → at_most limit (digits_after n (b ∷ bs)) ≡ None
none_more limit n b bs =
    let k = n * 10 + (b - 48) in
    elim (is_digit b) as (λ t. None ≡ at_most limit (cond t (Some k) None) → at_most limit (cond t (digits_after k bs) None) ≡ None) [
      | true ↦ λ e. ⊎_elim (λ y. let z : ◌≡◌ {A = ℕ} 0 1 = cc in absurd (omega arith)) (λ y. past limit k bs (leb-false k limit y)) (cases_Bool (leb k limit))
      | false ↦ λ e. refl
    ]

-- a word of at least one byte
pub number-some : (limit : ℕ) (word : List ℕ) → 0 < length word → number limit word ≡ at_most limit (digits_after 0 word)
number-some limit [] lt = absurd (omega arith)
number-some limit (b ∷ bs) lt = refl
