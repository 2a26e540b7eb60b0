-- Rows of 8 words, united word by word.
use Rattle.std.proofs.Common.{◌≡◌, ℕ, ◌+◌, ◌*◌, ◌/◌, ◌%◌, ◌<◌, ◌≤◌, Bool, true, false, ◌&&◌, ◌||◌, eqb, ltb, ◌≢◌, List, length, get_or, set, sym, refl, ap, ◌∙◌, ap₂, inl, inr, arith}
use lib.Bits.{bit_or}
use Rattle.std.proofs.lemmas.Bool.{cases_eq, eq-eqb, lt-ltb, le-ltb, and_left, and_right}
use Rattle.std.proofs.lemmas.Bool.Decides.{nat_tests}
use Rattle.bits.specs.Bits.{bit, digit}
use Rattle.bits.proofs.Digits.{digit_or}
use Rattle.bits.proofs.Words.{bit_word, bit-set_here, bit-set_other}

-- a place in the first n words of a row
abbrev pub taken : ℕ → ℕ → ℕ → Bool
taken to n j = eqb (j / 512) to && ltb (j % 512) (64 * n)

-- the first n words of a row are united
abbrev pub Partly : List ℕ → List ℕ → ℕ → ℕ → ℕ → Type 0
Partly old new to from n = (j : ℕ) → bit new j ≡ (bit old j || (taken to n j && bit old (from * 512 + j % 512)))

not_taken : (to n j : ℕ) → 64 * n ≤ j % 512 → taken to n j ≡ false
not_taken to n j h = and_right (eqb (j / 512) to) (ltb (j % 512) (64 * n)) (le-ltb (j % 512) (64 * n) h)

taken_here : (to n j : ℕ) → n < 8 → j / 64 ≡ to * 8 + n → taken to (n + 1) j ≡ true
taken_here to n j h e = ap₂ ◌&&◌ (eq-eqb (j / 512) to (omega arith)) (lt-ltb (j % 512) (64 * (n + 1)) (omega arith))

taken-other : (to n j : ℕ) → j / 64 ≢ to * 8 + n → taken to (n + 1) j ≡ taken to n j
taken-other to n j o = grind (arith, nat_tests)

and_true : (x y : Bool) → y ≡ true → (x && y) ≡ x
and_true true y e = e
and_true false y e = refl

or_none : (x y z : Bool) → y ≡ false → x ≡ (x || (y && z))
or_none true y z e = refl
or_none false y z e = sym (and_left y z e)

pub unite_none : (ws : List ℕ) (to from : ℕ) → Partly ws ws to from 0
unite_none ws to from j = or_none (bit ws j) (taken to 0 j) (bit ws (from * 512 + j % 512)) (not_taken to 0 j (omega arith))

shifted : (f m : ℕ) → (f * 512 + m) / 64 ≡ f * 8 + m / 64
shifted f m = omega arith

-- one word more
pub unite_more : (old new : List ℕ) (to from n : ℕ) → n < 8 → to * 8 + n < length new → Partly old new to from n
    → Partly old (set new (to * 8 + n) (bit_or (get_or new (to * 8 + n) 0) (get_or new (from * 8 + n) 0))) to from (n + 1)
unite_more old new to from n h l before j =
    let i = from * 512 + j % 512 in
    let a = get_or new (to * 8 + n) 0 in
    let b = get_or new (from * 8 + n) 0 in
    elim (cases_eq (j / 64) (to * 8 + n)) [
      | inl e ↦
          let word : j % 512 / 64 ≡ n = omega arith in
          let there : i / 64 ≡ from * 8 + n = shifted from (j % 512) ∙ ap (λ x. from * 8 + x) word in
          let same : i % 64 ≡ j % 64 = omega arith in
          let low : 64 * n ≤ j % 512 = omega arith in
          let low' : 64 * n ≤ i % 512 = omega arith in
          let left : digit a (j % 64) ≡ bit old j = sym (bit_word new (to * 8 + n) j e) ∙ before j ∙ sym (or_none (bit old j) (taken to n j) _ (not_taken to n j low)) in
          let right : digit b (j % 64) ≡ bit old i = ap (digit b) (sym same) ∙ sym (bit_word new (from * 8 + n) i there) ∙ before i ∙ sym (or_none (bit old i) (taken to n i) _ (not_taken to n i low')) in
          bit-set_here new (to * 8 + n) (bit_or a b) j l e ∙ digit_or a b (j % 64) ∙ ap₂ ◌||◌ left right ∙ ap (λ t. bit old j || (t && bit old i)) (sym (taken_here to n j h e))
      | inr o ↦ bit-set_other new (to * 8 + n) (bit_or a b) j o ∙ before j ∙ ap (λ t. bit old j || (t && bit old i)) (sym (taken-other to n j o))
    ]

-- all words
pub unite_all : (old new : List ℕ) (to from n : ℕ) → 8 ≤ n → Partly old new to from n → (j : ℕ) → bit new j ≡ (bit old j || (eqb (j / 512) to && bit old (from * 512 + j % 512)))
unite_all old new to from n h whole j =
    let within = lt-ltb (j % 512) (64 * n) (omega arith) in
    whole j ∙ ap (λ t. bit old j || (t && bit old (from * 512 + j % 512))) (and_true (eqb (j / 512) to) (ltb (j % 512) (64 * n)) within)
