-- Bits by the word that holds them, and a word that is written.
use Rattle.std.proofs.Common.{◌≡◌, ℕ, ◌+◌, ◌/◌, ◌%◌, ◌^◌, ◌<◌, not, ◌≢◌, List, length, get_or, set, sym, refl, ap, ◌∙◌, inl, inr, arith}
use lib.Bits.{bit_xor}
use Rattle.std.proofs.lemmas.List.{get_or-set_same, get_or-set_other}
use Rattle.std.proofs.lemmas.Bool.{cases_eq, eq-eqb, ne_eqb, cond-true, cond-false}
use Rattle.bits.specs.Bits.{bit, digit, Flipped}
use Rattle.bits.proofs.Digits.{digit-flip, digit-more}

pub bit_word : (ws : List ℕ) (n j : ℕ) → j / 64 ≡ n → bit ws j ≡ digit (get_or ws n 0) (j % 64)
unfolding bit
bit_word ws n j e = ap (λ x. digit (get_or ws x 0) (j % 64)) e

-- bits from a place on within its word
pub bit-from : (ws : List ℕ) (i m : ℕ) → i % 64 + m < 64 → bit ws (i + m) ≡ digit (get_or ws (i / 64) 0 / 2 ^ (i % 64)) m
bit-from ws i m h =
    let rest : (i + m) % 64 ≡ i % 64 + m = omega arith in
    bit_word ws (i / 64) (i + m) (omega arith) ∙ ap (digit (get_or ws (i / 64) 0)) rest ∙ digit-more (get_or ws (i / 64) 0) (i % 64) m

pub bit-set_here : (ws : List ℕ) (n w j : ℕ) → n < length ws → j / 64 ≡ n → bit (set ws n w) j ≡ digit w (j % 64)
bit-set_here ws n w j h e = bit_word (set ws n w) n j e ∙ ap (λ v. digit v (j % 64)) (get_or-set_same ws n w 0 h)

pub bit-set_other : (ws : List ℕ) (n w j : ℕ) → j / 64 ≢ n → bit (set ws n w) j ≡ bit ws j
unfolding bit
bit-set_other ws n w j o = ap (λ v. digit v (j % 64)) (get_or-set_other ws n (j / 64) w 0 o)

-- one bit turned over
pub flipped : (ws : List ℕ) (i : ℕ) → i / 64 < length ws → Flipped ws (set ws (i / 64) (bit_xor (get_or ws (i / 64) 0) (2 ^ (i % 64)))) i
flipped ws i h =
    let w = get_or ws (i / 64) 0 in
    let v = bit_xor w (2 ^ (i % 64)) in
    record {
      others = λ j ne. elim (cases_eq (j / 64) (i / 64)) [
        | inl e ↦
            let apart : i % 64 ≢ j % 64 = λ s. ne (omega arith) in
            bit-set_here ws (i / 64) v j h e ∙ digit-flip w (i % 64) (j % 64) ∙ cond-false _ _ _ (ne_eqb _ _ apart) ∙ sym (bit_word ws (i / 64) j e)
        | inr o ↦ bit-set_other ws (i / 64) v j o
      ];
      here = bit-set_here ws (i / 64) v i h refl ∙ digit-flip w (i % 64) (i % 64) ∙ cond-true _ _ (digit w (i % 64)) (eq-eqb (i % 64) (i % 64) refl) ∙ ap not (sym (bit_word ws (i / 64) i refl));
    }
