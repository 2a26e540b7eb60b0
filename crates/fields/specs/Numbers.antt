-- How a number is written in a script.
use Rattle.std.specs.Prelude.{ℕ, ◌+◌, ◌-◌, ◌*◌, ◌^◌, Bool, cond, ◌&&◌, List, [], ◌∷◌, ℤ, pos, neg_ℤ, Some, None, Option, ◌==◌, nat_le}
use Rattle.std.specs.Option.{option_map}
use Rattle.std.specs.Bool.{then_some}

-- `0` to `9`
abbrev pub is_digit : ℕ → Bool
is_digit b = nat_le 48 b && nat_le b 57

-- the number that digits write behind those of n
abbrev pub digits_after : ℕ → List ℕ → Option ℕ
digits_after n [] = Some n
digits_after n (b ∷ bs) = cond (is_digit b) (digits_after (n * 10 + (b - 48)) bs) None

abbrev pub at_most : ℕ → Option ℕ → Option ℕ
at_most limit None = None
at_most limit (Some n) = then_some (nat_le n limit) n

-- One digit or more, leading zeros too, and the number they write is at most the limit.
abbrev pub number : ℕ → List ℕ → Option ℕ
number limit [] = None
number limit (b ∷ bs) = at_most limit (digits_after 0 (b ∷ bs))

-- The same after a minus sign or none, within 64 bits.
abbrev pub signed_number : List ℕ → Option ℤ
signed_number [] = None
signed_number (b ∷ bs) = cond (b == 45) (option_map (λ n. neg_ℤ (pos n)) (number (2 ^ 63) bs)) (option_map pos (number (2 ^ 63 - 1) (b ∷ bs)))
