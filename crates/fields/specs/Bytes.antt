-- How bytes are written in a script.
use Rattle.std.specs.Prelude.{ℕ, ◌+◌, ◌-◌, ◌*◌, cond, ◌&&◌, List, [], ◌∷◌, Some, None, Option, nat_le}
use Rattle.std.specs.Option.{option_map, option_zip}
use Rattle.fields.specs.Lists.{before, or_none}

-- `0` to `9`, `A` to `F` and `a` to `f`
abbrev pub hex_digit : ℕ → Option ℕ
hex_digit b =
    cond (nat_le 48 b && nat_le b 57) (Some (b - 48))
    (cond (nat_le 65 b && nat_le b 70) (Some (b - 55))
    (cond (nat_le 97 b && nat_le b 102) (Some (b - 87)) None))

abbrev pub hex_byte : ℕ → ℕ → Option ℕ
hex_byte high low = option_map (λ p. 16 * p.0 + p.1) (option_zip (hex_digit high) (hex_digit low))

abbrev pub hex_pairs : List ℕ → Option (List ℕ)
hex_pairs [] = Some []
hex_pairs (b ∷ []) = None
hex_pairs (high ∷ low ∷ bs) = before (hex_byte high low) (hex_pairs bs)

-- one pair of digits or more
abbrev pub hex : List ℕ → Option (List ℕ)
hex [] = None
hex (b ∷ bs) = hex_pairs (b ∷ bs)

abbrev pub bytes_of : List ℕ → Option (List ℕ)
bytes_of word = or_none hex word
