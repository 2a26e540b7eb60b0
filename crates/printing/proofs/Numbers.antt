-- Signed numbers in decimal.
use Rattle.std.proofs.Common.{◌≡◌, ℕ, true, false, ◌∷◌, ℤ, pos, negsuc, nat_abs, decimal, refl, arith}
use lib.Signed.{lt_z}
use Rattle.std.proofs.lemmas.Bool.{ltb-true}
use Rattle.std.specs.Fmt.{signed_decimal}

pub negative : (z : ℤ) → lt_z z (pos 0) ≡ true → 45 ∷ decimal (nat_abs z) ≡ signed_decimal z
negative (pos n) e = absurd (omega (arith, ltb-true n 0 e))
negative (negsuc n) e = refl

pub natural : (z : ℤ) → lt_z z (pos 0) ≡ false → decimal (nat_abs z) ≡ signed_decimal z
natural (pos n) e = refl
natural (negsuc n) e = let no : ◌≡◌ {A = ℕ} 0 1 = cc in absurd (omega arith)
