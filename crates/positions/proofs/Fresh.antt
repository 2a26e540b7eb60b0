-- Tables before they are filled.
use Rattle.std.proofs.Common.{◌≡◌, ℕ, false, replicate, inl, inr, arith}
use Rattle.std.proofs.lemmas.List.{get_or-replicate, get_or_past, length-replicate}
use Rattle.std.proofs.lemmas.Bool.{cases_lt}
use Rattle.positions.specs.Below.{flag}

pub no_flag : (n r : ℕ) → flag (replicate n false) r ≡ false
no_flag n r = elim (cases_lt r n) [ inl l ↦ get_or-replicate n r false false l | inr l ↦ get_or_past (replicate n false) r false (omega (arith, length-replicate n false)) ]
