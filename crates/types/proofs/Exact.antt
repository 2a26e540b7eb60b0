-- Tests that are true exactly if a fact holds.
use Rattle.std.proofs.Common.{◌≡◌, Bool, true, false, T, sym, refl, subst}
use Rattle.std.proofs.lemmas.Bool.{both_ways}
use Rattle.types.specs.Tables.{Exactly}

pub is_true : (b : Bool) → T b → b ≡ true
is_true true h = refl
is_true false h = absurd h

pub exactly : {b : Bool} {P : Type 0} → (b ≡ true → P) → (P → b ≡ true) → Exactly b P
exactly {b} f g = (λ t. f (is_true b t), λ p. subst T (sym (g p)) tt)

pub known : {b : Bool} {P : Type 0} → Exactly b P → b ≡ true → P
known x e = x.0 (subst T (sym e) tt)

pub shown : {b : Bool} {P : Type 0} → Exactly b P → P → b ≡ true
shown {b} x p = is_true b (x.1 p)

pub exactly_same : {a b : Bool} {P : Type 0} → a ≡ b → Exactly b P → Exactly a P
exactly_same {P = P} e x = subst (λ z. Exactly z P) (sym e) x

-- the test fails, and so does the fact
pub exactly_none : {b : Bool} {P : Type 0} → b ≡ false → (P → ⊥) → Exactly b P
exactly_none {b} e h = exactly (λ t. absurd (both_ways b e t)) (λ p. absurd (h p))
