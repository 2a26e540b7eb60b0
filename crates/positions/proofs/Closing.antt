-- What the tables of positions say of ends.
use Rattle.std.proofs.Common.{◌≡◌, ℕ, ◌+◌, ◌%◌, ◌<◌, Bool, cond, T, sym, ap, ◌∙◌, subst, arith}
use Rattle.std.proofs.lemmas.Bool.{lt-ltb, le-ltb}
use Rattle.bits.specs.Bits.{related}
use Rattle.types.specs.Determinism.{Nullable, Last}
use Rattle.types.specs.Places.{Place, start, behind, Ends, end_nothing, end_last}
use Rattle.types.specs.Tables.{Exactly}
use Rattle.types.proofs.OfTable.{table-lawful}
use Rattle.positions.specs.declared.tables.Positions.{Positions}
use Rattle.positions.specs.Below.{flag}
use Rattle.positions.specs.Built.{types_of, Built, ends_at}
use Rattle.positions.proofs.Reading.{within_low, At, at_start, at_item}

module _ (p : Positions) (built : Built p) where
  nothing-of : {c : ℕ} → Ends (types_of p) (start c) → Nullable (types_of p) c
  nothing-of (end_nothing z) = z

  last_of : {c x : ℕ} → Ends (types_of p) (behind c x) → Last (types_of p) c x
  last_of (end_last h) = h

  pub ends_is : {c at : ℕ} {q : Place} → c < 512 → At (types_of p) c q at → Exactly (ends_at p c at) (Ends (types_of p) q)
  ends_is {c} lt at_start =
      let e : ends_at p c c ≡ flag p.nullable.marks c = ap (λ (b : Bool). cond b (flag p.nullable.marks c) (related p.lasts.words c (c % 512))) (lt-ltb c 512 lt) in
      (λ h. end_nothing ((built.nullable c).0 (subst T e h)), λ h. subst T (sym e) ((built.nullable c).1 (nothing-of h)))
  ends_is {c} lt (at_item {x} w) =
      let k = within_low (table-lawful p.types) w in
      let i : (512 + x) % 512 ≡ x = omega arith in
      let e : ends_at p c (512 + x) ≡ related p.lasts.words c x =
      ap (λ (b : Bool). cond b (flag p.nullable.marks (512 + x)) (related p.lasts.words c ((512 + x) % 512))) (le-ltb (512 + x) 512 (omega arith)) ∙ ap (related p.lasts.words c) i in
      (λ h. end_last ((built.lasts c x lt (omega arith)).0 (subst T e h)), λ h. subst T (sym e) ((built.lasts c x lt (omega arith)).1 (last_of h)))
