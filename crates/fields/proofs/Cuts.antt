-- Bytes cut into pieces: those that the library's `split` gives.
use Rattle.std.proofs.Common.{◌≡◌, ℕ, ◌<◌, Bool, cond, true, false, eqb, List, [], ◌∷◌, ◌++◌, length, Bor, refl, sym, ap, subst, ◌∙◌, append_assoc, append-nil, arith}
use denote.Param.Members.{Mut}
use Rattle.std.specs.Fn.{CalledAt}
use Rattle.std.specs.List.{slice_split, onto_first}
use Rattle.std.specs.Slice.Iter.{split_steps, split_rest, split_done, split_callee}
use Rattle.std.proofs.lemmas.Iterator.{YieldsList}
use Rattle.std.proofs.lemmas.Iterator.Splits.{YieldsList-from_slice_split}
use Rattle.std.proofs.lemmas.List.Splits.{length-slice_split}
use Rattle.fields.specs.Lists.{pieces, pieces_after}

-- pieces, the first of them behind a piece that has begun
abbrev behind : List ℕ → List (List ℕ) → List (List ℕ)
behind piece [] = piece ∷ []
behind piece (p ∷ ps) = (piece ++ p) ∷ ps

behind-first : (piece : List ℕ) (b : ℕ) (ps : List (List ℕ)) → behind (piece ++ (b ∷ [])) ps ≡ behind piece (onto_first b ps)
behind-first piece b [] = refl
behind-first piece b (p ∷ ps) = ap (λ q. q ∷ ps) (append_assoc piece (b ∷ []) p)

behind-nil : (ps : List (List ℕ)) → 0 < length ps → behind [] ps ≡ ps
behind-nil [] lt = absurd (omega arith)
behind-nil (p ∷ ps) lt = refl

module _ (s : ℕ) where
  pieces_after-cuts : (piece bs : List ℕ) → pieces_after s piece bs ≡ behind piece (slice_split (λ b. eqb b s) bs)
  pieces_after-cuts piece [] = ap (λ q. q ∷ []) (sym (append-nil piece))
  pieces_after-cuts piece (b ∷ bs) =
      let more = slice_split (λ b. eqb b s) bs in
      let whole : pieces_after s [] bs ≡ more = pieces_after-cuts [] bs ∙ behind-nil more (omega (arith, length-slice_split (λ b. eqb b s) bs)) in
      elim (eqb b s) as (λ t. cond t (piece ∷ pieces_after s [] bs) (pieces_after s (piece ++ (b ∷ [])) bs) ≡ behind piece (cond t ([] ∷ more) (onto_first b more))) [
        | true ↦ ap (λ q. q ∷ pieces_after s [] bs) (sym (append-nil piece)) ∙ ap (λ ps. (piece ++ []) ∷ ps) whole
        | false ↦ pieces_after-cuts (piece ++ (b ∷ [])) bs ∙ behind-first piece b more
      ]

  pieces-slice_split : (bs : List ℕ) → pieces s bs ≡ slice_split (λ b. eqb b s) bs
  pieces-slice_split bs = pieces_after-cuts [] bs ∙ behind-nil (slice_split (λ b. eqb b s) bs) (omega (arith, length-slice_split (λ b. eqb b s) bs))

  -- `split` gives the pieces, where its closure tests for the separator
  pub YieldsList-pieces : {F : Type 0} {i : _} (g : Mut F (Bor ℕ × Unit {0}) Bool) (bs : List ℕ) → split_rest i ≡ bs → split_done i ≡ false → ((x : ℕ) (b : Bool) (q : F) → CalledAt g (split_callee i) x b q → (q ≡ split_callee i) × (b ≡ eqb x s)) → YieldsList (split_steps g) (λ x. x.now) i (pieces s bs)
  YieldsList-pieces {i = i} g bs rest done tests =
      subst (YieldsList (split_steps g) (λ x. x.now) i) (sym (pieces-slice_split bs)) (YieldsList-from_slice_split g (λ b. eqb b s) bs rest done refl tests)
