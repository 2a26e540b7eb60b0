-- Behind which rows all that is left has a forest.
use Rattle.std.proofs.Common.{◌≡◌, ℕ, ◌≤◌, Bool, true, false, cond, ◌&&◌, T, eqb, List, ◌∷◌, length, sym, refl, ap, ◌∙◌, subst, arith}
use Rattle.forest.specs.Forests.{none}
use Rattle.rows.specs.declared.type_row.TypeRow.{TypeRow}
use Rattle.rows.specs.declared.type_row.TypeRow.TheVariants.{EmptyChoice, EmptySequence, Integer, String, Boolean, Element, AnyElement, Sequence, Choice, Repetition}
use Rattle.types.specs.Parts.{row, Lawful}
use Rattle.types.specs.Belonging.{no_more}
use Rattle.types.specs.Places.{left_behind, l_top, l_down, Inhabited, AllInhabited, a_end, a_more}
use Rattle.types.specs.Tables.{Exactly}
use Rattle.types.proofs.Contexts.{low}
use Rattle.positions.specs.Below.{flag}
use Rattle.positions.specs.Life.{gift, GivenDown, left_gift, Alive, LiveBelow}

pub first-in : {ts : List TypeRow} {r : ℕ} {k : List ℕ} → AllInhabited ts (r ∷ k) → Inhabited ts r
first-in (a_more i a) = i

pub rest_in : {ts : List TypeRow} {r : ℕ} {k : List ℕ} → AllInhabited ts (r ∷ k) → AllInhabited ts k
rest_in (a_more i a) = a

module _ {ts : List TypeRow} (law : Lawful ts) (v : List Bool) (right : Alive ts v) where
  one_more : (x : Bool) (b : ℕ) (s : List ℕ) → Exactly x (AllInhabited ts s) → Exactly (x && flag v b) (AllInhabited ts (b ∷ s))
  one_more true b s h = (λ t. a_more ((right b).0 t) (h.0 tt), λ a. (right b).1 (first-in a))
  one_more false b s h = (λ t. absurd t, λ a. absurd (h.1 (rest_in a)))

  in_sequence : (z x : Bool) (b : ℕ) (s : List ℕ) → Exactly x (AllInhabited ts s) → Exactly (cond z (x && flag v b) x) (AllInhabited ts (cond z (b ∷ s) s))
  in_sequence true x b s h = one_more x b s h
  in_sequence false x b s h = h

  behind-part : (q p : ℕ) (w : TypeRow) (x : Bool) (s : List ℕ) → row ts q ≡ w → Exactly x (AllInhabited ts s) → Exactly (gift w (left_gift v w x) x p) (AllInhabited ts (left_behind w q p s))
  behind-part q p EmptyChoice x s e h = h
  behind-part q p EmptySequence x s e h = h
  behind-part q p Integer x s e h = h
  behind-part q p String x s e h = h
  behind-part q p Boolean x s e h = h
  behind-part q p (Element t c) x s e h = h
  behind-part q p (AnyElement c) x s e h = h
  behind-part q p (Sequence a b) x s e h = in_sequence (eqb p a) x b s h
  behind-part q p (Choice a b) x s e h = h
  behind-part q p (Repetition a) x s e h = (λ t. a_more (none, no_more e) (h.0 t), λ a. h.1 (rest_in a))

  module _ (end : ℕ) (live : List Bool) (inside : end ≤ length ts) (done : GivenDown ts end false (λ r. true) (left_gift v) live 0) where
    pub all_left : LiveBelow ts end live
    all_left c r k lt free (l_top e i) =
        let few = law.few in
        let t : flag live r ≡ true = ap (λ z. flag live z) e ∙ done.starts c (omega arith) (λ s q. free s) in
        (λ h. subst (AllInhabited ts) (sym i) a_end, λ a. subst T (sym t) tt)
    all_left c r k lt free (l_down {q} {s = s} h o i) =
        let z = low law h in
        let e = done.parts q r (omega arith) (omega arith) o in
        subst (λ y. Exactly (flag live r) (AllInhabited ts y)) (sym i)
        (subst (λ y. Exactly y (AllInhabited ts (left_behind (row ts q) q r s))) (sym e) (behind-part q r (row ts q) (flag live q) s refl (all_left c q s lt free h)))
