-- Rows give their parts what they have, from the highest row down.
use Rattle.std.proofs.Common.{◌≡◌, ℕ, ◌+◌, ◌<◌, ◌≤◌, Bool, true, false, cond, ◌||◌, eqb, ◌≢◌, List, [], ◌∷◌, ◌++◌, length, get_or, set, take, sym, refl, ap, ◌∙◌, subst, inl, inr, arith}
use Rattle.std.proofs.lemmas.List.{get_or-set_same, get_or-set_other, length-set, length-take-le, length_push, take_at, take-take, get_or-take, get_or_push}
use Rattle.std.proofs.lemmas.Bool.{both_ways, eqb-true, eqb-false, eq-eqb, ne_eqb, or_cases, or_parts, cases_eq, cases_Bool}
use Rattle.rows.specs.declared.type_row.TypeRow.{TypeRow}
use Rattle.rows.specs.declared.type_row.TypeRow.TheVariants.{EmptyChoice, EmptySequence, Integer, String, Boolean, Element, AnyElement, Sequence, Choice, Repetition}
use Rattle.rows.specs.TypeRows.{owns, twice}
use Rattle.types.specs.Parts.{row, Lawful}
use Rattle.positions.specs.Life.{given, gift, GivenDown}

-- ONE ROW

record Gave {A : Type 0} (none x y : A) (w : TypeRow) (l m : List A) : Type 0 where
  here : (p : ℕ) → owns w p ≡ true → get_or m p none ≡ gift w x y p
  kept : (p : ℕ) → owns w p ≡ false → get_or m p none ≡ get_or l p none

first-owned : (a b : ℕ) → eqb a a || eqb b a ≡ true
first-owned a b = ap (λ z. z || eqb b a) (eq-eqb a a refl)

second-owned : (a b : ℕ) → eqb a b || eqb b b ≡ true
second-owned a b = ap (λ z. eqb a b || z) (eq-eqb b b refl) ∙ or_true (eqb a b)
  where
    or_true : (z : Bool) → z || true ≡ true
    or_true true = refl
    or_true false = refl

pub same-both : {A : Type 0} (z : Bool) (x : A) → cond z x x ≡ x
same-both true x = refl
same-both false x = refl

module _ {A : Type 0} (none : A) (l : List A) where
  two : (a b : ℕ) (x y : A) → a < length l → b < length l → eqb a b ≡ false → (p : ℕ) → eqb a p || eqb b p ≡ true → get_or (set (set l a x) b y) p none ≡ cond (eqb p a) x y
  two a b x y la lb e p o = elim (cases_eq p a) [ inl h ↦ at_a h | inr h ↦ at_b h (elim (or_cases (eqb a p) (eqb b p) o) [ inl q ↦ absurd (h (sym (eqb-true a p q))) | inr q ↦ sym (eqb-true b p q) ]) ]
    where
      at_a : p ≡ a → get_or (set (set l a x) b y) p none ≡ cond (eqb p a) x y
      at_a h =
          let ne : p ≢ b = λ q. eqb-false a b e (sym h ∙ q) in
          get_or-set_other (set l a x) b p y none ne ∙ ap (λ z. get_or (set l a x) z none) h ∙ get_or-set_same l a x none la ∙ ap (λ z. cond z x y) (sym (eq-eqb p a h))

      at_b : (p ≡ a → ⊥) → p ≡ b → get_or (set (set l a x) b y) p none ≡ cond (eqb p a) x y
      at_b h q =
          let lt : b < length (set l a x) = omega (arith, length-set l a x) in
          ap (λ z. get_or (set (set l a x) b y) z none) q ∙ get_or-set_same (set l a x) b y none lt ∙ ap (λ z. cond z x y) (sym (ne_eqb p a h))

  others : (a b : ℕ) (x y : A) (p : ℕ) → eqb a p || eqb b p ≡ false → get_or (set (set l a x) b y) p none ≡ get_or l p none
  others a b x y p o =
      let h = or_parts (eqb a p) (eqb b p) o in
      let na : p ≢ a = λ q. eqb-false a p h.0 (sym q) in
      let nb : p ≢ b = λ q. eqb-false b p h.1 (sym q) in
      get_or-set_other (set l a x) b p y none nb ∙ get_or-set_other l a p x none na

  no_part : {x y : A} {w : TypeRow} → ((p : ℕ) → owns w p ≡ false) → Gave none x y w l l
  no_part {w = w} h = record { here = λ p o. absurd (both_ways (owns w p) (h p) o); kept = λ p o. refl }

  gave : (x y : A) (w : TypeRow) → ((p : ℕ) → owns w p ≡ true → p < length l) → twice w ≡ false → Gave none x y w l (given w x y l)
  gave x y EmptyChoice h e = no_part (λ p. refl)
  gave x y EmptySequence h e = no_part (λ p. refl)
  gave x y Integer h e = no_part (λ p. refl)
  gave x y String h e = no_part (λ p. refl)
  gave x y Boolean h e = no_part (λ p. refl)
  gave x y (Element t c) h e = no_part (λ p. refl)
  gave x y (AnyElement c) h e = no_part (λ p. refl)
  gave x y (Sequence a b) h e = record { here = λ p o. two a b x y (h a (first-owned a b)) (h b (second-owned a b)) e p o; kept = λ p o. others a b x y p o }
  gave x y (Choice a b) h e = record { here = λ p o. two a b y y (h a (first-owned a b)) (h b (second-owned a b)) e p o ∙ same-both (eqb p a) y; kept = λ p o. others a b y y p o }
  gave x y (Repetition a) h e = record {
    here = λ p o. ap (λ z. get_or (set l a y) z none) (sym (eqb-true a p o)) ∙ get_or-set_same l a y none (h a (eq-eqb a a refl));
    kept = λ p o. (let ne : p ≢ a = λ q. eqb-false a p o (sym q) in get_or-set_other l a p y none ne);
  }

-- ALL ROWS

module _ {A : Type 0} {ts : List TypeRow} (law : Lawful ts) (end : ℕ) (none : A) (start : ℕ → A) (first : TypeRow → A → A) (l : List A) where
  pub down_start : ((r : ℕ) → r < 512 → get_or l r none ≡ start r) → GivenDown ts end none start first l end
  down_start h = record { starts = λ r lt f. h r lt; parts = λ s p le lt o. absurd (omega arith) }

  pub down_more : (k : ℕ) → end ≤ length ts → length l ≡ 512 → k < end → GivenDown ts end none start first l (k + 1)
      → GivenDown ts end none start first (given (row ts k) (first (row ts k) (get_or l k none)) (get_or l k none) l) k
  down_more k few long lt old =
      let m = given (row ts k) (first (row ts k) (get_or l k none)) (get_or l k none) l in
      let most = law.few in
      let g : Gave none (first (row ts k) (get_or l k none)) (get_or l k none) (row ts k) l m = gave none l (first (row ts k) (get_or l k none)) (get_or l k none) (row ts k) (λ p o. let z = law.lower k p o in omega arith) (law.once k) in
      let still : (r : ℕ) → k ≤ r → get_or m r none ≡ get_or l r none = λ r q. elim (cases_Bool (owns (row ts k) r)) [ inl o ↦ absurd (let z = law.lower k r o in omega arith) | inr o ↦ g.kept r o ] in
      let by : (s p : ℕ) → A → A = λ s p x. gift (row ts s) (first (row ts s) x) x p in
      record {
        starts = λ r q f. g.kept r (f k (omega arith) lt) ∙ old.starts r q (λ s h. f s (omega arith));
        parts = λ s p q h o. elim (cases_eq s k) [
          | inl e ↦ (let o' : owns (row ts k) p ≡ true = subst (λ z. owns (row ts z) p ≡ true) e o in
              g.here p o' ∙ ap (by k p) (sym (still k (omega arith))) ∙ ap (λ z. by z p (get_or m z none)) (sym e))
          | inr n ↦ g.kept p (elim (cases_Bool (owns (row ts k) p)) [ inl o' ↦ absurd (n (law.one_owner s k p o o')) | inr f ↦ f ])
              ∙ old.parts s p (omega arith) h o ∙ ap (by s p) (sym (still s q))
        ];
      }

-- A WALK ALONG THE ROWS FROM THE HIGHEST DOWN

-- the rows that are left are the lowest of the table, and those above them have given
pub record Descending {A : Type 0} (ts : List TypeRow) (end : ℕ) (none : A) (start : ℕ → A) (first : TypeRow → A → A) (l : List A) (left : List TypeRow) : Type 0 where
  pub within : length left ≤ end
  pub lowest : left ≡ take (length left) ts
  pub down : GivenDown ts end none start first l (length left)

module _ {A : Type 0} {ts : List TypeRow} (law : Lawful ts) (end : ℕ) (none : A) (start : ℕ → A) (first : TypeRow → A → A) (l : List A) where
  pub descend_start : (left us : List TypeRow) → us ≡ ts → left ≡ take end us → end ≤ length ts → ((r : ℕ) → r < 512 → get_or l r none ≡ start r) → Descending ts end none start first l left
  descend_start left us same is few h =
      let at : left ≡ take end ts = is ∙ ap (take end) same in
      let long : length left ≡ end = ap length at ∙ length-take-le end ts few in
      record {
        within = omega arith;
        lowest = at ∙ ap (λ n. take n ts) (sym long);
        down = subst (GivenDown ts end none start first l) (sym long) (down_start law end none start first l h);
      }

  pub descend_more : (before after : List TypeRow) (w : TypeRow) (k : ℕ) {m : List A} → end ≤ length ts → length l ≡ 512 → before ≡ after ++ w ∷ [] → k ≡ length after
      → m ≡ given w (first w (get_or l k none)) (get_or l k none) l → Descending ts end none start first l before → Descending ts end none start first m after
  descend_more before after w k {m} few long is at new d =
      let size : length before ≡ length after + 1 = ap length is ∙ length_push after w in
      let within = d.within in
      let low : before ≡ take (length after + 1) ts = d.lowest ∙ ap (λ n. take n ts) size in
      let rest : after ≡ take (length after) ts = sym (take_at after (w ∷ []) (length after) refl) ∙ ap (take (length after)) (sym is ∙ low) ∙ take-take (length after) (length after + 1) ts (omega arith) in
      let here : row ts (length after) ≡ w =
      sym (get_or-take (length after + 1) ts (length after) EmptyChoice (omega arith)) ∙ ap (λ us. get_or us (length after) EmptyChoice) (sym low ∙ is) ∙ get_or_push after w EmptyChoice (length after) refl in
      let by : TypeRow → ℕ → List A = λ v n. given v (first v (get_or l n none)) (get_or l n none) l in
      record {
        within = omega arith;
        lowest = rest;
        down = subst (λ z. GivenDown ts end none start first z (length after)) (ap (λ v. by v (length after)) here ∙ ap (by w) (sym at) ∙ sym new)
            (down_more law end none start first l (length after) few long (omega arith) (subst (GivenDown ts end none start first l) size d.down));
      }

  pub descend_end : (left : List TypeRow) → length left ≡ 0 → Descending ts end none start first l left → GivenDown ts end none start first l 0
  descend_end left e d = subst (GivenDown ts end none start first l) e d.down
