-- What is left behind a row within another, and how items follow one another there.
use Rattle.std.proofs.Common.{◌≡◌, ℕ, ◌≤◌, true, eqb, List, [], ◌∷◌, sym, refl, ap, ◌∙◌, subst, inl, inr, arith}
use Rattle.std.proofs.lemmas.Bool.{or_cases, or_left, or_right, cond-true, cond-false, eqb-true, eq-eqb, false_from_ne_true, false≢true}
use Rattle.rows.specs.declared.type_row.TypeRow.{TypeRow}
use Rattle.rows.specs.declared.type_row.TypeRow.TheVariants.{EmptyChoice, EmptySequence, Integer, String, Boolean, Element, AnyElement, Sequence, Choice, Repetition}
use Rattle.rows.specs.TypeRows.{owns, twice}
use Rattle.types.specs.Parts.{row, Lawful, Within, itself, part}
use Rattle.types.specs.Determinism.{label, Nullable, repeated, Last, in_sequence, in_repetition}
use Rattle.types.specs.Determinism.Last.{item, of_right, before_right, of_first, of_second, of_part}
use Rattle.types.specs.Places.{FollowsIn, left_behind, Left, l_top, l_down}
use Rattle.types.proofs.Steps.{Begins, b_item, b_left, b_right, b_first, b_second, b_part, Step, now, later, Nullables, z_more, begins_first}

-- the parts of a row, by its kind
pub data PartOf (p : ℕ) : TypeRow → Type 0 where
  left : {a b : ℕ} → p ≡ a → PartOf p (Sequence a b)
  right : {a b : ℕ} → p ≡ b → PartOf p (Sequence a b)
  first : {a b : ℕ} → p ≡ a → PartOf p (Choice a b)
  second : {a b : ℕ} → p ≡ b → PartOf p (Choice a b)
  repeats : {a : ℕ} → p ≡ a → PartOf p (Repetition a)

pub part_of : (w : TypeRow) (p : ℕ) → owns w p ≡ true → PartOf p w
part_of EmptyChoice p e = absurd (false≢true e)
part_of EmptySequence p e = absurd (false≢true e)
part_of Integer p e = absurd (false≢true e)
part_of String p e = absurd (false≢true e)
part_of Boolean p e = absurd (false≢true e)
part_of (Element t c) p e = absurd (false≢true e)
part_of (AnyElement c) p e = absurd (false≢true e)
part_of (Sequence a b) p e = elim (or_cases (eqb a p) (eqb b p) e) [ inl h ↦ left (sym (eqb-true a p h)) | inr h ↦ right (sym (eqb-true b p h)) ]
part_of (Choice a b) p e = elim (or_cases (eqb a p) (eqb b p) e) [ inl h ↦ first (sym (eqb-true a p h)) | inr h ↦ second (sym (eqb-true b p h)) ]
part_of (Repetition a) p e = repeats (sym (eqb-true a p e))

pub owns-part : {p : ℕ} {w : TypeRow} → PartOf p w → owns w p ≡ true
owns-part {p} (left {a} {b} e) = or_left (eqb a p) (eqb b p) (eq-eqb a p (sym e))
owns-part {p} (right {a} {b} e) = or_right (eqb a p) (eqb b p) (eq-eqb b p (sym e))
owns-part {p} (first {a} {b} e) = or_left (eqb a p) (eqb b p) (eq-eqb a p (sym e))
owns-part {p} (second {a} {b} e) = or_right (eqb a p) (eqb b p) (eq-eqb b p (sym e))
owns-part {p} (repeats {a} e) = eq-eqb a p (sym e)

pub owned : (ts : List TypeRow) (s : ℕ) {p : ℕ} {w : TypeRow} → row ts s ≡ w → PartOf p w → owns (row ts s) p ≡ true
owned ts s {p} e h = ap (λ w. owns w p) e ∙ owns-part h

-- WHAT IS LEFT BEHIND A PART

-- the same by kind of row
pub data Down (ts : List TypeRow) (q p : ℕ) (s k : List ℕ) : Type 0 where
  d_left : {a b : ℕ} → row ts q ≡ Sequence a b → p ≡ a → k ≡ b ∷ s → Down ts q p s k
  d_right : {a b : ℕ} → row ts q ≡ Sequence a b → p ≡ b → k ≡ s → Down ts q p s k
  d_first : {a b : ℕ} → row ts q ≡ Choice a b → p ≡ a → k ≡ s → Down ts q p s k
  d_second : {a b : ℕ} → row ts q ≡ Choice a b → p ≡ b → k ≡ s → Down ts q p s k
  d_part : {a : ℕ} → row ts q ≡ Repetition a → p ≡ a → k ≡ q ∷ s → Down ts q p s k

module _ {ts : List TypeRow} (law : Lawful ts) where
  -- the parts of a sequence differ
  apart : (q : ℕ) {a b : ℕ} → row ts q ≡ Sequence a b → b ≡ a → ⊥
  apart q {a} {b} e h = false≢true (sym (law.once q) ∙ (ap twice e ∙ eq-eqb a b (sym h)))

  down_by : (q p : ℕ) (s k : List ℕ) (w : TypeRow) → row ts q ≡ w → PartOf p w → k ≡ left_behind w q p s → Down ts q p s k
  down_by q p s k EmptyChoice e x h = elim x [ ]
  down_by q p s k EmptySequence e x h = elim x [ ]
  down_by q p s k Integer e x h = elim x [ ]
  down_by q p s k String e x h = elim x [ ]
  down_by q p s k Boolean e x h = elim x [ ]
  down_by q p s k (Element t c) e x h = elim x [ ]
  down_by q p s k (AnyElement c) e x h = elim x [ ]
  down_by q p s k (Sequence a b) e (left i) h = d_left e i (h ∙ cond-true (eqb p a) (b ∷ s) s (eq-eqb p a i))
  down_by q p s k (Sequence a b) e (right i) h = d_right e i (h ∙ cond-false (eqb p a) (b ∷ s) s (false_from_ne_true (eqb p a) (λ t. apart q e (sym i ∙ eqb-true p a t))))
  down_by q p s k (Choice a b) e (first i) h = d_first e i h
  down_by q p s k (Choice a b) e (second i) h = d_second e i h
  down_by q p s k (Repetition a) e (repeats i) h = d_part e i h

  pub down : {q p : ℕ} {s k : List ℕ} → owns (row ts q) p ≡ true → k ≡ left_behind (row ts q) q p s → Down ts q p s k
  down {q} {p} {s} {k} o h = down_by q p s k (row ts q) refl (part_of (row ts q) p o) h

  behind-row : {r q p : ℕ} {s : List ℕ} {w : TypeRow} → row ts q ≡ w → Left ts r q s → PartOf p w → Left ts r p (left_behind w q p s)
  behind-row {q = q} {p} {s} e h i = l_down h (owned ts q e i) (ap (λ x. left_behind x q p s) (sym e))

  pub left_of : {r q a b : ℕ} {s : List ℕ} → row ts q ≡ Sequence a b → Left ts r q s → Left ts r a (b ∷ s)
  left_of {r} {q} {a} {b} {s} e h = subst (Left ts r a) (cond-true (eqb a a) (b ∷ s) s (eq-eqb a a refl)) (behind-row e h (left refl))

  pub right_of : {r q a b : ℕ} {s : List ℕ} → row ts q ≡ Sequence a b → Left ts r q s → Left ts r b s
  right_of {r} {q} {a} {b} {s} e h = subst (Left ts r b) (cond-false (eqb b a) (b ∷ s) s (false_from_ne_true (eqb b a) (λ t. apart q e (eqb-true b a t)))) (behind-row e h (right refl))

  pub first_of : {r q a b : ℕ} {s : List ℕ} → row ts q ≡ Choice a b → Left ts r q s → Left ts r a s
  first_of e h = behind-row e h (first refl)

  pub second-of : {r q a b : ℕ} {s : List ℕ} → row ts q ≡ Choice a b → Left ts r q s → Left ts r b s
  second-of e h = behind-row e h (second refl)

  pub part_in : {r q a : ℕ} {s : List ℕ} → row ts q ≡ Repetition a → Left ts r q s → Left ts r a (q ∷ s)
  part_in e h = behind-row e h (repeats refl)

  -- a row within another is not above it
  pub low : {r p : ℕ} {k : List ℕ} → Left ts r p k → p ≤ r
  low (l_top e i) = omega arith
  low (l_down {q} {p} h o i) = let a = low h in let b = law.lower q p o in omega arith

  -- there is one way up, so what is left is fixed
  pub unique : {r p : ℕ} {k l : List ℕ} → Left ts r p k → Left ts r p l → k ≡ l
  unique (l_top e i) (l_top d j) = i ∙ sym j
  unique {r} {p} (l_top e i) (l_down {q} h o j) = let a = low h in let b = law.lower q p o in absurd (omega arith)
  unique {r} {p} (l_down {q} h o j) (l_top e i) = let a = low h in let b = law.lower q p o in absurd (omega arith)
  unique {r} {p} (l_down {q} {s = s} h o i) (l_down {q = u} {s = v} g w j) =
      let e = law.one_owner q u p o w in
      i ∙ ap (λ x. left_behind (row ts x) x p s) e ∙ ap (left_behind (row ts u) u p) (unique (subst (λ x. Left ts r x s) e h) g) ∙ sym j

  pub within-left : {r p : ℕ} → Within ts r p → (k : List ℕ) × Left ts r p k
  within-left (itself e) = ([], l_top e refl)
  within-left (part {s} {p} h o) = let g = within-left h in (left_behind (row ts s) s p g.0, l_down g.1 o refl)

  pub left_within : {r p : ℕ} {k : List ℕ} → Left ts r p k → Within ts r p
  left_within (l_top e i) = itself e
  left_within (l_down h o i) = part (left_within h) o

  -- AN ITEM THAT BEGINS, WITHIN r

  pub begins_left : {r p n : ℕ} {k s : List ℕ} → Left ts r p k → Begins ts p k n s → Left ts r n s
  begins_left {r} {p} {n} {k} {s} h (b_item e i j) = subst (λ x. Left ts r x s) (sym i) (subst (Left ts r p) (sym j) h)
  begins_left h (b_left e g) = begins_left (left_of e h) g
  begins_left h (b_right e z g) = begins_left (right_of e h) g
  begins_left h (b_first e g) = begins_left (first_of e h) g
  begins_left h (b_second e g) = begins_left (second-of e h) g
  begins_left h (b_part e g) = begins_left (part_in e h) g

  -- WHAT FOLLOWS AN ITEM, WITHIN r

  of_repetition : {q a n : ℕ} {s u : List ℕ} → row ts q ≡ Repetition a → Begins ts q s n u → Begins ts a (q ∷ s) n u
  of_repetition e (b_item d i j) = let z : ◌≡◌ {A = ℕ} 0 1 = cc (ap label e) in absurd (omega arith)
  of_repetition e (b_left d g) = let z : ◌≡◌ {A = ℕ} 0 1 = cc in absurd (omega arith)
  of_repetition e (b_right d z g) = let z : ◌≡◌ {A = ℕ} 0 1 = cc in absurd (omega arith)
  of_repetition e (b_first d g) = let z : ◌≡◌ {A = ℕ} 0 1 = cc in absurd (omega arith)
  of_repetition e (b_second d g) = let z : ◌≡◌ {A = ℕ} 0 1 = cc in absurd (omega arith)
  of_repetition {q} {a} {n} {s} {u} e (b_part {a = c} d g) = let i : c ≡ a = cc in subst (λ x. Begins ts x (q ∷ s) n u) i g

  after-left : {r q a b m n : ℕ} {s u : List ℕ} → row ts q ≡ Sequence a b → Left ts r q s → (Last ts q m → Step ts s n u → FollowsIn ts r m n × Left ts r n u)
      → Last ts a m → Step ts (b ∷ s) n u → FollowsIn ts r m n × Left ts r n u
  after-left {q = q} e h ih l (now g) = ((q, (left_within h, in_sequence e l (begins_first g))), begins_left (right_of e h) g)
  after-left e h ih l (later z t) = ih (before_right e z l) t

  after-part : {r q a m n : ℕ} {s u : List ℕ} → row ts q ≡ Repetition a → Left ts r q s → (Last ts q m → Step ts s n u → FollowsIn ts r m n × Left ts r n u)
      → Last ts a m → Step ts (q ∷ s) n u → FollowsIn ts r m n × Left ts r n u
  after-part {q = q} e h ih l (now g) = let b = of_repetition e g in ((q, (left_within h, in_repetition e l (begins_first b))), begins_left (part_in e h) b)
  after-part e h ih l (later z t) = ih (of_part e l) t

  after-down : {r q p m n : ℕ} {s k u : List ℕ} → Left ts r q s → (Last ts q m → Step ts s n u → FollowsIn ts r m n × Left ts r n u)
      → Down ts q p s k → Last ts p m → Step ts k n u → FollowsIn ts r m n × Left ts r n u
  after-down {m = m} {n} {u = u} h ih (d_left e i j) l t = after-left e h ih (subst (λ x. Last ts x m) i l) (subst (λ x. Step ts x n u) j t)
  after-down {m = m} {n} {u = u} h ih (d_right e i j) l t = ih (of_right e (subst (λ x. Last ts x m) i l)) (subst (λ x. Step ts x n u) j t)
  after-down {m = m} {n} {u = u} h ih (d_first e i j) l t = ih (of_first e (subst (λ x. Last ts x m) i l)) (subst (λ x. Step ts x n u) j t)
  after-down {m = m} {n} {u = u} h ih (d_second e i j) l t = ih (of_second e (subst (λ x. Last ts x m) i l)) (subst (λ x. Step ts x n u) j t)
  after-down {m = m} {n} {u = u} h ih (d_part e i j) l t = after-part e h ih (subst (λ x. Last ts x m) i l) (subst (λ x. Step ts x n u) j t)

  -- behind a row of r whose last item is m, what begins next follows m
  pub after : {r p m n : ℕ} {k u : List ℕ} → Left ts r p k → Last ts p m → Step ts k n u → FollowsIn ts r m n × Left ts r n u
  after {n = n} {u = u} (l_top e i) l t = absurd (no_step (subst (λ x. Step ts x n u) i t))
    where
      no_step : {n : ℕ} {u : List ℕ} → Step ts [] n u → ⊥
      no_step t = elim t [ ]
  after (l_down h o i) l t = after-down h (after h) (down o i) l t

  -- and if nothing more has to come, m is a last of r
  ends_left : {r q a b m : ℕ} {s : List ℕ} → row ts q ≡ Sequence a b → (Last ts q m → Nullables ts s → Last ts r m) → Last ts a m → Nullables ts (b ∷ s) → Last ts r m
  ends_left e ih l (z_more x y) = ih (before_right e x l) y

  ends-down : {r q p m : ℕ} {s k : List ℕ} → (Last ts q m → Nullables ts s → Last ts r m) → Down ts q p s k → Last ts p m → Nullables ts k → Last ts r m
  ends-down {m = m} ih (d_left e i j) l z = ends_left e ih (subst (λ x. Last ts x m) i l) (subst (Nullables ts) j z)
  ends-down {m = m} ih (d_right e i j) l z = ih (of_right e (subst (λ x. Last ts x m) i l)) (subst (Nullables ts) j z)
  ends-down {m = m} ih (d_first e i j) l z = ih (of_first e (subst (λ x. Last ts x m) i l)) (subst (Nullables ts) j z)
  ends-down {m = m} ih (d_second e i j) l z = ih (of_second e (subst (λ x. Last ts x m) i l)) (subst (Nullables ts) j z)
  ends-down {m = m} ih (d_part e i j) l z = ih (of_part e (subst (λ x. Last ts x m) i l)) (rest (subst (Nullables ts) j z))
    where
      rest : {r : ℕ} {k : List ℕ} → Nullables ts (r ∷ k) → Nullables ts k
      rest (z_more x y) = y

  pub ends : {r p m : ℕ} {k : List ℕ} → Left ts r p k → Last ts p m → Nullables ts k → Last ts r m
  ends {m = m} (l_top e i) l z = subst (λ x. Last ts x m) e l
  ends (l_down h o i) l z = ends-down (ends h) (down o i) l z

-- what may come behind k may come behind s
pub record Opens (ts : List TypeRow) (s k : List ℕ) : Type 0 where
  pub steps : (n : ℕ) (u : List ℕ) → Step ts k n u → Step ts s n u
  pub nulls : Nullables ts k → Nullables ts s

pub record Behind (ts : List TypeRow) (r m : ℕ) (k : List ℕ) : Type 0 where
  pub rest : List ℕ
  pub left : Left ts r m rest
  pub opens : Opens ts rest k

module _ {ts : List TypeRow} (law : Lawful ts) where
  past : {r m b : ℕ} {k : List ℕ} → Nullable ts b → Behind ts r m (b ∷ k) → Behind ts r m k
  past z h = record { rest = h.rest; left = h.left; opens = record { steps = λ n u t. h.opens.steps n u (later z t); nulls = λ y. h.opens.nulls (z_more z y) } }

  pub last_opens : {r p m : ℕ} {k : List ℕ} → Left ts r p k → Last ts p m → Behind ts r m k
  last_opens {r} {k = k} h (item e i) = record { rest = k; left = subst (λ x. Left ts r x k) (sym i) h; opens = record { steps = λ n u t. t; nulls = λ z. z } }
  last_opens h (of_right e l) = last_opens (right_of law e h) l
  last_opens h (before_right e z l) = past z (last_opens (left_of law e h) l)
  last_opens h (of_first e l) = last_opens (first_of law e h) l
  last_opens h (of_second e l) = last_opens (second-of law e h) l
  last_opens h (of_part e l) = past (repeated e) (last_opens (part_in law e h) l)
