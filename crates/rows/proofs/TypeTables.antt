-- The rules on the parts of type rows, as tests and place by place.
use Rattle.std.proofs.Common.{◌≡◌, ℕ, zero, suc, ◌<◌, ◌≤◌, true, false, not, ◌&&◌, ◌||◌, eqb, ltb, ◌⊎◌, List, [], ◌∷◌, ◌++◌, length, get_or, take, sym, refl, ap, ◌∙◌, inl, inr, append_assoc, le_of_suc-le-suc, not-suc-le-zero, arith, ltb-true, eqb-true}
use Rattle.std.proofs.lemmas.List.{append-nil, length-take-le, get_or-take, get_or_past}
use Rattle.std.proofs.lemmas.Bool.{false≢true, both_ways, not-true, cases_lt, cases_order, and_parts, or_cases, or_left, or_right}
use Rattle.rows.specs.declared.type_row.TypeRow.{TypeRow}
use Rattle.rows.specs.declared.type_row.TypeRow.TheVariants.{EmptyChoice, EmptySequence, Integer, String, Boolean, Element, AnyElement, Sequence, Choice, Repetition}
use Rattle.rows.specs.TypeRows.{type_fits, owns, shares, twice}
use Rattle.rows.specs.TypeTables.{free, type_right, types_lawful}

-- each type row is right behind those before it
right_at : (before rs : List TypeRow) (i : ℕ) → types_lawful before rs ≡ true → i < length rs → type_right (before ++ take i rs) (get_or rs i EmptyChoice) ≡ true
right_at before [] i law lt = absurd (not-suc-le-zero lt)
right_at before (r ∷ rs) zero law lt = ap (λ b. type_right b r) (append-nil before) ∙ (and_parts (type_right before r) (types_lawful (before ++ (r ∷ [])) rs) law).0
right_at before (r ∷ rs) (suc i) law lt =
    ap (λ b. type_right b (get_or rs i EmptyChoice)) (sym (append_assoc before (r ∷ []) (take i rs)))
    ∙ right_at (before ++ (r ∷ [])) rs i (and_parts (type_right before r) (types_lawful (before ++ (r ∷ [])) rs) law).1 (le_of_suc-le-suc lt)

-- what the rules say of the type row at a place, and of one past the end
record At (rs : List TypeRow) (i : ℕ) : Type 0 where
  fits : type_fits i (get_or rs i EmptyChoice) ≡ true
  once : twice (get_or rs i EmptyChoice) ≡ false
  alone : free (take i rs) (get_or rs i EmptyChoice) ≡ true

free-empty : (qs : List TypeRow) → free qs EmptyChoice ≡ true
free-empty [] = refl
free-empty (q ∷ qs) = free-empty qs

at_place : (rs : List TypeRow) (i : ℕ) → types_lawful [] rs ≡ true → (i < length rs) ⊎ (length rs ≤ i) → At rs i
at_place rs i law (inl lt) =
    let r = get_or rs i EmptyChoice in
    let le : i ≤ length rs = omega arith in
    let p = and_parts (type_fits (length (take i rs)) r) (not (twice r) && free (take i rs) r) (right_at [] rs i law lt) in
    let q = and_parts (not (twice r)) (free (take i rs) r) p.1 in
    record { fits = ap (λ n. type_fits n r) (sym (length-take-le i rs le)) ∙ p.0; once = not-true (twice r) q.0; alone = q.1 }
at_place rs i law (inr le) =
    let is = get_or_past rs i EmptyChoice le in
    record { fits = ap (type_fits i) is; once = ap twice is; alone = ap (free (take i rs)) is ∙ free-empty (take i rs) }

at : (rs : List TypeRow) (i : ℕ) → types_lawful [] rs ≡ true → At rs i
at rs i law = at_place rs i law (cases_lt i (length rs))

-- parts are lower
two-lower : (a b p i : ℕ) → (ltb a i && ltb b i) ≡ true → (eqb a p || eqb b p) ≡ true → p < i
two-lower a b p i fits own =
    let f = and_parts (ltb a i) (ltb b i) fits in
    let x = ltb-true a i f.0 in
    let y = ltb-true b i f.1 in
    elim (or_cases (eqb a p) (eqb b p) own) [ inl e ↦ omega (arith, eqb-true a p e) | inr e ↦ omega (arith, eqb-true b p e) ]

lower_in : (r : TypeRow) (p i : ℕ) → type_fits i r ≡ true → owns r p ≡ true → p < i
lower_in EmptyChoice p i fits own = absurd (false≢true own)
lower_in EmptySequence p i fits own = absurd (false≢true own)
lower_in Integer p i fits own = absurd (false≢true own)
lower_in String p i fits own = absurd (false≢true own)
lower_in Boolean p i fits own = absurd (false≢true own)
lower_in (Element t c) p i fits own = absurd (false≢true own)
lower_in (AnyElement c) p i fits own = absurd (false≢true own)
lower_in (Sequence a b) p i fits own = two-lower a b p i fits own
lower_in (Choice a b) p i fits own = two-lower a b p i fits own
lower_in (Repetition a) p i fits own = let lt = ltb-true a i fits in omega (arith, eqb-true a p own)

-- two rows that own one part share it
two-share : (a b p : ℕ) (q : TypeRow) → (eqb a p || eqb b p) ≡ true → owns q p ≡ true → (owns q a || owns q b) ≡ true
two-share a b p q own other =
    elim (or_cases (eqb a p) (eqb b p) own) [
      | inl e ↦ or_left (owns q a) (owns q b) (ap (owns q) (eqb-true a p e) ∙ other)
      | inr e ↦ or_right (owns q a) (owns q b) (ap (owns q) (eqb-true b p e) ∙ other)
    ]

share : (r q : TypeRow) (p : ℕ) → owns r p ≡ true → owns q p ≡ true → shares r q ≡ true
share EmptyChoice q p own other = absurd (false≢true own)
share EmptySequence q p own other = absurd (false≢true own)
share Integer q p own other = absurd (false≢true own)
share String q p own other = absurd (false≢true own)
share Boolean q p own other = absurd (false≢true own)
share (Element t c) q p own other = absurd (false≢true own)
share (AnyElement c) q p own other = absurd (false≢true own)
share (Sequence a b) q p own other = two-share a b p q own other
share (Choice a b) q p own other = two-share a b p q own other
share (Repetition a) q p own other = ap (owns q) (eqb-true a p own) ∙ other

free-at : (qs : List TypeRow) (r : TypeRow) (i : ℕ) → free qs r ≡ true → i < length qs → shares r (get_or qs i EmptyChoice) ≡ false
free-at [] r i law lt = absurd (not-suc-le-zero lt)
free-at (q ∷ qs) r zero law lt = not-true (shares r q) (and_parts (not (shares r q)) (free qs r) law).0
free-at (q ∷ qs) r (suc i) law lt = free-at qs r i (and_parts (not (shares r q)) (free qs r) law).1 (le_of_suc-le-suc lt)

-- a lower row owns no part of a higher one
lower-other : (rs : List TypeRow) (i j p : ℕ) → types_lawful [] rs ≡ true → i < j → owns (get_or rs i EmptyChoice) p ≡ true → owns (get_or rs j EmptyChoice) p ≡ true → (j < length rs) ⊎ (length rs ≤ j) → ⊥
lower-other rs i j p law lt oi oj (inl in_range) =
    let le : j ≤ length rs = omega arith in
    let long : i < length (take j rs) = omega (arith, length-take-le j rs le) in
    both_ways (shares (get_or rs j EmptyChoice) (get_or rs i EmptyChoice))
    (ap (shares (get_or rs j EmptyChoice)) (sym (get_or-take j rs i EmptyChoice lt)) ∙ free-at (take j rs) (get_or rs j EmptyChoice) i (at rs j law).alone long)
    (share (get_or rs j EmptyChoice) (get_or rs i EmptyChoice) p oj oi)
lower-other rs i j p law lt oi oj (inr past) = both_ways (owns (get_or rs j EmptyChoice) p) (ap (λ r. owns r p) (get_or_past rs j EmptyChoice past)) oj

owner_by : (rs : List TypeRow) (i j p : ℕ) → types_lawful [] rs ≡ true → owns (get_or rs i EmptyChoice) p ≡ true → owns (get_or rs j EmptyChoice) p ≡ true → (i ≡ j) ⊎ ((i < j) ⊎ (j < i)) → i ≡ j
owner_by rs i j p law oi oj (inl e) = e
owner_by rs i j p law oi oj (inr (inl lt)) = absurd (lower-other rs i j p law lt oi oj (cases_lt j (length rs)))
owner_by rs i j p law oi oj (inr (inr lt)) = absurd (lower-other rs j i p law lt oj oi (cases_lt i (length rs)))

-- Rows that pass the tests keep the rules, place by place.
pub record Keeps (rs : List TypeRow) : Type 0 where
  pub lower : (i p : ℕ) → owns (get_or rs i EmptyChoice) p ≡ true → p < i
  pub one_owner : (i j p : ℕ) → owns (get_or rs i EmptyChoice) p ≡ true → owns (get_or rs j EmptyChoice) p ≡ true → i ≡ j
  pub once : (i : ℕ) → twice (get_or rs i EmptyChoice) ≡ false
  pub fit : (i : ℕ) → type_fits i (get_or rs i EmptyChoice) ≡ true

pub keeps : (rs : List TypeRow) → types_lawful [] rs ≡ true → Keeps rs
keeps rs law = record {
  lower = λ i p own. lower_in (get_or rs i EmptyChoice) p i (at rs i law).fits own;
  one_owner = λ i j p oi oj. owner_by rs i j p law oi oj (cases_order i j);
  once = λ i. (at rs i law).once;
  fit = λ i. (at rs i law).fits;
}
