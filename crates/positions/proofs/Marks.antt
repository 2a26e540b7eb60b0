-- Rows that have a forest, found by marking.
use Rattle.std.proofs.Common.{◌≡◌, ℕ, zero, suc, ◌+◌, ◌<◌, Bool, true, false, ◌&&◌, ◌||◌, T, ltb, ◌≢◌, ◌⊎◌, List, [], ◌∷◌, length, set, pos, sym, refl, subst, inl, inr, arith, below_more}
use Rattle.std.proofs.lemmas.List.{get_or-set_other, get_or_past}
use Rattle.std.proofs.lemmas.Bool.{and_parts, cases_eq, cases_lt}
use Rattle.forest.specs.Forests.{Scalar, integer, string, boolean, Forest, none, leaf, node, tag_lawful}
use Rattle.rows.specs.declared.type_row.TypeRow.{TypeRow}
use Rattle.rows.specs.declared.type_row.TypeRow.TheVariants.{EmptyChoice, EmptySequence, Integer, String, Boolean, Element, AnyElement, Sequence, Choice, Repetition}
use Rattle.rows.specs.TypeRows.{type_fits}
use Rattle.types.specs.Parts.{row, Lawful}
use Rattle.types.specs.Belonging.{join, scalar_row, Belongs, nothing, one_scalar, one_element, any_element, both, by_first, by_second, no_more, one_more}
use Rattle.types.specs.Places.{Inhabited}
use Rattle.positions.specs.Below.{flag}
use Rattle.positions.specs.Life.{lives_by, falses, Marked, Alive, Pass}

and_left : (x y : Bool) → T (x && y) → T x
and_left true y h = tt
and_left false y h = absurd h

and_right : (x y : Bool) → T (x && y) → T y
and_right true y h = h
and_right false y h = absurd h

and_made : (x y : Bool) → T x → T y → T (x && y)
and_made true y h g = g
and_made false y h g = absurd h

or_either : (x y : Bool) → T (x || y) → T x ⊎ T y
or_either true y h = inl tt
or_either false y h = inr h

or_first : (x y : Bool) → T x → T (x || y)
or_first true y h = tt
or_first false y h = absurd h

or_second : (x y : Bool) → T y → T (x || y)
or_second true y h = tt
or_second false y h = h

fewer-false : (xs : List Bool) (i : ℕ) → i < length xs → flag xs i ≡ false → falses (set xs i true) < falses xs
fewer-false [] i l e = absurd (omega arith)
fewer-false (true ∷ xs) zero l e = absurd (subst T e tt)
fewer-false (false ∷ xs) zero l e = omega arith
fewer-false (true ∷ xs) (suc i) l e = fewer-false xs i (omega arith) e
fewer-false (false ∷ xs) (suc i) l e = let h = fewer-false xs i (omega arith) e in omega arith

module _ {ts : List TypeRow} (law : Lawful ts) (v : List Bool) where
  -- A ROW THAT HAS A FOREST BY WHAT IS MARKED HAS ONE

  forest-of : (r : ℕ) (w : TypeRow) → row ts r ≡ w → type_fits r w ≡ true → Marked ts v → T (lives_by v w) → Inhabited ts r
  forest-of r EmptyChoice e f h a = absurd a
  forest-of r EmptySequence e f h a = (none, nothing e)
  forest-of r Integer e f h a = (leaf (integer (pos 0)) none, one_scalar e refl)
  forest-of r String e f h a = (leaf (string []) none, one_scalar e refl)
  forest-of r Boolean e f h a = (leaf (boolean true) none, one_scalar e refl)
  forest-of r (Element t c) e f h a = let g = h c a in (node t g.0 none, one_element e (and_parts (tag_lawful t) (ltb c 512) f).0 g.1)
  forest-of r (AnyElement c) e f h a = let g = h c a in (node 1 g.0 none, any_element e refl g.1)
  forest-of r (Sequence x y) e f h a = let p = h x (and_left (flag v x) (flag v y) a) in let q = h y (and_right (flag v x) (flag v y) a) in (join p.0 q.0, both e p.1 q.1)
  forest-of r (Choice x y) e f h a = elim (or_either (flag v x) (flag v y) a) [ inl p ↦ (let q = h x p in (q.0, by_first e q.1)) | inr p ↦ (let q = h y p in (q.0, by_second e q.1)) ]
  forest-of r (Repetition x) e f h a = (none, no_more e)

  marked_more : (k : ℕ) → Marked ts v → T (lives_by v (row ts k)) → Marked ts (set v k true)
  marked_more k m a r h = elim (cases_eq r k) [
    | inl e ↦ subst (Inhabited ts) (sym e) (forest-of k (row ts k) refl (law.fit k) m a)
    | inr n ↦ (let ne : r ≢ k = n in m r (subst T (get_or-set_other v k r true false ne) h))
  ]

  -- MARKS TO WHICH NO PASS ADDS MISS NOTHING

  module _ (closed : (r : ℕ) → r < length ts → T (lives_by v (row ts r)) → T (flag v r)) where
    closed_all : (r : ℕ) {w : TypeRow} → row ts r ≡ w → T (lives_by v w) → T (flag v r)
    closed_all r e a =
        let h : T (lives_by v (row ts r)) = subst (λ w. T (lives_by v w)) (sym e) a in
        elim (cases_lt r (length ts)) [ inl l ↦ closed r l h | inr l ↦ absurd (subst (λ w. T (lives_by v w)) (get_or_past ts r EmptyChoice l) h) ]

    scalar-lives : (s : Scalar) → T (lives_by v (scalar_row s))
    scalar-lives (integer z) = tt
    scalar-lives (string bs) = tt
    scalar-lives (boolean b) = tt

    none-missed : {r : ℕ} {f : Forest} → Belongs ts r f → T (flag v r)
    none-missed {r} (nothing e) = closed_all r e tt
    none-missed {r} (one_scalar {s = s} e l) = closed_all r e (scalar-lives s)
    none-missed {r} (one_element e l b) = closed_all r e (none-missed b)
    none-missed {r} (any_element e l b) = closed_all r e (none-missed b)
    none-missed {r} (both {a = x} {b = y} e p q) = closed_all r e (and_made (flag v x) (flag v y) (none-missed p) (none-missed q))
    none-missed {r} (by_first {a = x} {b = y} e p) = closed_all r e (or_first (flag v x) (flag v y) (none-missed p))
    none-missed {r} (by_second {a = x} {b = y} e p) = closed_all r e (or_second (flag v x) (flag v y) (none-missed p))
    none-missed {r} (no_more e) = closed_all r e tt
    none-missed {r} (one_more e p q) = closed_all r e tt

    pub exact : Marked ts v → Alive ts v
    exact m r = (m r, λ i. none-missed i.1)

-- TURNS OF A PASS

pub pass_start : (ts : List TypeRow) (v : List Bool) → Pass ts v v 0 false
pass_start ts v = record { marked = λ m. m; fewer = omega arith; less = λ e. absurd (subst T (sym e) tt); closed = λ e r l. absurd (omega arith) }

module _ {ts : List TypeRow} (law : Lawful ts) (old v : List Bool) (k : ℕ) (changed : Bool) (p : Pass ts old v k changed) where
  pub pass_mark : k < length v → flag v k ≡ false → T (lives_by v (row ts k)) → Pass ts old (set v k true) (k + 1) true
  pass_mark l e a = let z = fewer-false v k l e in let y = p.fewer in record {
    marked = λ m. marked_more law v k (p.marked m) a;
    fewer = omega arith;
    less = λ q. omega arith;
    closed = λ q. absurd (subst T q tt);
  }

  pub pass_skip : (T (lives_by v (row ts k)) → T (flag v k)) → Pass ts old v (k + 1) changed
  pass_skip h = record { marked = p.marked; fewer = p.fewer; less = p.less; closed = λ q. below_more (λ r. T (lives_by v (row ts r)) → T (flag v r)) k (p.closed q) h }

pub none-marked : (ts : List TypeRow) (v : List Bool) → ((r : ℕ) → flag v r ≡ false) → Marked ts v
none-marked ts v h r t = absurd (subst T (h r) t)
