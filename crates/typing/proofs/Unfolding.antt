-- Expressions are typed and types are walked row by row: that this goes a number of steps down does not show.
use Rattle.std.proofs.Common.{◌≡◌, ℕ, zero, suc, ◌<◌, true, ◌&&◌, List, [], ◌∷◌, ◌++◌, length, take, drop, ltb, eqb, Some, None, Option, refl, ap, ◌∙◌, arith}
use Rattle.std.proofs.lemmas.Bool.{ltb-true, and_parts, or_left, or_right, eq-eqb}
use Rattle.std.specs.List.{list_all}
use Rattle.rows.specs.declared.type_row.TypeRow.{TypeRow}
use Rattle.rows.specs.declared.type_row.TypeRow.TheVariants.{EmptyChoice, EmptySequence, Integer as IntegerType, String as StringType, Boolean as BooleanType, Element as ElementType, AnyElement as AnyElementType, Sequence as SequenceType, Choice, Repetition}
use Rattle.rows.specs.declared.expression.Expression.{Expression}
use Rattle.rows.specs.declared.expression.Expression.TheVariants.{Error, Integer, Boolean, String, Variable, Element, Sequence, Empty, If, Let, For, Match, Call, Add, Equal, IsEmpty, Count, Children, As}
use Rattle.rows.specs.declared.arm.Arm.{Arm}
use Rattle.rows.specs.declared.function.Function.{Function}
use Rattle.rows.specs.Programs.{ProgramRows}
use Rattle.rows.specs.Expressions.{expression_fits, arms_within}
use Rattle.forest.specs.Forests.{tag_lawful}
use Rattle.std.specs.Prelude.{slice_get}
use Rattle.types.specs.Parts.{row, Lawful}
use Rattle.rows.specs.TypeRows.{owns}
use Rattle.typing.specs.Kinds.{Taking, takes, passes, may_take, taking, narrowed, is_boolean, is_item, is_integer, is_scalar}
use Rattle.typing.specs.Outcomes.{Progress, Outcome, then}
use Rattle.typing.specs.Programs.{Orderly}
use Rattle.typing.specs.Typing.{Spot, Typer, made, needing, walk_row, walk_below, walk, expression_at, call, branch, branches, type_row, type_below, typed}

-- two ways to type parts that agree on the rows below e
abbrev Agree : ℕ → Typer → Typer → Type 0
Agree e t u = (vs : List ℕ) (a : ℕ) (p : Progress) → a < e → t vs a p ≡ u vs a p

then_same : {A B : Type 0} {o u : Outcome A} {k l : A → Progress → Outcome B} → o ≡ u → ((x : A) (q : Progress) → k x q ≡ l x q) → then o k ≡ then u l
then_same e h = λ i. then (e i) (λ x q. h x q i)

-- EXPRESSIONS

pub two_parts : (e a b : ℕ) → (ltb a e && ltb b e) ≡ true → (a < e) × (b < e)
two_parts e a b h = let k = and_parts (ltb a e) (ltb b e) h in (ltb-true a e k.0, ltb-true b e k.1)

pub three_parts : (e a b c : ℕ) → (ltb a e && (ltb b e && ltb c e)) ≡ true → (a < e) × (b < e) × (c < e)
three_parts e a b c h = let k = and_parts (ltb a e) (ltb b e && ltb c e) h in let l = two_parts e b c k.1 in (ltb-true a e k.0, l.0, l.1)

module _ (s : Spot) (t u : Typer) (same : Agree s.at t u) where
  same_branch : (vs : List ℕ) (x : ℕ) (named : List ℕ) (body : ℕ) {r l : List ℕ → Progress → Outcome (List ℕ)} (k : Taking) (p : Progress) → body < s.at → ((ns : List ℕ) (q : Progress) → r ns q ≡ l ns q)
      → branch s t vs x named body r k p ≡ branch s u vs x named body l k p
  same_branch vs x named body takes p low h = then_same (same (vs ++ (x ∷ [])) body p low) (λ b q. refl)
  same_branch vs x named body passes p low h = h named p
  same_branch vs x named body (may_take g) p low h = then_same {o = made s (narrowed g (row p.types x)) p} refl (λ v q. then_same (same (vs ++ (v ∷ [])) body q low) (λ b o. then_same (h (g ∷ named) o) (λ bs w. refl)))

  same_branches : (vs : List ℕ) (x else : ℕ) (arms : List Arm) (named : List ℕ) (p : Progress) → else < s.at → list_all (λ arm. ltb arm.body s.at) arms ≡ true
      → branches s t vs x else arms named p ≡ branches s u vs x else arms named p
  same_branches vs x else [] named p low lows = then_same (same vs else p low) (λ b q. refl)
  same_branches vs x else (arm ∷ arms) named p low lows =
      let h = and_parts (ltb arm.body s.at) (list_all (λ arm. ltb arm.body s.at) arms) lows in
      same_branch vs x named arm.body (taking named (row p.types x) arm.pattern) p (ltb-true arm.body s.at h.0) (λ ns q. same_branches vs x else arms ns q low h.1)

  same_walk : (vs : List ℕ) (b : ℕ) (ts : List TypeRow) (r : ℕ) (p : Progress) → b < s.at → walk s (λ i o. t (vs ++ (i ∷ [])) b o) ts r p ≡ walk s (λ i o. u (vs ++ (i ∷ [])) b o) ts r p
  same_walk vs b ts r p low = λ i. walk s (λ n o. same (vs ++ (n ∷ [])) b o low i) ts r p

  same_call : (vs : List ℕ) (a : ℕ) (f : Option Function) (p : Progress) → a < s.at → call s t vs a f p ≡ call s u vs a f p
  same_call vs a None p low = refl
  same_call vs a (Some f) p low = then_same (same vs a p low) (λ x q. refl)

  -- a row is typed alike where its parts are
  same_row : (g : ProgramRows) (vs : List ℕ) (x : Expression) (p : Progress) (arms bytes : ℕ) → expression_fits (record { expressions = s.at; arms = arms; bytes = bytes }) x ≡ true
      → ((a from long else : ℕ) → x ≡ Match a from long else → list_all (λ arm. ltb arm.body s.at) (take long (drop from g.arms)) ≡ true)
      → type_row g s t vs x p ≡ type_row g s u vs x p
  same_row g vs Error p m l e w = refl
  same_row g vs (Integer z) p m l e w = refl
  same_row g vs (Boolean b) p m l e w = refl
  same_row g vs (String from long) p m l e w = refl
  same_row g vs (Variable i) p m l e w = refl
  same_row g vs (Element k a) p m l e w = then_same (same vs a p (ltb-true a s.at (and_parts (tag_lawful k) (ltb a s.at) e).1)) (λ x q. refl)
  same_row g vs (Sequence a b) p m l e w = let h = two_parts s.at a b e in then_same (same vs a p h.0) (λ x q. then_same (same vs b q h.1) (λ y o. refl))
  same_row g vs Empty p m l e w = refl
  same_row g vs (If a b c) p m l e w =
      let h = three_parts s.at a b c e in
      then_same (same vs a p h.0) (λ x q. ap (needing s (is_boolean (row q.types x))) (then_same (same vs b q h.1) (λ y o. then_same (same vs c o h.2) (λ z v. refl))))
  same_row g vs (Let a b) p m l e w = let h = two_parts s.at a b e in then_same (same vs a p h.0) (λ x q. same (vs ++ (x ∷ [])) b q h.1)
  same_row g vs (For a b) p m l e w = let h = two_parts s.at a b e in then_same (same vs a p h.0) (λ x q. same_walk vs b q.types x q h.1)
  same_row g vs (Match a from long c) p m l e w =
      let h = and_parts (ltb a s.at) (ltb c s.at && arms_within from long m) e in
      let k = and_parts (ltb c s.at) (arms_within from long m) h.1 in
      then_same (same vs a p (ltb-true a s.at h.0)) (λ x q. ap (needing s (is_item (row q.types x)))
      (then_same (same_branches vs x c (take long (drop from g.arms)) [] q (ltb-true c s.at k.0) (w a from long c refl)) (λ bs o. refl)))
  same_row g vs (Call f a) p m l e w = same_call vs a (slice_get g.functions f) p (ltb-true a s.at (and_parts (ltb f 32) (ltb a s.at) e).1)
  same_row g vs (Add a b) p m l e w = let h = two_parts s.at a b e in then_same (same vs a p h.0) (λ x q. ap (needing s (is_integer (row q.types x))) (then_same (same vs b q h.1) (λ y o. refl)))
  same_row g vs (Equal a b) p m l e w = let h = two_parts s.at a b e in then_same (same vs a p h.0) (λ x q. ap (needing s (is_scalar (row q.types x))) (then_same (same vs b q h.1) (λ y o. refl)))
  same_row g vs (IsEmpty a) p m l e w = then_same (same vs a p (ltb-true a s.at e)) (λ x q. refl)
  same_row g vs (Count a) p m l e w = then_same (same vs a p (ltb-true a s.at e)) (λ x q. refl)
  same_row g vs (Children a) p m l e w = then_same (same vs a p (ltb-true a s.at e)) (λ x q. refl)
  same_row g vs (As a k) p m l e w = then_same (same vs a p (ltb-true a s.at (and_parts (ltb a s.at) (ltb k 512) e).0)) (λ x q. refl)

-- steps down beyond what is needed change nothing
stable : {g : ProgramRows} → Orderly g → (f : Option ℕ) (m n : ℕ) → (vs : List ℕ) (e : ℕ) (p : Progress) → e < m → e < n → type_below m g f vs e p ≡ type_below n g f vs e p
stable law f zero n vs e p x y = absurd (omega arith)
stable law f (suc m) zero vs e p x y = absurd (omega arith)
stable {g} law f (suc m) (suc n) vs e p x y =
    same_row (record { at = e; function = f }) (type_below m g f) (type_below n g f) (λ us a q low. stable law f m n us a q (omega arith) (omega arith))
    g vs (expression_at g e) p (length g.arms) (length g.text) (law.fit e) (λ a from long else h. law.arms_lower e a from long else h)

-- where typing is, by function and row
abbrev pub spot : Option ℕ → ℕ → Spot
spot f e = record { at = e; function = f }

-- An expression row is typed by its kind, its parts in the same way.
pub typed-unfolds : {g : ProgramRows} → Orderly g → (f : Option ℕ) (vs : List ℕ) (e : ℕ) (p : Progress)
    → typed g f vs e p ≡ type_row g (record { at = e; function = f }) (typed g f) vs (expression_at g e) p
typed-unfolds {g} law f vs e p =
    same_row (record { at = e; function = f }) (type_below e g f) (typed g f) (λ us a q low. stable law f e (suc a) us a q low (omega arith))
    g vs (expression_at g e) p (length g.arms) (length g.text) (law.fit e) (λ a from long else h. law.arms_lower e a from long else h)

-- the same, where the kind is known
pub typed_by_kind : {g : ProgramRows} → Orderly g → (f : Option ℕ) (vs : List ℕ) (e : ℕ) (p : Progress) {x : Expression} → expression_at g e ≡ x → typed g f vs e p ≡ type_row g (spot f e) (typed g f) vs x p
typed_by_kind {g} law f vs e p i = typed-unfolds law f vs e p ∙ ap (λ y. type_row g (spot f e) (typed g f) vs y p) i

-- WALKS

-- every part is a lower row
pub record PartsLower (ts : List TypeRow) : Type 0 where
  pub lower : (i p : ℕ) → owns (row ts i) p ≡ true → p < i

-- as in every table whose rows keep the rules
pub lawful_lower : {ts : List TypeRow} → Lawful ts → PartsLower ts
lawful_lower law = record { lower = law.lower }

module _ (s : Spot) (item : ℕ → Progress → Outcome ℕ) where
  same_walk_row : (r : ℕ) (t : TypeRow) (p : Progress) {part piece : ℕ → Progress → Outcome ℕ} → ((a : ℕ) (q : Progress) → owns t a ≡ true → part a q ≡ piece a q) → walk_row s item part r t p ≡ walk_row s item piece r t p
  same_walk_row r EmptyChoice p h = refl
  same_walk_row r EmptySequence p h = refl
  same_walk_row r IntegerType p h = refl
  same_walk_row r StringType p h = refl
  same_walk_row r BooleanType p h = refl
  same_walk_row r (ElementType t c) p h = refl
  same_walk_row r (AnyElementType c) p h = refl
  same_walk_row r (SequenceType a b) p h = then_same (h a p (or_left (eqb a a) (eqb b a) (eq-eqb a a refl))) (λ x q. then_same (h b q (or_right (eqb a b) (eqb b b) (eq-eqb b b refl))) (λ y o. refl))
  same_walk_row r (Choice a b) p h = then_same (h a p (or_left (eqb a a) (eqb b a) (eq-eqb a a refl))) (λ x q. then_same (h b q (or_right (eqb a b) (eqb b b) (eq-eqb b b refl))) (λ y o. refl))
  same_walk_row r (Repetition a) p h = then_same (h a p (eq-eqb a a refl)) (λ x q. refl)

  walk_stable : {ts : List TypeRow} → PartsLower ts → (m n r : ℕ) (p : Progress) → r < m → r < n → walk_below m s item ts r p ≡ walk_below n s item ts r p
  walk_stable low zero n r p x y = absurd (omega arith)
  walk_stable low (suc m) zero r p x y = absurd (omega arith)
  walk_stable {ts} low (suc m) (suc n) r p x y = same_walk_row r (row ts r) p (λ a q o. let l = low.lower r a o in walk_stable low m n a q (omega arith) (omega arith))

  -- A row is walked by its kind, its parts in the same way.
  pub walk-unfolds : {ts : List TypeRow} → PartsLower ts → (r : ℕ) (p : Progress) → walk s item ts r p ≡ walk_row s item (walk s item ts) r (row ts r) p
  walk-unfolds {ts} low r p = same_walk_row r (row ts r) p (λ a q o. let l = low.lower r a o in walk_stable low r (suc a) a q l (omega arith))

  pub walk_by_kind : {ts : List TypeRow} → PartsLower ts → (r : ℕ) (p : Progress) {t : TypeRow} → row ts r ≡ t → walk s item ts r p ≡ walk_row s item (walk s item ts) r t p
  walk_by_kind {ts} low r p e = walk-unfolds low r p ∙ ap (λ t. walk_row s item (walk s item ts) r t p) e
