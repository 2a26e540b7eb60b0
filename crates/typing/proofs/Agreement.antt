-- The executable typing gives what the typing rules say.
use Rattle.std.proofs.Common.{◌≡◌, ℕ, zero, suc, ◌<◌, true, ◌||◌, ◌&&◌, ◌↔◌, eqb, ltb, List, [], ◌∷◌, ◌++◌, length, take, drop, Some, None, Option, sym, refl, ap, ◌∙◌, subst, arith}
use Rattle.std.specs.Prelude.{slice_get}
use Rattle.std.specs.List.{list_all}
use Rattle.std.proofs.lemmas.Bool.{false≢true, or_left, or_right, eq-eqb, and_parts, ltb-true}
use Rattle.rows.specs.declared.type_row.TypeRow.{TypeRow}
use Rattle.rows.specs.declared.type_row.TypeRow.TheVariants.{EmptyChoice, EmptySequence, Integer as IntegerType, String as StringType, Boolean as BooleanType, Element as ElementType, AnyElement as AnyElementType, Sequence as SequenceType, Choice, Repetition}
use Rattle.rows.specs.declared.expression.Expression.{Expression}
use Rattle.rows.specs.declared.expression.Expression.TheVariants.{Error, Integer, Boolean, String, Variable, Element, Sequence, Empty, If, Let, For, Match, Call, Add, Equal, IsEmpty, Count, Children, As}
use Rattle.rows.specs.declared.arm.Arm.{Arm}
use Rattle.rows.specs.declared.function.Function.{Function}
use Rattle.rows.specs.TypeRows.{owns}
use Rattle.rows.specs.Expressions.{expression_fits, arms_within}
use Rattle.forest.specs.Forests.{tag_lawful}
use Rattle.rows.specs.Programs.{ProgramRows}
use Rattle.types.specs.Parts.{row, content}
use Rattle.types.specs.Determinism.{overlaps}
use Rattle.typing.specs.Kinds.{is_item, is_boolean, is_integer, is_scalar, Taking, takes, passes, may_take, taking, narrowed}
use Rattle.typing.specs.Outcomes.{Progress, Outcome, Ending, goes, all_hold, Gives}
use Rattle.typing.specs.Programs.{Orderly}
use Rattle.typing.specs.Typing.{Spot, made, walk_row, walk, copy, expression_at, variable as type_variable, children_of, call as type_call, chosen, joined, branch, branches, type_row, typed}
use Rattle.typing.specs.Rules.{Added, Chosen, one, more, Each, copied, typed_as, Types, Walks, Branches}
use Rattle.typing.specs.Rules.Types.{error, integer, boolean, string, variable, element, sequence, empty, if, let_in, for_each, match_item, call, add, equal, is_empty, count, children, as_type}
use Rattle.typing.specs.Rules.Walks.{item_copied, item_typed, no_choice, nothing, both, either, repeated}
use Rattle.typing.specs.Rules.Branches.{otherwise, arm_takes, arm_passes, arm_may}
use Rattle.typing.proofs.Steps.{gives_along, goes≢stops, gives_given, gives_stopped, then_goes, then_went, needing_holds, needing_went, fitting_holds, fitting_went, made_gives, made_went}
use Rattle.typing.proofs.Unfolding.{PartsLower, two_parts, three_parts, spot, typed-unfolds, typed_by_kind, walk-unfolds, walk_by_kind}
use Rattle.typing.proofs.Keeping.{added_keeps, nothing_owned, types_keep, walks_keep}

-- FROM THE RULES

added_gives : {t : TypeRow} {p q : Progress} {x : ℕ} (s : Spot) → Added t p x q → Gives (made s t p) (goes x q)
added_gives {t} {p} {q} {x} s d = subst (λ y. Gives (made s t p) (goes y q)) (sym d.place) (subst (λ y. Gives (made s t p) (goes (length p.types) y)) (sym d.table) (made_gives s t p d.room))

chosen_gives : {x r : ℕ} {ys : List ℕ} {p q : Progress} (s : Spot) → Chosen x ys p r q → Gives (chosen s x ys p) (goes r q)
chosen_gives s one = all_hold
chosen_gives s (more d c) = then_goes _ _ (added_gives s d) (chosen_gives s c)

-- what is put in the place of an item
abbrev pub each : ProgramRows → Option ℕ → Spot → List TypeRow → Each → ℕ → Progress → Outcome ℕ
each g f s ts copied i p = made s (row ts i) p
each g f s ts (typed_as vs b) i p = typed g f (vs ++ (i ∷ [])) b p

item_step : (s : Spot) (item part : ℕ → Progress → Outcome ℕ) (r : ℕ) (t : TypeRow) (p : Progress) → is_item t ≡ true → walk_row s item part r t p ≡ item r p
item_step s item part r EmptyChoice p i = absurd (false≢true i)
item_step s item part r EmptySequence p i = absurd (false≢true i)
item_step s item part r IntegerType p i = refl
item_step s item part r StringType p i = refl
item_step s item part r BooleanType p i = refl
item_step s item part r (ElementType t c) p i = refl
item_step s item part r (AnyElementType c) p i = refl
item_step s item part r (SequenceType a b) p i = absurd (false≢true i)
item_step s item part r (Choice a b) p i = absurd (false≢true i)
item_step s item part r (Repetition a) p i = absurd (false≢true i)

module _ {g : ProgramRows} (law : Orderly g) (f : Option ℕ) where
  row_gives : (vs : List ℕ) (e : ℕ) (p : Progress) {x : Expression} {r : Ending ℕ} → expression_at g e ≡ x → Gives (type_row g (spot f e) (typed g f) vs x p) r → Gives (typed g f vs e p) r
  row_gives vs e p i h = gives_along (typed_by_kind law f vs e p i) h

  item_as : (s : Spot) (w : Each) {ts : List TypeRow} (r : ℕ) (p : Progress) → PartsLower ts → is_item (row ts r) ≡ true → walk s (each g f s ts w) ts r p ≡ each g f s ts w r p
  item_as s w {ts} r p low i = walk_by_kind s (each g f s ts w) low r p refl ∙ item_step s (each g f s ts w) (walk s (each g f s ts w) ts) r (row ts r) p i

  mutual
    pub types_give : {vs : List ℕ} {e x : ℕ} {p q : Progress} → Types g vs e p x q → PartsLower p.types → Gives (typed g f vs e p) (goes x q)
    types_give (error {vs} {e} {p = p} i d) low = row_gives vs e p i (then_goes _ _ (added_gives (spot f e) d) all_hold)
    types_give (integer {vs} {e} {p = p} i d) low = row_gives vs e p i (added_gives (spot f e) d)
    types_give (boolean {vs} {e} {p = p} i d) low = row_gives vs e p i (added_gives (spot f e) d)
    types_give (string {vs} {e} {p = p} i d) low = row_gives vs e p i (added_gives (spot f e) d)
    types_give (variable {vs} {e} {p = p} i v w) low = row_gives vs e p i (gives_along (ap (λ o. type_variable (spot f e) o p) v) (walks_give (spot f e) w low low))
    types_give (element {vs} {e} {p = p} i a d) low = row_gives vs e p i (then_goes _ _ (types_give a low) (added_gives (spot f e) d))
    types_give (sequence {vs} {e} {p = p} i a b d) low =
        let la = (types_keep a).lower low in
        row_gives vs e p i (then_goes _ _ (types_give a low) (then_goes _ _ (types_give b la) (added_gives (spot f e) d)))
    types_give (empty {vs} {e} {p = p} i d) low = row_gives vs e p i (added_gives (spot f e) d)
    types_give (if {vs} {e} {p = p} i a k b c d) low =
        let la = (types_keep a).lower low in
        let lb = (types_keep b).lower la in
        row_gives vs e p i (then_goes _ _ (types_give a low) (needing_holds (spot f e) _ k (then_goes _ _ (types_give b la) (then_goes _ _ (types_give c lb) (added_gives (spot f e) d)))))
    types_give (let_in {vs} {e} {p = p} i a b) low = row_gives vs e p i (then_goes _ _ (types_give a low) (types_give b ((types_keep a).lower low)))
    types_give (for_each {vs} {e} {p = p} i a w) low = let la = (types_keep a).lower low in row_gives vs e p i (then_goes _ _ (types_give a low) (walks_give (spot f e) w la la))
    types_give (match_item {vs} {e} {p = p} i a k b c) low =
        let la = (types_keep a).lower low in
        row_gives vs e p i (then_goes _ _ (types_give a low) (needing_holds (spot f e) _ k (then_goes _ _ (branches_give (spot f e) b la) (chosen_gives (spot f e) c))))
    types_give (call {vs} {e} {a = a} {p = p} {q} i n t h w) low =
        let la = (types_keep t).lower low in
        row_gives vs e p i (gives_along (ap (λ o. type_call (spot f e) (typed g f) vs a o p) n) (then_goes _ _ (types_give t low) (fitting_holds (spot f e) _ _ q _ h (walks_give (spot f e) w la la))))
    types_give (add {vs} {e} {p = p} i a k b l d) low =
        let la = (types_keep a).lower low in
        row_gives vs e p i (then_goes _ _ (types_give a low) (needing_holds (spot f e) _ k (then_goes _ _ (types_give b la) (needing_holds (spot f e) _ l (added_gives (spot f e) d)))))
    types_give (equal {vs} {e} {p = p} i a k b l d) low =
        let la = (types_keep a).lower low in
        row_gives vs e p i (then_goes _ _ (types_give a low) (needing_holds (spot f e) _ k (then_goes _ _ (types_give b la) (needing_holds (spot f e) _ l (added_gives (spot f e) d)))))
    types_give (is_empty {vs} {e} {p = p} i a d) low = row_gives vs e p i (then_goes _ _ (types_give a low) (added_gives (spot f e) d))
    types_give (count {vs} {e} {p = p} i a d) low = row_gives vs e p i (then_goes _ _ (types_give a low) (added_gives (spot f e) d))
    types_give (children {vs} {e} {p = p} {q} i a c w) low =
        let la = (types_keep a).lower low in
        row_gives vs e p i (then_goes _ _ (types_give a low) (gives_along (ap (λ o. children_of (spot f e) o q) c) (walks_give (spot f e) w la la)))
    types_give (as_type {vs} {e} {p = p} {q} i a h w) low =
        let la = (types_keep a).lower low in
        row_gives vs e p i (then_goes _ _ (types_give a low) (fitting_holds (spot f e) _ _ q _ h (walks_give (spot f e) w la la)))

    pub walks_give : (s : Spot) {w : Each} {ts : List TypeRow} {r x : ℕ} {p q : Progress} → Walks g w ts r p x q → PartsLower ts → PartsLower p.types → Gives (walk s (each g f s ts w) ts r p) (goes x q)
    walks_give s (item_copied {r = r} {p = p} i d) lt low = gives_along (item_as s copied r p lt i) (added_gives s d)
    walks_give s (item_typed {vs = vs} {b} {r} {p = p} i t) lt low = gives_along (item_as s (typed_as vs b) r p lt i) (types_give t low)
    walks_give s (no_choice {w} {r = r} {p = p} e d) lt low = gives_along (walk_by_kind s (each g f s _ w) lt r p e) (added_gives s d)
    walks_give s (nothing {w} {r = r} {p = p} e d) lt low = gives_along (walk_by_kind s (each g f s _ w) lt r p e) (added_gives s d)
    walks_give s (both {w} {r = r} {p = p} e a b d) lt low = gives_along (walk_by_kind s (each g f s _ w) lt r p e) (then_goes _ _ (walks_give s a lt low) (then_goes _ _ (walks_give s b lt ((walks_keep a).lower low)) (added_gives s d)))
    walks_give s (either {w} {r = r} {p = p} e a b d) lt low = gives_along (walk_by_kind s (each g f s _ w) lt r p e) (then_goes _ _ (walks_give s a lt low) (then_goes _ _ (walks_give s b lt ((walks_keep a).lower low)) (added_gives s d)))
    walks_give s (repeated {w} {r = r} {p = p} e a d) lt low = gives_along (walk_by_kind s (each g f s _ w) lt r p e) (then_goes _ _ (walks_give s a lt low) (added_gives s d))

    branches_give : (s : Spot) {vs named bs : List ℕ} {x else : ℕ} {arms : List Arm} {p q : Progress} → Branches g vs x else arms named p bs q → PartsLower p.types → Gives (branches s (typed g f) vs x else arms named p) (goes bs q)
    branches_give s (otherwise t) low = then_goes _ _ (types_give t low) all_hold
    branches_give s (arm_takes {vs} {named} {x} {else} {arm = arm} {arms} {p} e t) low =
        gives_along (ap (λ k. branch s (typed g f) vs x named arm.body (branches s (typed g f) vs x else arms) k p) e) (then_goes _ _ (types_give t low) all_hold)
    branches_give s (arm_passes {vs} {named} {x = x} {else} {arm} {arms} {p} e b) low =
        gives_along (ap (λ k. branch s (typed g f) vs x named arm.body (branches s (typed g f) vs x else arms) k p) e) (branches_give s b low)
    branches_give s (arm_may {vs} {named} {x = x} {else} {arm = arm} {arms} {p} e d t b) low =
        let la = (added_keeps d nothing_owned).lower low in
        gives_along (ap (λ k. branch s (typed g f) vs x named arm.body (branches s (typed g f) vs x else arms) k p) e)
        (then_goes _ _ (added_gives s d) (then_goes _ _ (types_give t la) (then_goes _ _ (branches_give s b ((types_keep t).lower la)) all_hold)))

-- TO THE RULES

owns_first : (a b : ℕ) → (eqb a a || eqb b a) ≡ true
owns_first a b = or_left (eqb a a) (eqb b a) (eq-eqb a a refl)

owns_second : (a b : ℕ) → (eqb a b || eqb b b) ≡ true
owns_second a b = or_right (eqb a b) (eqb b b) (eq-eqb b b refl)

made_added : {x : ℕ} {q : Progress} (s : Spot) (t : TypeRow) (p : Progress) → Gives (made s t p) (goes x q) → Added t p x q
made_added {x} {q} s t p h =
    let w = made_went s t p h in
    let e = w.1 in
    record { room = w.0; place = cc; table = cc }

along_goes : {A : Type 0} {x y : A} {p q : Progress} (P : A → Progress → Type 0) → goes x p ≡ goes y q → P y q → P x p
along_goes {x = x} {y} {p} {q} P e h = let i : x ≡ y = cc in let j : p ≡ q = cc in subst (λ z. P z p) (sym i) (subst (P y) (sym j) h)

chosen_rules : {r : ℕ} {q : Progress} (s : Spot) (x : ℕ) (ys : List ℕ) (p : Progress) → Gives (chosen s x ys p) (goes r q) → Chosen x ys p r q
chosen_rules s x [] p h = along_goes (λ y o. Chosen x [] p y o) (gives_given h) one
chosen_rules s x (y ∷ ys) p h = let w = then_went (made s (Choice x y) p) (λ z q. chosen s z ys q) h in more (made_added s (Choice x y) p w.2) (chosen_rules s w.0 ys w.1 w.3)

-- some branch is always reached
no_branches : {g : ProgramRows} {vs named : List ℕ} {x else : ℕ} {arms : List Arm} {p q : Progress} → Branches g vs x else arms named p [] q → ⊥
no_branches (arm_passes e b) = no_branches b

module _ {g : ProgramRows} (law : Orderly g) (f : Option ℕ) where
  -- what is typed below row e is so by the rules
  abbrev RightBelow : ℕ → Type 0
  RightBelow e = (vs : List ℕ) (a : ℕ) (p : Progress) (x : ℕ) (q : Progress) → a < e → PartsLower p.types → Gives (typed g f vs a p) (goes x q) → Types g vs a p x q

  -- WALKS

  -- what is put in the place of an item is so by the rules
  abbrev RightItems : Spot → Each → List TypeRow → Type 0
  RightItems s w ts = (i : ℕ) (p : Progress) (x : ℕ) (q : Progress) → is_item (row ts i) ≡ true → PartsLower p.types → Gives (each g f s ts w i p) (goes x q) → Walks g w ts i p x q

  abbrev RightParts : Spot → Each → List TypeRow → ℕ → Type 0
  RightParts s w ts n = (r : ℕ) (p : Progress) (x : ℕ) (q : Progress) → r < n → PartsLower p.types → Gives (walk s (each g f s ts w) ts r p) (goes x q) → Walks g w ts r p x q

  step_rules : (s : Spot) (w : Each) {ts : List TypeRow} (lt : PartsLower ts) → RightItems s w ts → (r : ℕ) (p : Progress) (x : ℕ) (q : Progress) → RightParts s w ts r → PartsLower p.types → (t : TypeRow) → row ts r ≡ t
      → Gives (walk_row s (each g f s ts w) (walk s (each g f s ts w) ts) r t p) (goes x q) → Walks g w ts r p x q
  step_rules s w lt items r p x q right low EmptyChoice e h = no_choice e (made_added s EmptyChoice p h)
  step_rules s w lt items r p x q right low EmptySequence e h = nothing e (made_added s EmptySequence p h)
  step_rules s w lt items r p x q right low IntegerType e h = items r p x q (ap is_item e) low h
  step_rules s w lt items r p x q right low StringType e h = items r p x q (ap is_item e) low h
  step_rules s w lt items r p x q right low BooleanType e h = items r p x q (ap is_item e) low h
  step_rules s w lt items r p x q right low (ElementType t c) e h = items r p x q (ap is_item e) low h
  step_rules s w lt items r p x q right low (AnyElementType c) e h = items r p x q (ap is_item e) low h
  step_rules s w lt items r p x q right low (SequenceType a b) e h =
      let v = then_went _ _ h in
      let m = then_went _ _ v.3 in
      let first = right a p v.0 v.1 (lt.lower r a (ap (λ t. owns t a) e ∙ owns_first a b)) low v.2 in
      let second = right b v.1 m.0 m.1 (lt.lower r b (ap (λ t. owns t b) e ∙ owns_second a b)) ((walks_keep first).lower low) m.2 in
      both e first second (made_added s (SequenceType v.0 m.0) m.1 m.3)
  step_rules s w lt items r p x q right low (Choice a b) e h =
      let v = then_went _ _ h in
      let m = then_went _ _ v.3 in
      let first = right a p v.0 v.1 (lt.lower r a (ap (λ t. owns t a) e ∙ owns_first a b)) low v.2 in
      let second = right b v.1 m.0 m.1 (lt.lower r b (ap (λ t. owns t b) e ∙ owns_second a b)) ((walks_keep first).lower low) m.2 in
      either e first second (made_added s (Choice v.0 m.0) m.1 m.3)
  step_rules s w lt items r p x q right low (Repetition a) e h =
      let v = then_went _ _ h in
      repeated e (right a p v.0 v.1 (lt.lower r a (ap (λ t. owns t a) e ∙ eq-eqb a a refl)) low v.2) (made_added s (Repetition v.0) v.1 v.3)

  walks_below : (s : Spot) (w : Each) {ts : List TypeRow} (lt : PartsLower ts) → RightItems s w ts → (n : ℕ) → RightParts s w ts n
  walks_below s w lt items zero r p x q l low h = absurd (omega arith)
  walks_below s w {ts} lt items (suc n) r p x q l low h =
      step_rules s w lt items r p x q (λ a o y u m. walks_below s w lt items n a o y u (omega arith)) low (row ts r) refl (gives_along (sym (walk-unfolds s (each g f s ts w) lt r p)) h)

  walk_rules : (s : Spot) (w : Each) {ts : List TypeRow} (lt : PartsLower ts) → RightItems s w ts → (r : ℕ) (p : Progress) {x : ℕ} {q : Progress} → PartsLower p.types
      → Gives (walk s (each g f s ts w) ts r p) (goes x q) → Walks g w ts r p x q
  walk_rules s w lt items r p {x} {q} low h = walks_below s w lt items (suc r) r p x q (omega arith) low h

  copy_rules : (s : Spot) (r : ℕ) (p : Progress) {x : ℕ} {q : Progress} → PartsLower p.types → Gives (copy s r p) (goes x q) → Walks g copied p.types r p x q
  copy_rules s r p low h = walk_rules s copied low (λ i o y u e l k. item_copied e (made_added s (row p.types i) o k)) r p low h

  loop_rules : (s : Spot) (vs : List ℕ) (b r : ℕ) (p : Progress) {x : ℕ} {q : Progress} → RightBelow s.at → b < s.at → PartsLower p.types
      → Gives (walk s (λ i o. typed g f (vs ++ (i ∷ [])) b o) p.types r p) (goes x q) → Walks g (typed_as vs b) p.types r p x q
  loop_rules s vs b r p right lb low h = walk_rules s (typed_as vs b) low (λ i o y u e l k. item_typed e (right (vs ++ (i ∷ [])) b o y u lb l k)) r p low h

  -- BRANCHES

  arm_rules : (s : Spot) (vs : List ℕ) (x else : ℕ) (named : List ℕ) (arm : Arm) (arms : List Arm) (p : Progress) {bs : List ℕ} {q : Progress} → RightBelow s.at → arm.body < s.at
      → ((ns : List ℕ) (o : Progress) (cs : List ℕ) (u : Progress) → PartsLower o.types → Gives (branches s (typed g f) vs x else arms ns o) (goes cs u) → Branches g vs x else arms ns o cs u)
      → PartsLower p.types → (k : Taking) → taking named (row p.types x) arm.pattern ≡ k → Gives (branch s (typed g f) vs x named arm.body (branches s (typed g f) vs x else arms) k p) (goes bs q)
      → Branches g vs x else (arm ∷ arms) named p bs q
  arm_rules s vs x else named arm arms p right lb rest low takes e h =
      let v = then_went _ _ h in
      along_goes (λ cs u. Branches g vs x else (arm ∷ arms) named p cs u) (gives_given v.3) (arm_takes e (right (vs ++ (x ∷ [])) arm.body p v.0 v.1 lb low v.2))
  arm_rules s vs x else named arm arms p {bs} {q} right lb rest low passes e h = arm_passes e (rest named p bs q low h)
  arm_rules s vs x else named arm arms p right lb rest low (may_take t) e h =
      let v = then_went _ _ h in
      let m = then_went _ _ v.3 in
      let n = then_went _ _ m.3 in
      let d = made_added s (narrowed t (row p.types x)) p v.2 in
      let ld = (added_keeps d nothing_owned).lower low in
      let body = right (vs ++ (v.0 ∷ [])) arm.body v.1 m.0 m.1 lb ld m.2 in
      along_goes (λ cs u. Branches g vs x else (arm ∷ arms) named p cs u) (gives_given n.3) (arm_may e d body (rest (t ∷ named) m.1 n.0 n.1 ((types_keep body).lower ld) n.2))

  branch_rules : (s : Spot) (vs : List ℕ) (x else : ℕ) → RightBelow s.at → else < s.at → (arms : List Arm) → list_all (λ arm. ltb arm.body s.at) arms ≡ true → (named : List ℕ) (p : Progress) (bs : List ℕ) (q : Progress) → PartsLower p.types
      → Gives (branches s (typed g f) vs x else arms named p) (goes bs q) → Branches g vs x else arms named p bs q
  branch_rules s vs x else right le [] lows named p bs q low h =
      let v = then_went _ _ h in
      along_goes (λ cs u. Branches g vs x else [] named p cs u) (gives_given v.3) (otherwise (right vs else p v.0 v.1 le low v.2))
  branch_rules s vs x else right le (arm ∷ arms) lows named p bs q low h =
      let k = and_parts (ltb arm.body s.at) (list_all (λ arm. ltb arm.body s.at) arms) lows in
      arm_rules s vs x else named arm arms p right (ltb-true arm.body s.at k.0) (λ ns o cs u l w. branch_rules s vs x else right le arms k.1 ns o cs u l w) low (taking named (row p.types x) arm.pattern) refl h

  match_rules : (s : Spot) (vs : List ℕ) (x else : ℕ) (arms : List Arm) (p : Progress) (bs : List ℕ) (q : Progress) {z : ℕ} {u : Progress} → Branches g vs x else arms [] p bs q → Gives (joined s bs q) (goes z u)
      → (y : ℕ) × (ys : List ℕ) × Branches g vs x else arms [] p (y ∷ ys) q × Chosen y ys q z u
  match_rules s vs x else arms p [] q b h = absurd (no_branches b)
  match_rules s vs x else arms p (y ∷ ys) q b h = (y, ys, b, chosen_rules s y ys q h)

  -- ROWS

  variable_rules : (vs : List ℕ) (e i : ℕ) (p : Progress) {y : ℕ} {u : Progress} → expression_at g e ≡ Variable i → PartsLower p.types → (r : Option ℕ) → slice_get vs i ≡ r → Gives (type_variable (spot f e) r p) (goes y u) → Types g vs e p y u
  variable_rules vs e i p w low None k h = absurd (goes≢stops (gives_stopped h))
  variable_rules vs e i p w low (Some r) k h = variable w k (copy_rules (spot f e) r p low h)

  children_rules : (vs : List ℕ) (e a : ℕ) (p : Progress) {x y : ℕ} {q u : Progress} → expression_at g e ≡ Children a → Types g vs a p x q → PartsLower q.types → (c : Option ℕ) → content (row q.types x) ≡ c → Gives (children_of (spot f e) c q) (goes y u) → Types g vs e p y u
  children_rules vs e a p w t low None k h = absurd (goes≢stops (gives_stopped h))
  children_rules vs e a p {q = q} w t low (Some c) k h = children w t k (copy_rules (spot f e) c q low h)

  call_rules : (vs : List ℕ) (e n a : ℕ) (p : Progress) {y : ℕ} {u : Progress} → expression_at g e ≡ Call n a → RightBelow e → a < e → PartsLower p.types → (r : Option Function) → slice_get g.functions n ≡ r
      → Gives (type_call (spot f e) (typed g f) vs a r p) (goes y u) → Types g vs e p y u
  call_rules vs e n a p w right la low None k h = absurd (goes≢stops (gives_stopped h))
  call_rules vs e n a p w right la low (Some d) k h =
      let v = then_went _ _ h in
      let t = right vs a p v.0 v.1 la low v.2 in
      let m = fitting_went (spot f e) v.0 d.parameter v.1 _ v.3 in
      call w k t m.0 (copy_rules (spot f e) d.result v.1 ((types_keep t).lower low) m.1)

  -- one row is typed by the rules, where lower rows are
  row_rules : (vs : List ℕ) (e : ℕ) (p : Progress) {y : ℕ} {u : Progress} → RightBelow e → PartsLower p.types → (x : Expression) → expression_at g e ≡ x → expression_fits (record { expressions = e; arms = length g.arms; bytes = length g.text }) x ≡ true
      → Gives (type_row g (spot f e) (typed g f) vs x p) (goes y u) → Types g vs e p y u
  row_rules vs e p {y} {u} right low Error i w h =
      let v = then_went _ _ h in
      along_goes (λ z o. Types g vs e p z o) (gives_given v.3) (error i (made_added (spot f e) EmptyChoice p v.2))
  row_rules vs e p right low (Integer z) i w h = integer i (made_added (spot f e) IntegerType p h)
  row_rules vs e p right low (Boolean b) i w h = boolean i (made_added (spot f e) BooleanType p h)
  row_rules vs e p right low (String from long) i w h = string i (made_added (spot f e) StringType p h)
  row_rules vs e p right low (Variable n) i w h = variable_rules vs e n p i low (slice_get vs n) refl h
  row_rules vs e p right low (Element t a) i w h =
      let v = then_went _ _ h in
      element i (right vs a p v.0 v.1 (ltb-true a e (and_parts (tag_lawful t) (ltb a e) w).1) low v.2) (made_added (spot f e) (ElementType t v.0) v.1 v.3)
  row_rules vs e p right low (Sequence a b) i w h =
      let l = two_parts e a b w in
      let v = then_went _ _ h in
      let m = then_went _ _ v.3 in
      let first = right vs a p v.0 v.1 l.0 low v.2 in
      let second = right vs b v.1 m.0 m.1 l.1 ((types_keep first).lower low) m.2 in
      sequence i first second (made_added (spot f e) (SequenceType v.0 m.0) m.1 m.3)
  row_rules vs e p right low Empty i w h = empty i (made_added (spot f e) EmptySequence p h)
  row_rules vs e p right low (If a b c) i w h =
      let l = three_parts e a b c w in
      let v = then_went _ _ h in
      let k = needing_went (spot f e) (is_boolean (row v.1.types v.0)) _ v.3 in
      let m = then_went _ _ k.1 in
      let n = then_went _ _ m.3 in
      let test = right vs a p v.0 v.1 l.0 low v.2 in
      let la = (types_keep test).lower low in
      let yes = right vs b v.1 m.0 m.1 l.1 la m.2 in
      let no = right vs c m.1 n.0 n.1 l.2 ((types_keep yes).lower la) n.2 in
      if i test k.0 yes no (made_added (spot f e) (Choice m.0 n.0) n.1 n.3)
  row_rules vs e p right low (Let a b) i w h =
      let l = two_parts e a b w in
      let v = then_went _ _ h in
      let first = right vs a p v.0 v.1 l.0 low v.2 in
      let_in i first (right (vs ++ (v.0 ∷ [])) b v.1 _ _ l.1 ((types_keep first).lower low) v.3)
  row_rules vs e p right low (For a b) i w h =
      let l = two_parts e a b w in
      let v = then_went _ _ h in
      let first = right vs a p v.0 v.1 l.0 low v.2 in
      for_each i first (loop_rules (spot f e) vs b v.0 v.1 right l.1 ((types_keep first).lower low) v.3)
  row_rules vs e p right low (Match a from long else) i w h =
      let l = and_parts (ltb a e) (ltb else e && arms_within from long (length g.arms)) w in
      let n = and_parts (ltb else e) (arms_within from long (length g.arms)) l.1 in
      let v = then_went _ _ h in
      let k = needing_went (spot f e) (is_item (row v.1.types v.0)) _ v.3 in
      let m = then_went _ _ k.1 in
      let subject = right vs a p v.0 v.1 (ltb-true a e l.0) low v.2 in
      let bodies = branch_rules (spot f e) vs v.0 else right (ltb-true else e n.0) (take long (drop from g.arms)) (law.arms_lower e a from long else i) [] v.1 m.0 m.1 ((types_keep subject).lower low) m.2 in
      let c = match_rules (spot f e) vs v.0 else (take long (drop from g.arms)) v.1 m.0 m.1 bodies m.3 in
      match_item {y = c.0} {ys = c.1} i subject k.0 c.2 c.3
  row_rules vs e p right low (Call n a) i w h = call_rules vs e n a p i right (ltb-true a e (and_parts (ltb n 32) (ltb a e) w).1) low (slice_get g.functions n) refl h
  row_rules vs e p right low (Add a b) i w h =
      let l = two_parts e a b w in
      let v = then_went _ _ h in
      let k = needing_went (spot f e) (is_integer (row v.1.types v.0)) _ v.3 in
      let m = then_went _ _ k.1 in
      let n = needing_went (spot f e) (is_integer (row m.1.types m.0)) _ m.3 in
      let first = right vs a p v.0 v.1 l.0 low v.2 in
      add i first k.0 (right vs b v.1 m.0 m.1 l.1 ((types_keep first).lower low) m.2) n.0 (made_added (spot f e) IntegerType m.1 n.1)
  row_rules vs e p right low (Equal a b) i w h =
      let l = two_parts e a b w in
      let v = then_went _ _ h in
      let k = needing_went (spot f e) (is_scalar (row v.1.types v.0)) _ v.3 in
      let m = then_went _ _ k.1 in
      let n = needing_went (spot f e) (overlaps (row m.1.types v.0) (row m.1.types m.0)) _ m.3 in
      let first = right vs a p v.0 v.1 l.0 low v.2 in
      equal i first k.0 (right vs b v.1 m.0 m.1 l.1 ((types_keep first).lower low) m.2) n.0 (made_added (spot f e) BooleanType m.1 n.1)
  row_rules vs e p right low (IsEmpty a) i w h =
      let v = then_went _ _ h in
      is_empty i (right vs a p v.0 v.1 (ltb-true a e w) low v.2) (made_added (spot f e) BooleanType v.1 v.3)
  row_rules vs e p right low (Count a) i w h =
      let v = then_went _ _ h in
      count i (right vs a p v.0 v.1 (ltb-true a e w) low v.2) (made_added (spot f e) IntegerType v.1 v.3)
  row_rules vs e p right low (Children a) i w h =
      let v = then_went _ _ h in
      let first = right vs a p v.0 v.1 (ltb-true a e w) low v.2 in
      children_rules vs e a p i first ((types_keep first).lower low) (content (row v.1.types v.0)) refl v.3
  row_rules vs e p right low (As a t) i w h =
      let v = then_went _ _ h in
      let first = right vs a p v.0 v.1 (ltb-true a e (and_parts (ltb a e) (ltb t 512) w).0) low v.2 in
      let k = fitting_went (spot f e) v.0 t v.1 _ v.3 in
      as_type i first k.0 (copy_rules (spot f e) t v.1 ((types_keep first).lower low) k.1)

  right_below : (n : ℕ) → RightBelow n
  right_below zero vs e p x q l low h = absurd (omega arith)
  right_below (suc n) vs e p x q l low h =
      row_rules vs e p (λ us a o y u m. right_below n us a o y u (omega arith)) low (expression_at g e) refl (law.fit e) (gives_along (sym (typed-unfolds law f vs e p)) h)

  -- what is typed is typed so by the rules
  pub gives_types : (vs : List ℕ) (e : ℕ) (p : Progress) {x : ℕ} {q : Progress} → PartsLower p.types → Gives (typed g f vs e p) (goes x q) → Types g vs e p x q
  gives_types vs e p {x} {q} low h = right_below (suc e) vs e p x q (omega arith) low h

  -- The executable typing and the typing rules agree.
  pub agreement : (vs : List ℕ) (e : ℕ) (p : Progress) {x : ℕ} {q : Progress} → PartsLower p.types → Gives (typed g f vs e p) (goes x q) ↔ Types g vs e p x q
  agreement vs e p low = (λ h. gives_types vs e p low h, λ t. types_give law f t low)

  -- a walk that types items goes by the rules too
  pub gives_walks : (s : Spot) (vs : List ℕ) (b r : ℕ) (p : Progress) {x : ℕ} {q : Progress} → PartsLower p.types
      → Gives (walk s (λ i o. typed g f (vs ++ (i ∷ [])) b o) p.types r p) (goes x q) → Walks g (typed_as vs b) p.types r p x q
  gives_walks s vs b r p low h = walk_rules s (typed_as vs b) low (λ i o y u e l k. item_typed e (gives_types (vs ++ (i ∷ [])) b o l k)) r p low h
