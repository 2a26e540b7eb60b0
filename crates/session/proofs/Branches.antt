-- How the arms of a match are gone through, one after another.
use Rattle.std.proofs.Common.{◌≡◌, ℕ, zero, suc, ◌+◌, ◌-◌, ◌<◌, ◌≤◌, Bool, true, ◌&&◌, eqb, ltb, List, [], ◌∷◌, ◌++◌, length, get_or, take, drop, Option, Ok, Err, Result, sym, refl, ap, ◌∙◌, subst, append_assoc, arith, leb-true, eqb-true}
use Rattle.std.proofs.lemmas.List.{take_rest, length-take, length-drop}
use Rattle.std.proofs.lemmas.List.Elements.{All-take, All-drop}
use Rattle.std.proofs.lemmas.List.Sums.{AllPass-from_list_all, list_all-from_AllPass}
use Rattle.std.proofs.lemmas.Bool.{and_parts, and_from, cond-false, ne_eqb}
use Rattle.std.proofs.Common.{ltb-true}
use Rattle.rows.specs.declared.type_row.TypeRow.{TypeRow}
use Rattle.rows.specs.declared.arm.Arm.{Arm}
use Rattle.rows.specs.declared.arm.Pattern.{Pattern}
use Rattle.rows.specs.declared.arm.Pattern.TheVariants.{Integer}
use Rattle.rows.specs.Programs.{ProgramRows}
use Rattle.rows.specs.Arms.{pattern_fits}
use Rattle.rows.specs.Expressions.{arms_within, within}
use Rattle.types.specs.Parts.{row}
use Rattle.typing.specs.declared.fault.TypeFault.{TypeFault}
use Rattle.typing.specs.Programs.{Orderly}
use Rattle.typing.specs.Kinds.{Taking, takes, passes, may_take, taking, narrowed}
use Rattle.typing.specs.Outcomes.{Progress, Outcome, Ending, goes, stops, all_hold, Gives}
use Rattle.typing.specs.Rules.{Added}
use Rattle.typing.specs.Typing.{Spot, made, typed, branch, branches}
use Rattle.typing.proofs.Steps.{then_goes, then_stops, made_went}
use Rattle.typing.proofs.GrowthMade.{may_be, suits_narrowed}
use Rattle.typing.proofs.GrowthSteps.{added, kept_none}
use Rattle.session.specs.declared.counts.Counts.{Counts}
use Rattle.session.specs.declared.checking.scope.State.{State}
use Rattle.session.specs.declared.checking.spot.Spot.{Spot as SpotHere}
use Rattle.session.specs.Rules.{bodies_below, patterns_fit}
use Rattle.session.specs.Progress.{spot_of, table_of, Grows, Makes}
use Rattle.session.specs.Typings.{Standing, Typing, Adds, Joins, now, spot_at}
use Rattle.session.proofs.Typings.{Onward, onward, start_of}

-- the first arm and the others
abbrev pub first_of : List Arm → Arm
first_of xs = get_or xs 0 (record { pattern = Integer; body = 0 })

abbrev pub others_of : List Arm → List Arm
others_of xs = take (length xs - 1) (drop 1 xs)

two_parts : (xs : List Arm) → 1 ≤ length xs → xs ≡ first_of xs ∷ drop 1 xs
two_parts [] l = absurd (omega arith)
two_parts (x ∷ xs) l = refl

pub split_arms : (xs : List Arm) → 1 ≤ length xs → xs ≡ first_of xs ∷ others_of xs
split_arms xs l = two_parts xs l ∙ ap (λ ys. first_of xs ∷ ys) (sym (take_rest xs 1))

pub no_arms : (xs : List Arm) → length xs < 1 → xs ≡ []
no_arms [] l = refl
no_arms (x ∷ xs) l = absurd (omega arith)

pub others_length : (xs : List Arm) → 1 ≤ length xs → length xs ≡ length (others_of xs) + 1
others_length xs l = let e = ap (λ (ys : List Arm). length ys) (split_arms xs l) in omega arith

pub first_body : (e : ℕ) (xs : List Arm) → 1 ≤ length xs → bodies_below e xs ≡ true → (first_of xs).body < e
first_body e xs l law = ltb-true (first_of xs).body e (and_parts (ltb (first_of xs).body e) (bodies_below e (others_of xs)) (ap (bodies_below e) (sym (split_arms xs l)) ∙ law)).0

pub other_bodies : (e : ℕ) (xs : List Arm) → 1 ≤ length xs → bodies_below e xs ≡ true → bodies_below e (others_of xs) ≡ true
other_bodies e xs l law = (and_parts (ltb (first_of xs).body e) (bodies_below e (others_of xs)) (ap (bodies_below e) (sym (split_arms xs l)) ∙ law)).1

pub first_fits : (xs : List Arm) → 1 ≤ length xs → patterns_fit xs ≡ true → pattern_fits (first_of xs).pattern ≡ true
first_fits xs l law = (and_parts (pattern_fits (first_of xs).pattern) (patterns_fit (others_of xs)) (ap patterns_fit (sym (split_arms xs l)) ∙ law)).0

pub others_fit : (xs : List Arm) → 1 ≤ length xs → patterns_fit xs ≡ true → patterns_fit (others_of xs) ≡ true
others_fit xs l law = (and_parts (pattern_fits (first_of xs).pattern) (patterns_fit (others_of xs)) (ap patterns_fit (sym (split_arms xs l)) ∙ law)).1

pub named_fit : {g : ProgramRows} (from count : ℕ) → Orderly g → patterns_fit (take count (drop from g.arms)) ≡ true
named_fit {g} from count law =
    let P = λ (x : Arm). pattern_fits x.pattern ≡ true in
    list_all-from_AllPass (λ x. pattern_fits x.pattern) (take count (drop from g.arms)) (All-take P count (drop from g.arms) (All-drop P from g.arms (AllPass-from_list_all (λ x. pattern_fits x.pattern) g.arms law.arms_fit)))

pub arms_there : (from count n : ℕ) → arms_within from count n ≡ true → from + count ≤ n
arms_there from zero n h = let e = eqb-true from 0 h in omega arith
arms_there from (suc k) n h = leb-true (from + suc k) n (sym (cond-false (eqb (suc k) 0) (eqb from 0) (within from (suc k) n) (ne_eqb (suc k) 0 (λ e. omega arith))) ∙ h)

-- how an arm stands to the subject, as it was told
pub taking_at : (p : Pattern) {named told : List ℕ} {w v : TypeRow} {k : Taking} → told ≡ named → k ≡ taking told w p → v ≡ w → taking named v p ≡ k
taking_at p {named} {told} {w} {v} e is same = ap (λ (xs : List ℕ). taking xs v p) (sym e) ∙ ap (λ (z : TypeRow). taking told z p) same ∙ sym is

-- BRANCHES

module _ (g : ProgramRows) (f : Option ℕ) (vs : List ℕ) (e x else : ℕ) where
  abbrev pub branched : List Arm → List ℕ → Progress → Outcome (List ℕ)
  branched arms named p = branches (spot_at f e) (typed g f) vs x else arms named p

  pub none_left : {arms : List Arm} (named : List ℕ) {p q : Progress} {b : ℕ} → arms ≡ [] → Typing g f vs else p (Ok b) q → Gives (branched arms named p) (goes (b ∷ []) q)
  none_left named {p} {q} {b} is t = subst (λ (z : List Arm). Gives (branched z named p) (goes (b ∷ []) q)) (sym is) (then_goes (typed g f vs else p) _ t.gives all_hold)

  pub none_left_not : {arms : List Arm} (named : List ℕ) {p q : Progress} {t : TypeFault} → arms ≡ [] → Typing g f vs else p (Err t) q → Gives (branched arms named p) (stops t)
  none_left_not named {p} {q} {t} is y = subst (λ (z : List Arm). Gives (branched z named p) (stops t)) (sym is) (then_stops (typed g f vs else p) _ y.gives)

  by_arm : {arms later : List Arm} {arm : Arm} (named : List ℕ) (p : Progress) {k : Taking} {r : Ending (List ℕ)} → arms ≡ arm ∷ later → taking named (row p.types x) arm.pattern ≡ k
      → Gives (branch (spot_at f e) (typed g f) vs x named arm.body (branched later) k p) r → Gives (branched arms named p) r
  by_arm {later = later} {arm} named p {k} {r} is told h =
      subst (λ (z : List Arm). Gives (branched z named p) r) (sym is) (subst (λ (z : Taking). Gives (branch (spot_at f e) (typed g f) vs x named arm.body (branched later) z p) r) (sym told) h)

  pub taken : {arms later : List Arm} {arm : Arm} (named : List ℕ) {p q : Progress} {b : ℕ} → arms ≡ arm ∷ later → taking named (row p.types x) arm.pattern ≡ takes → Typing g f (vs ++ (x ∷ [])) arm.body p (Ok b) q
      → Gives (branched arms named p) (goes (b ∷ []) q)
  taken {arm = arm} named {p} is told t = by_arm named p is told (then_goes (typed g f (vs ++ (x ∷ [])) arm.body p) _ t.gives all_hold)

  pub taken_not : {arms later : List Arm} {arm : Arm} (named : List ℕ) {p q : Progress} {t : TypeFault} → arms ≡ arm ∷ later → taking named (row p.types x) arm.pattern ≡ takes → Typing g f (vs ++ (x ∷ [])) arm.body p (Err t) q
      → Gives (branched arms named p) (stops t)
  taken_not {arm = arm} named {p} is told t = by_arm named p is told (then_stops (typed g f (vs ++ (x ∷ [])) arm.body p) _ t.gives)

  pub passed : {arms later : List Arm} {arm : Arm} (named : List ℕ) (p : Progress) (result : Result (Unit {0}) TypeFault) (old new : List ℕ) (q : Progress) → arms ≡ arm ∷ later → taking named (row p.types x) arm.pattern ≡ passes
      → Adds (branched later named p) result old new q → Adds (branched arms named p) result old new q
  passed named p (Ok u) old new q is told (bs, h, i) = (bs, by_arm named p is told h, i)
  passed named p (Err t) old new q is told h = by_arm named p is told h

  module _ {arms later : List Arm} {arm : Arm} (named : List ℕ) (p : Progress) {t : ℕ} (is : arms ≡ arm ∷ later) (told : taking named (row p.types x) arm.pattern ≡ may_take t) where
    pub may_not_made : {y : TypeFault} → Gives (made (spot_at f e) (narrowed t (row p.types x)) p) (stops y) → Gives (branched arms named p) (stops y)
    may_not_made h = by_arm named p is told (then_stops _ _ h)

    pub may_not_typed : {v : ℕ} {q o : Progress} {y : TypeFault} → Gives (made (spot_at f e) (narrowed t (row p.types x)) p) (goes v q) → Typing g f (vs ++ (v ∷ [])) arm.body q (Err y) o → Gives (branched arms named p) (stops y)
    may_not_typed h k = by_arm named p is told (then_goes _ _ h (then_stops _ _ k.gives))

    pub may_adds : {v b : ℕ} {q o : Progress} (u : Progress) (result : Result (Unit {0}) TypeFault) (old : List ℕ) {mid : List ℕ} (new : List ℕ) → Gives (made (spot_at f e) (narrowed t (row p.types x)) p) (goes v q) → Typing g f (vs ++ (v ∷ [])) arm.body q (Ok b) o
        → mid ≡ old ++ (b ∷ []) → Adds (branched later (t ∷ named) o) result mid new u → Adds (branched arms named p) result old new u
    may_adds {b = b} u (Ok z) old new h k m (bs, j, i) = (b ∷ bs, by_arm named p is told (then_goes _ _ h (then_goes _ _ k.gives (then_goes _ _ j all_hold))), i ∙ ap (λ (xs : List ℕ). xs ++ bs) m ∙ append_assoc old (b ∷ []) bs)
    may_adds u (Err y) old new h k m j = by_arm named p is told (then_goes _ _ h (then_goes _ _ k.gives (then_stops _ _ j)))

pub adds_err : (o : Outcome (List ℕ)) {result : Result (Unit {0}) TypeFault} {t : TypeFault} (old new : List ℕ) (q : Progress) → result ≡ Err t → Gives o (stops t) → Adds o result old new q
adds_err o old new q e h = subst (λ z. Adds o z old new q) (sym e) h

-- the variables are as they were, and a tag more is named
pub adds_at : (g : ProgramRows) (f : Option ℕ) {vs us : List ℕ} (e x else : ℕ) (arms : List Arm) {named more : List ℕ} (p : Progress) (result : Result (Unit {0}) TypeFault) (old new : List ℕ) (q : Progress) → us ≡ vs → more ≡ named
    → Adds (branches (spot_at f e) (typed g f) us x else arms more p) result old new q → Adds (branches (spot_at f e) (typed g f) vs x else arms named p) result old new q
adds_at g f {vs} {us} e x else arms {named} {more} p result old new q is same h =
    subst (λ (z : List ℕ). Adds (branches (spot_at f e) (typed g f) z x else arms named p) result old new q) is (subst (λ (z : List ℕ). Adds (branches (spot_at f e) (typed g f) us x else arms z p) result old new q) same h)

-- A ROW FOR THE ELEMENTS OF ONE TAG

made_added : {x : ℕ} {q : Progress} (s : Spot) (t : TypeRow) (p : Progress) → Gives (made s t p) (goes x q) → Added t p x q
made_added {x} {q} s t p h =
    let w = made_went s t p h in
    let e = w.1 in
    record { room = w.0; place = cc; table = cc }

pub narrowed_on : {g : ProgramRows} {spot : SpotHere} {rows after : List TypeRow} {c d : Counts} {s : State} {w : TypeRow} (named : List ℕ) (a : Pattern) (x t v : ℕ) → Standing g rows c s → length after ≡ 512 → Grows rows c after d
    → taking named (row (table_of rows c) x) a ≡ may_take t → pattern_fits a ≡ true → w ≡ narrowed t (row (table_of rows c) x) → Makes spot w rows c (Ok v) after d → Onward g rows c after d s v
narrowed_on {g} {spot} {rows} {after} {c} {d} {s} {w} named a x t v h long grows told fits is m =
    let ts = table_of rows c in
    let b = may_be named (row ts x) a told fits in
    let start = start_of h in
    let suits = suits_narrowed x {t = t} h.typable.checked b.0 b.2 in
    let add = made_added (spot_of spot) (narrowed t (row ts x)) (now rows c s) (subst (λ z. Gives (made (spot_of spot) z (now rows c s)) (goes v (now after d s))) is (m.gives s.error)) in
    onward h long (record { grows = grows; variables = refl }) (added start (kept_none start) suits add)

pub makes_as : {spot : SpotHere} {rows after : List TypeRow} {c d : Counts} {w z : TypeRow} {result : Result ℕ TypeFault} → w ≡ z → Makes spot w rows c result after d → Makes spot z rows c result after d
makes_as {spot} {rows} {after} {c} {d} {result = result} is m = subst (λ t. Makes spot t rows c result after d) is m

-- MATCHES

pub match_low : (a b e : ℕ) (x : Bool) → (ltb a e && (ltb b e && x)) ≡ true → (ltb a e && ltb b e) ≡ true
match_low a b e x h = let p = and_parts (ltb a e) (ltb b e && x) h in and_from (ltb a e) (ltb b e) p.0 (and_parts (ltb b e) x p.1).0

pub match_last : (a b e : ℕ) (x : Bool) → (ltb a e && (ltb b e && x)) ≡ true → x ≡ true
match_last a b e x h = (and_parts (ltb b e) x (and_parts (ltb a e) (ltb b e && x) h).1).1

pub few_named : (xs : List Arm) (from count : ℕ) → length (take count (drop from xs)) ≤ length xs
few_named xs from count = omega (arith, length-take count (drop from xs), length-drop from xs)

-- with the arms that a match names, none of them gone through
pub adds_arms : (g : ProgramRows) (f : Option ℕ) {vs us : List ℕ} (e x else : ℕ) {arms given : List Arm} {named : List ℕ} (p : Progress) (result : Result (Unit {0}) TypeFault) (old new : List ℕ) (q : Progress) → us ≡ vs → named ≡ [] → given ≡ arms
    → Adds (branches (spot_at f e) (typed g f) us x else given named p) result old new q → Adds (branches (spot_at f e) (typed g f) vs x else arms [] p) result old new q
adds_arms g f {vs} {us} e x else {arms} {given} {named} p result old new q is none same h =
    adds_at g f e x else arms p result old new q is none (subst (λ (z : List Arm). Adds (branches (spot_at f e) (typed g f) us x else z named p) result old new q) same h)

pub joins_as : {spot : SpotHere} {xs ys : List ℕ} {rows after : List TypeRow} {c d : Counts} {result : Result ℕ TypeFault} → xs ≡ ys → Joins spot xs rows c result after d → Joins spot ys rows c result after d
joins_as {spot} {rows = rows} {after} {c} {d} {result} is m = subst (λ z. Joins spot z rows c result after d) is m
