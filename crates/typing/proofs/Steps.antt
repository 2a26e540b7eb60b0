-- What comes of steps one after another.
use Rattle.std.proofs.Common.{◌≡◌, ℕ, ◌<◌, ◌≤◌, Bool, true, false, ◌⊎◌, List, [], ◌∷◌, ◌++◌, length, sym, refl, subst, inl, inr, arith}
use Rattle.std.proofs.lemmas.Bool.{cases_lt, lt-ltb, le-ltb}
use Rattle.forest.specs.declared.fault.Reason.TheVariants.{WrongKind, Unfit, TypesFull}
use Rattle.rows.specs.declared.type_row.TypeRow.{TypeRow}
use Rattle.types.specs.Belonging.{Subtype}
use Rattle.typing.specs.declared.fault.TypeFault.{TypeFault}
use Rattle.typing.specs.Faults.{type_fault}
use Rattle.typing.specs.Outcomes.{Progress, Demand, Holds, Ending, goes, stops, Outcome, given, stopped, after, then, Met, all_hold, holds, fails, Gives}
use Rattle.typing.specs.Typing.{Spot, made, needing, fitting}

-- ONE ANSWER

one_answer : {A : Type 0} {ds : List Demand} {e r s : Ending A} → Met ds e r → Met ds e s → r ≡ s
one_answer all_hold all_hold = refl
one_answer (holds y h) (holds z k) = one_answer h k
one_answer (holds y h) (fails n) = absurd (n y)
one_answer (fails n) (holds y h) = absurd (n y)
one_answer (fails n) (fails m) = refl

-- an outcome gives one thing
pub gives_one : {A : Type 0} {r s : Ending A} (o : Outcome A) → Gives o r → Gives o s → r ≡ s
gives_one o h k = one_answer h k

pub gives_given : {A : Type 0} {x : A} {p : Progress} {r : Ending A} → Gives (given x p) r → r ≡ goes x p
gives_given h = one_answer h all_hold

pub gives_stopped : {A : Type 0} {f : TypeFault} {r : Ending A} → Gives (stopped f) r → r ≡ stops f
gives_stopped h = one_answer h all_hold

-- equal outcomes give the same
pub gives_along : {A : Type 0} {o u : Outcome A} {r : Ending A} → o ≡ u → Gives u r → Gives o r
gives_along {r = r} e h = subst (λ w. Gives w r) (sym e) h

-- ONE STEP AND THEN ANOTHER

holds_before : {A B : Type 0} (d : Demand) (ds : List Demand) (e : Ending A) (k : A → Progress → Outcome B) {r : Ending B} → Holds d → Gives (after ds e k) r → Gives (after (d ∷ ds) e k) r
holds_before d ds (goes x p) k y h = holds y h
holds_before d ds (stops f) k y h = holds y h

fails_before : {A B : Type 0} (d : Demand) (ds : List Demand) (e : Ending A) (k : A → Progress → Outcome B) → (Holds d → ⊥) → Gives (after (d ∷ ds) e k) (stops d.refusal)
fails_before d ds (goes x p) k n = fails n
fails_before d ds (stops f) k n = fails n

after_goes : {A B : Type 0} {ds : List Demand} {e : Ending A} {x : A} {q : Progress} (k : A → Progress → Outcome B) {r : Ending B} → Met ds e (goes x q) → Gives (k x q) r → Gives (after ds e k) r
after_goes k all_hold g = g
after_goes k (holds {d} {ds} {e} y h) g = holds_before d ds e k y (after_goes k h g)

after_stops : {A B : Type 0} {ds : List Demand} {e : Ending A} {f : TypeFault} (k : A → Progress → Outcome B) → Met ds e (stops f) → Gives (after ds e k) (stops f)
after_stops k all_hold = all_hold
after_stops k (holds {d} {ds} {e} y h) = holds_before d ds e k y (after_stops k h)
after_stops k (fails {d} {ds} {e} n) = fails_before d ds e k n

-- what the first step gives goes into the second
pub then_goes : {A B : Type 0} {x : A} {q : Progress} {r : Ending B} (o : Outcome A) (k : A → Progress → Outcome B) → Gives o (goes x q) → Gives (k x q) r → Gives (then o k) r
then_goes o k h g = after_goes k h g

-- where the first step stops, both do
pub then_stops : {A B : Type 0} {f : TypeFault} (o : Outcome A) (k : A → Progress → Outcome B) → Gives o (stops f) → Gives (then o k) (stops f)
then_stops o k h = after_stops k h

-- Two steps give r: the second does, or the first stops so.
pub data Parted {A B : Type 0} (o : Outcome A) (k : A → Progress → Outcome B) (r : Ending B) : Type 0 where
  went_on : {x : A} {q : Progress} → Gives o (goes x q) → Gives (k x q) r → Parted o k r
  stopped_there : {f : TypeFault} → Gives o (stops f) → r ≡ stops f → Parted o k r

-- the same by demands and ending
data PartedBy {A B : Type 0} (ds : List Demand) (e : Ending A) (k : A → Progress → Outcome B) (r : Ending B) : Type 0 where
  by_going : {x : A} {q : Progress} → Met ds e (goes x q) → Gives (k x q) r → PartedBy ds e k r
  by_stopping : {f : TypeFault} → Met ds e (stops f) → r ≡ stops f → PartedBy ds e k r

-- what stops gives nothing else
stopping : {A B : Type 0} {ds : List Demand} {f : TypeFault} {r : Ending B} → Met ds (stops f) r → (u : TypeFault) × Met {A = A} ds (stops f) (stops u) × (r ≡ stops u)
stopping {f = f} all_hold = (f, all_hold, refl)
stopping {A} (holds y h) = let g = stopping {A = A} h in (g.0, holds y g.1, g.2)
stopping (fails {d} n) = (d.refusal, fails n, refl)

holds_too : {A B : Type 0} (d : Demand) {ds : List Demand} {e : Ending A} {k : A → Progress → Outcome B} {r : Ending B} → Holds d → PartedBy ds e k r → PartedBy (d ∷ ds) e k r
holds_too d y (by_going h g) = by_going (holds y h) g
holds_too d y (by_stopping h e) = by_stopping (holds y h) e

parted_going : {A B : Type 0} (ds : List Demand) (x : A) (q : Progress) (k : A → Progress → Outcome B) {r : Ending B} → Gives (after ds (goes x q) k) r → PartedBy ds (goes x q) k r
parted_going [] x q k h = by_going all_hold h
parted_going (d ∷ ds) x q k (holds y h) = holds_too d y (parted_going ds x q k h)
parted_going (d ∷ ds) x q k (fails n) = by_stopping (fails n) refl

parted_by : {A B : Type 0} (ds : List Demand) (e : Ending A) (k : A → Progress → Outcome B) {r : Ending B} → Gives (after ds e k) r → PartedBy ds e k r
parted_by ds (goes x q) k h = parted_going ds x q k h
parted_by {A} ds (stops f) k h = let g = stopping {A = A} h in by_stopping g.1 g.2

pub then_parted : {A B : Type 0} {r : Ending B} (o : Outcome A) (k : A → Progress → Outcome B) → Gives (then o k) r → Parted o k r
then_parted o k h = elim (parted_by o.demands o.ending k h) [ by_going g l ↦ went_on g l | by_stopping g e ↦ stopped_there g e ]

pub goes≢stops : {A : Type 0} {x : A} {q : Progress} {f : TypeFault} → goes x q ≡ stops f → ⊥
goes≢stops e = let z : ◌≡◌ {A = ℕ} 0 1 = cc in absurd (omega arith)

-- Two steps that do not stop.
pub then_went : {A B : Type 0} {y : B} {u : Progress} (o : Outcome A) (k : A → Progress → Outcome B) → Gives (then o k) (goes y u) → (x : A) × (q : Progress) × Gives o (goes x q) × Gives (k x q) (goes y u)
then_went o k h = elim (then_parted o k h) [ went_on {x} {q} g l ↦ (x, q, g, l) | stopped_there g e ↦ absurd (goes≢stops e) ]

-- NEEDING A KIND

pub needing_holds : {A : Type 0} {r : Ending A} (s : Spot) {b : Bool} (o : Outcome A) → b ≡ true → Gives o r → Gives (needing s b o) r
needing_holds {r = r} s o e h = subst (λ b. Gives (needing s b o) r) (sym e) h

pub needing_fails : {A : Type 0} (s : Spot) {b : Bool} (o : Outcome A) → b ≡ false → Gives (needing s b o) (stops (type_fault WrongKind s.at s.function))
needing_fails s o e = subst (λ b. Gives (needing s b o) (stops (type_fault WrongKind s.at s.function))) (sym e) all_hold

pub needing_parted : {A : Type 0} {r : Ending A} (s : Spot) (b : Bool) (o : Outcome A) → Gives (needing s b o) r → ((b ≡ true) × Gives o r) ⊎ ((b ≡ false) × (r ≡ stops (type_fault WrongKind s.at s.function)))
needing_parted s true o h = inl (refl, h)
needing_parted s false o h = inr (refl, gives_stopped h)

pub needing_went : {A : Type 0} {y : A} {u : Progress} (s : Spot) (b : Bool) (o : Outcome A) → Gives (needing s b o) (goes y u) → (b ≡ true) × Gives o (goes y u)
needing_went s b o h = elim (needing_parted s b o h) [ inl g ↦ g | inr g ↦ absurd (goes≢stops g.1) ]

-- FITTING A ROOT

pub fitting_holds : {A : Type 0} {r : Ending A} (s : Spot) (x root : ℕ) (p : Progress) (o : Outcome A) → Subtype p.types x root → Gives o r → Gives (fitting s x root p o) r
fitting_holds s x root p o y h = holds y h

pub fitting_fails : {A : Type 0} (s : Spot) (x root : ℕ) (p : Progress) (o : Outcome A) → (Subtype p.types x root → ⊥) → Gives (fitting s x root p o) (stops (type_fault Unfit s.at s.function))
fitting_fails s x root p o n = fails n

by_demand : {A : Type 0} {d : Demand} {ds : List Demand} {e r : Ending A} → Met (d ∷ ds) e r → (Holds d × Met ds e r) ⊎ ((Holds d → ⊥) × (r ≡ stops d.refusal))
by_demand (holds y h) = inl (y, h)
by_demand (fails n) = inr (n, refl)

pub fitting_parted : {A : Type 0} {r : Ending A} (s : Spot) (x root : ℕ) (p : Progress) (o : Outcome A) → Gives (fitting s x root p o) r
    → (Subtype p.types x root × Gives o r) ⊎ ((Subtype p.types x root → ⊥) × (r ≡ stops (type_fault Unfit s.at s.function)))
fitting_parted s x root p o h = by_demand h

pub fitting_went : {A : Type 0} {y : A} {u : Progress} (s : Spot) (x root : ℕ) (p : Progress) (o : Outcome A) → Gives (fitting s x root p o) (goes y u) → Subtype p.types x root × Gives o (goes y u)
fitting_went s x root p o h = elim (fitting_parted s x root p o h) [ inl g ↦ g | inr g ↦ absurd (goes≢stops g.1) ]

-- MAKING A ROW

-- the progress with one type row more
abbrev pub with_row : Progress → TypeRow → Progress
with_row p t = record { types = p.types ++ (t ∷ []); error = p.error }

pub made_gives : (s : Spot) (t : TypeRow) (p : Progress) → length p.types < 512 → Gives (made s t p) (goes (length p.types) (with_row p t))
made_gives s t p l = rw (lt-ltb (length p.types) 512 l) all_hold

pub made_full : (s : Spot) (t : TypeRow) (p : Progress) → 512 ≤ length p.types → Gives (made s t p) (stops (type_fault TypesFull s.at s.function))
made_full s t p l = rw (le-ltb (length p.types) 512 l) all_hold

pub made_parted : {r : Ending ℕ} (s : Spot) (t : TypeRow) (p : Progress) → Gives (made s t p) r
    → ((length p.types < 512) × (r ≡ goes (length p.types) (with_row p t))) ⊎ ((512 ≤ length p.types) × (r ≡ stops (type_fault TypesFull s.at s.function)))
made_parted s t p h = elim (cases_lt (length p.types) 512) [
  | inl l ↦ inl (l, gives_one (made s t p) h (made_gives s t p l))
  | inr l ↦ inr (l, gives_one (made s t p) h (made_full s t p l))
]

pub made_went : {x : ℕ} {q : Progress} (s : Spot) (t : TypeRow) (p : Progress) → Gives (made s t p) (goes x q) → (length p.types < 512) × (goes x q ≡ goes (length p.types) (with_row p t))
made_went s t p h = elim (made_parted s t p h) [ inl g ↦ g | inr g ↦ absurd (goes≢stops g.1) ]
