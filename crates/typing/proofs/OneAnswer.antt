-- The check has one answer: the tests before typing exclude each other, in order, and typing gives one thing.
use Rattle.std.proofs.Common.{◌≡◌, ℕ, List, length, Some, None, Ok, Err, refl, sym, ap, subst, inl, inr, arith}
use Rattle.std.proofs.lemmas.Bool.{cases_lt}
use Rattle.forest.specs.declared.fault.Reason.{Reason}
use Rattle.forest.specs.declared.fault.Reason.TheVariants.{NotSet, TypeMissing, Ambiguous}
use Rattle.rows.specs.declared.type_row.TypeRow.{TypeRow}
use Rattle.rows.specs.declared.function.Query.{Query}
use Rattle.rows.specs.Programs.{ProgramRows}
use Rattle.types.specs.Parts.{Root, Rooted}
use Rattle.types.specs.Asking.{OneWay, ContentsRooted}
use Rattle.types.specs.Tables.{FailsFirst}
use Rattle.typing.specs.declared.fault.TypeFault.{TypeFault}
use Rattle.typing.specs.declared.answer.QueryType.{QueryType}
use Rattle.typing.specs.Faults.{type_fault}
use Rattle.typing.specs.Outcomes.{Progress, Ending, Gives}
use Rattle.typing.specs.Checking.{HasBody, FunctionRooted, TargetRooted, Everywhere, LowestFailing, Ready, Unready, no_query, no_body, no_content, no_function_type, no_input_type, no_target_type, not_one_way, all_typed, declared, Checks}
use Rattle.typing.specs.OneAnswer.{OneAnswer}
use Rattle.typing.proofs.Steps.{gives_one, goes≢stops}

-- TESTS IN ORDER

-- A test: it does not both pass and refuse, and it refuses for one fault.
record Decides (Passes : Type 0) (Refuses : TypeFault → Type 0) : Type 0 where
  apart : (f : TypeFault) → Refuses f → Passes → ⊥
  one : (f h : TypeFault) → Refuses f → Refuses h → f ≡ h

-- a test refuses, or it passes and the next ones refuse
data Refused (Passes : Type 0) (Refuses Next : TypeFault → Type 0) (f : TypeFault) : Type 0 where
  here : Refuses f → Refused Passes Refuses Next f
  later : Passes → Next f → Refused Passes Refuses Next f

-- a test and the next ones are one test
in_order : {P Q : Type 0} {F G : TypeFault → Type 0} → Decides P F → Decides Q G → Decides (P × Q) (Refused P F G)
in_order {P} {Q} {F} {G} a b = record { apart = both_pass; one = both_refuse }
  where
    both_pass : (f : TypeFault) → Refused P F G f → P × Q → ⊥
    both_pass f (here r) p = a.apart f r p.0
    both_pass f (later h r) p = b.apart f r p.1

    both_refuse : (f h : TypeFault) → Refused P F G f → Refused P F G h → f ≡ h
    both_refuse f h (here r) (here s) = a.one f h r s
    both_refuse f h (here r) (later p s) = absurd (a.apart f r p)
    both_refuse f h (later p r) (here s) = absurd (a.apart h s p)
    both_refuse f h (later p r) (later k s) = b.one f h r s

-- THE TESTS

-- refused for the lowest of n numbers of which P does not hold
abbrev RefusedAt : Reason → ℕ → (ℕ → Type 0) → TypeFault → Type 0
RefusedAt why n P f = (r : ℕ) × LowestFailing n P r × (f ≡ type_fault why r None)

-- the lowest one is one number
lowest_once : {n r s : ℕ} {P : ℕ → Type 0} → LowestFailing n P r → LowestFailing n P s → r ≡ s
lowest_once {n} {r} {s} h k = elim (cases_lt r s) [
  | inl l ↦ absurd (h.fails (k.before r l))
  | inr l ↦ elim (cases_lt s r) [ inl m ↦ absurd (k.fails (h.before s m)) | inr m ↦ omega arith ]
]

everywhere_decides : (why : Reason) (n : ℕ) (P : ℕ → Type 0) → Decides (Everywhere n P) (RefusedAt why n P)
everywhere_decides why n P = record {
  apart = λ f r all. r.1.fails (all r.0 r.1.there);
  one = λ f h r s. let e = lowest_once r.1 s.1 in cc;
}

-- the first row of a table is the lowest of its numbers
first_lowest : {ts : List TypeRow} {P : ℕ → Type 0} {r : ℕ} → FailsFirst ts P r → LowestFailing (length ts) P r
first_lowest h = record { there = h.there; fails = h.fails; before = h.before }

module _ (ts : List TypeRow) (g : ProgramRows) where
  abbrev HasQuery : Type 0
  HasQuery = (q : Query) × (g.query ≡ Some q)

  abbrev NoQuery : TypeFault → Type 0
  NoQuery f = (g.query ≡ None) × (f ≡ type_fault NotSet 0 None)

  abbrev InputRooted : Type 0
  InputRooted = (q : Query) × (g.query ≡ Some q) × Root ts q.input

  abbrev InputNotRooted : TypeFault → Type 0
  InputNotRooted f = (q : Query) × (g.query ≡ Some q) × (Root ts q.input → ⊥) × (f ≡ type_fault TypeMissing 0 None)

  query_decides : Decides HasQuery NoQuery
  query_decides = record { apart = λ f r p. (let e = r.0 in let k = p.1 in cc); one = λ f h r s. (let e = r.1 in let k = s.1 in cc) }

  input_decides : Decides InputRooted InputNotRooted
  input_decides = record {
    apart = λ f r p. let e : p.0 ≡ r.0 = (let a = p.1 in let b = r.1 in cc) in r.2 (subst (λ q. Root ts q.input) e p.2);
    one = λ f h r s. (let e = r.3 in let k = s.3 in cc);
  }

  -- ALL TESTS, IN THE ORDER OF THE CHECK

  abbrev AllPass : Type 0
  AllPass = HasQuery × (Everywhere (length g.functions) (HasBody g) × (ContentsRooted ts × (Everywhere (length g.functions) (FunctionRooted ts g) × (InputRooted
      × (Everywhere (length g.expressions) (TargetRooted ts g) × Everywhere (length ts) (OneWay ts))))))

  abbrev FirstRefuses : TypeFault → Type 0
  FirstRefuses = Refused HasQuery NoQuery (Refused (Everywhere (length g.functions) (HasBody g)) (RefusedAt NotSet (length g.functions) (HasBody g))
      (Refused (ContentsRooted ts) (RefusedAt TypeMissing (length ts) (Rooted ts)) (Refused (Everywhere (length g.functions) (FunctionRooted ts g)) (RefusedAt TypeMissing (length g.functions) (FunctionRooted ts g))
      (Refused InputRooted InputNotRooted (Refused (Everywhere (length g.expressions) (TargetRooted ts g)) (RefusedAt TypeMissing (length g.expressions) (TargetRooted ts g))
      (RefusedAt Ambiguous (length ts) (OneWay ts)))))))

  all_decide : Decides AllPass FirstRefuses
  all_decide = in_order query_decides (in_order (everywhere_decides NotSet _ (HasBody g)) (in_order (everywhere_decides TypeMissing _ (Rooted ts))
      (in_order (everywhere_decides TypeMissing _ (FunctionRooted ts g)) (in_order input_decides (in_order (everywhere_decides TypeMissing _ (TargetRooted ts g)) (everywhere_decides Ambiguous _ (OneWay ts)))))))

  ready_passes : {q : Query} → Ready ts g q → AllPass
  ready_passes {q} r = ((q, r.query), (r.bodies, (r.contents, (r.functions, ((q, r.query, r.input), (r.targets, r.one_way))))))

  unready_refuses : (f : TypeFault) → Unready ts g f → FirstRefuses f
  unready_refuses f (no_query e) = here (e, refl)
  unready_refuses f (no_body {q} {n} e l) = later (q, e) (here (n, l, refl))
  unready_refuses f (no_content {q} {n} e b l) = later (q, e) (later b (here (n, first_lowest l, refl)))
  unready_refuses f (no_function_type {q} {n} e b c l) = later (q, e) (later b (later c (here (n, l, refl))))
  unready_refuses f (no_input_type {q} e b c t r) = later (q, e) (later b (later c (later t (here (q, e, r, refl)))))
  unready_refuses f (no_target_type {q} {e = n} e b c t i l) = later (q, e) (later b (later c (later t (later (q, e, i) (here (n, l, refl))))))
  unready_refuses f (not_one_way {q} {n} e b c t i a l) = later (q, e) (later b (later c (later t (later (q, e, i) (later a (n, first_lowest l, refl))))))

-- What can be typed is not refused before typing.
pub ready_or_refused : {ts : List TypeRow} {g : ProgramRows} {q : Query} {f : TypeFault} → Ready ts g q → Unready ts g f → ⊥
ready_or_refused {ts} {g} {q} {f} r u = (all_decide ts g).apart f (unready_refuses ts g f u) (ready_passes ts g r)

-- Before typing there is one refusal.
pub refused_once : {ts : List TypeRow} {g : ProgramRows} {f h : TypeFault} → Unready ts g f → Unready ts g h → f ≡ h
refused_once {ts} {g} {f} {h} u v = (all_decide ts g).one f h (unready_refuses ts g f u) (unready_refuses ts g h v)

-- A program has one query.
query_once : {ts : List TypeRow} {g : ProgramRows} {q k : Query} → Ready ts g q → Ready ts g k → q ≡ k
query_once r s = let e = r.query in let h = s.query in cc

-- THE CHECK

-- typing all, with the query of the one and of the other, comes to one ending
typed_once : {ts : List TypeRow} {g : ProgramRows} {q k : Query} {x y : Ending ℕ} → Ready ts g q → Ready ts g k → Gives (all_typed g q (declared ts)) x → Gives (all_typed g k (declared ts)) y → x ≡ y
typed_once {ts} {g} {q} {k} {x} {y} r s h l = gives_one (all_typed g q (declared ts)) h (subst (λ w. Gives (all_typed g w (declared ts)) y) (sym (query_once r s)) l)

same_answer : {a b : QueryType} → a.row ≡ b.row → a.made ≡ b.made → a.error ≡ b.error → a ≡ b
same_answer r m e = λ i. record { row = r i; made = m i; error = e i }

accepted_once : {ts us vs : List TypeRow} {g : ProgramRows} (a b : QueryType) → Checks ts g (Ok a) us → Checks ts g (Ok b) vs → (a ≡ b) × (us ≡ vs)
accepted_once {ts} {us} {vs} a b c d =
    let e = typed_once c.1 d.1 c.2 d.2 in
    let r : a.row ≡ b.row = cc in
    let p : ◌≡◌ {A = Progress} (record { types = us; error = a.error }) (record { types = vs; error = b.error }) = cc in
    let t : us ≡ vs = ap (λ o. o.types) p in
    let n : a.made ≡ b.made = (let l = ap length t in let m = c.3 in let k = d.3 in omega arith) in
    (same_answer r n (ap (λ o. o.error) p), t)

-- what is accepted is not refused
accepted_or_refused : {ts us vs : List TypeRow} {g : ProgramRows} (a : QueryType) {f : TypeFault} → Checks ts g (Ok a) us → Checks ts g (Err f) vs → ⊥
accepted_or_refused a c d = elim d.0 [ inl u ↦ ready_or_refused c.1 u | inr s ↦ goes≢stops (typed_once c.1 s.1 c.2 s.2) ]

fault_once : {ts us vs : List TypeRow} {g : ProgramRows} {f h : TypeFault} → Checks ts g (Err f) us → Checks ts g (Err h) vs → f ≡ h
fault_once c d = elim c.0 [
  | inl u ↦ elim d.0 [ inl v ↦ refused_once u v | inr s ↦ absurd (ready_or_refused s.1 u) ]
  | inr r ↦ elim d.0 [ inl v ↦ absurd (ready_or_refused r.1 v) | inr s ↦ (let e = typed_once r.1 s.1 r.2 s.2 in cc) ]
]

pub checked_once : OneAnswer
checked_once ts us vs g (Ok a) (Ok b) c d = let e = accepted_once a b c d in (ap Ok e.0, e.1)
checked_once ts us vs g (Ok a) (Err f) c d = absurd (accepted_or_refused a c d)
checked_once ts us vs g (Err f) (Ok b) c d = absurd (accepted_or_refused b d c)
checked_once ts us vs g (Err f) (Err h) c d = let e = fault_once c d in let k = c.1 in let l = d.1 in (cc, cc)
