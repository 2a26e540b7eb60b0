-- How the typing of functions goes on, one by one.
use Rattle.std.proofs.Common.{◌≡◌, ℕ, suc, ◌+◌, ◌<◌, ◌≤◌, true, ltb, List, [], ◌∷◌, ◌++◌, length, get_or, drop, drop-cons, add-one, Some, None, Option, Ok, Err, Result, sym, refl, ap, ◌∙◌, subst, inl, inr, ltb-true}
use Rattle.std.specs.Prelude.{slice_get, OnOk}
use Rattle.std.proofs.lemmas.Bool.{and_parts}
use Rattle.std.proofs.lemmas.Option.{slice_get_within, slice_get-get_or, get_or_from_slice_get}
use Rattle.std.proofs.lemmas.List.{drop_all}
use Rattle.std.proofs.lemmas.List.Elements.{All-get_or}
use Rattle.std.proofs.lemmas.List.Sums.{AllPass-from_list_all}
use Rattle.rows.specs.declared.type_row.TypeRow.{TypeRow}
use Rattle.rows.specs.declared.function.Function.{Function}
use Rattle.rows.specs.declared.function.Query.{Query}
use Rattle.rows.specs.Functions.{function_fits, query_fits}
use Rattle.rows.specs.Programs.{ProgramRows}
use Rattle.typing.specs.declared.fault.TypeFault.{TypeFault}
use Rattle.typing.specs.Outcomes.{Progress, Outcome, Ending, given, goes, stops, all_hold, Gives, ending_of}
use Rattle.typing.specs.Typing.{typed, fitting}
use Rattle.typing.specs.Checking.{function_typed, functions_typed, all_typed}
use Rattle.typing.proofs.Steps.{gives_given, then_goes, then_stops, then_went, then_parted, went_on, stopped_there, fitting_holds, fitting_fails, fitting_parted, fitting_went, goes≢stops}
use Rattle.session.specs.declared.counts.Counts.{Counts}
use Rattle.session.specs.declared.checking.scope.State.{State}
use Rattle.session.specs.Progress.{Fits}
use Rattle.session.specs.Typings.{Stays, Typing, Gave, spot_at}
use Rattle.session.specs.FunctionsTyped.{FunctionsGave}
use Rattle.session.specs.Rules.{function_right, body_there, functions_lawful, query_lawful}
use Rattle.session.proofs.Making.{stays}

-- a body that is set is there
pub body_low : (n : ℕ) (fs : List Function) (i b : ℕ) (f : Function) → functions_lawful n fs ≡ true → slice_get fs i ≡ Some f → f.body ≡ Some b → b < n
body_low n fs i b f law is set =
    let at : function_right n (get_or fs i f) ≡ true = All-get_or (λ x. function_right n x ≡ true) fs i f (slice_get_within fs i f is) (AllPass-from_list_all (function_right n) fs law) in
    let fits : function_right n f ≡ true = subst (λ x. function_right n x ≡ true) (get_or_from_slice_get fs i f f is) at in
    let there = (and_parts (function_fits f) (body_there n f.body) fits).1 in
    ltb-true b n (ap (body_there n) (sym set) ∙ there)

-- one variable, where there was none
pub sole : {vs : List ℕ} (x : ℕ) → vs ≡ [] → vs ++ (x ∷ []) ≡ x ∷ []
sole x e = ap (λ vs. vs ++ (x ∷ [])) e

-- ONE FUNCTION

module _ {g : ProgramRows} {n : ℕ} {f : Function} {p : Progress} where
  pub without_body : f.body ≡ None → FunctionsGave g n (f ∷ []) p (Ok tt) p
  without_body e = record { gives = subst (λ b. Gives (function_typed g n f b (functions_typed g (n + 1) []) p) (goes tt p)) (sym e) all_hold }

  module _ {b : ℕ} (set : f.body ≡ Some b) where
    by_body : {result : Result (Unit {0}) TypeFault} {q : Progress} → Gives (function_typed g n f (Some b) (functions_typed g (n + 1) []) p) (ending_of result q) → FunctionsGave g n (f ∷ []) p result q
    by_body {result} {q} h = record { gives = subst (λ z. Gives (function_typed g n f z (functions_typed g (n + 1) []) p) (ending_of result q)) (sym set) h }

    pub body_stops : {t : TypeFault} {q : Progress} → Typing g (Some n) (f.parameter ∷ []) b p (Err t) q → FunctionsGave g n (f ∷ []) p (Err t) q
    body_stops {t} {q} h = by_body {result = Err t} {q = q} (then_stops (typed g (Some n) (f.parameter ∷ []) b p) _ h.gives)

    pub body_fits : {x : ℕ} {q : Progress} → Typing g (Some n) (f.parameter ∷ []) b p (Ok x) q → (result : Result (Unit {0}) TypeFault) → Fits (record { at = b; function = Some n }) q.types x f.result result → FunctionsGave g n (f ∷ []) p result q
    body_fits {x} {q} h (Ok u) fits = by_body {result = Ok u} {q = q} (then_goes (typed g (Some n) (f.parameter ∷ []) b p) _ h.gives (fitting_holds (spot_at (Some n) b) x f.result q _ fits all_hold))
    body_fits {x} {q} h (Err t) fits =
        by_body {result = Err t} {q = q} (then_goes (typed g (Some n) (f.parameter ∷ []) b p) _ h.gives
        (subst (λ z. Gives (fitting (spot_at (Some n) b) x f.result q (given tt q)) (stops z)) (sym fits.1) (fitting_fails (spot_at (Some n) b) x f.result q (given tt q) fits.0)))

-- THE NEXT

go_on : (g : ProgramRows) (n : ℕ) (f : Function) (b : Option ℕ) (rest : Progress → Outcome (Unit {0})) (p q : Progress) (r : Ending (Unit {0}))
    → Gives (function_typed g n f b (λ o. given tt o) p) (goes tt q) → Gives (rest q) r → Gives (function_typed g n f b rest p) r
go_on g n f None rest p q r h k = let e = gives_given h in let same : p ≡ q = cc in subst (λ o. Gives (rest o) r) (sym same) k
go_on g n f (Some b) rest p q r h k =
    let v = then_went (typed g (Some n) (f.parameter ∷ []) b p) _ h in
    let w = fitting_went _ v.0 f.result v.1 _ v.3 in
    let e = gives_given w.1 in
    let same : v.1 ≡ q = cc in
    then_goes (typed g (Some n) (f.parameter ∷ []) b p) _ v.2 (fitting_holds _ v.0 f.result v.1 _ w.0 (subst (λ o. Gives (rest o) r) (sym same) k))

stop_on : (g : ProgramRows) (n : ℕ) (f : Function) (b : Option ℕ) (rest : Progress → Outcome (Unit {0})) (p : Progress) (t : TypeFault)
    → Gives (function_typed g n f b (λ o. given tt o) p) (stops t) → Gives (function_typed g n f b rest p) (stops t)
stop_on g n f None rest p t h = absurd (goes≢stops (sym (gives_given h)))
stop_on g n f (Some b) rest p t h =
    let o = typed g (Some n) (f.parameter ∷ []) b p in
    elim (then_parted o _ h) [
      | went_on {x} {q} k l ↦ elim (fitting_parted (spot_at (Some n) b) x f.result q (given tt q) l) [
        | inl m ↦ absurd (goes≢stops (sym (gives_given m.1)))
        | inr m ↦ then_goes o _ k (subst (λ z. Gives (fitting (spot_at (Some n) b) x f.result q (rest q)) z) (sym m.1) (fitting_fails (spot_at (Some n) b) x f.result q (rest q) m.0))
      ]
      | stopped_there {f = u} k e ↦ subst (λ z. Gives (function_typed g n f (Some b) rest p) z) (sym e) (then_stops o _ k)
    ]

module _ {g : ProgramRows} {n : ℕ} {f : Function} {p : Progress} where
  pub next_function : {fs : List Function} {q u : Progress} {result : Result (Unit {0}) TypeFault} → FunctionsGave g n (f ∷ []) p (Ok tt) q → FunctionsGave g (n + 1) fs q result u → FunctionsGave g n (f ∷ fs) p result u
  next_function {fs} {q} {u} {result} h k = record { gives = go_on g n f f.body (functions_typed g (n + 1) fs) p q (ending_of result u) h.gives k.gives }

  pub stopped_function : {fs : List Function} {q u : Progress} {t : TypeFault} → FunctionsGave g n (f ∷ []) p (Err t) q → FunctionsGave g n (f ∷ fs) p (Err t) u
  stopped_function {fs} {t = t} h = record { gives = stop_on g n f f.body (functions_typed g (n + 1) fs) p t h.gives }

-- ALL FUNCTIONS

pub read_at : (fs xs : List Function) (i : ℕ) (d : Function) → xs ≡ fs → i < length xs → slice_get fs i ≡ Some (get_or xs i d)
read_at fs xs i d e lt = ap (λ z. slice_get z i) (sym e) ∙ slice_get-get_or xs i d lt

-- The functions below n have been typed: what is made of those from n on is made of all.
pub record Leads (g : ProgramRows) (n : ℕ) (fs : List Function) (p q : Progress) : Type 0 where
  pub gives : (result : Result (Unit {0}) TypeFault) (u : Progress) → FunctionsGave g n (drop n fs) q result u → FunctionsGave g 0 fs p result u

pub leads_start : (g : ProgramRows) (fs : List Function) (p : Progress) → Leads g 0 fs p p
leads_start g fs p = record { gives = λ result u h. h }

there : (n : ℕ) (fs : List Function) (f : Function) → slice_get fs n ≡ Some f → drop n fs ≡ f ∷ drop (n + 1) fs
there n fs f is = rw add-one (drop-cons fs n f (slice_get_within fs n f is) ∙ ap (λ x. x ∷ drop (suc n) fs) (get_or_from_slice_get fs n f f is))

module _ {g : ProgramRows} {n : ℕ} {fs : List Function} {p q : Progress} (leads : Leads g n fs p q) where
  pub leads_end : length fs ≤ n → FunctionsGave g 0 fs p (Ok tt) q
  leads_end le = leads.gives (Ok tt) q (subst (λ z. FunctionsGave g n z q (Ok tt) q) (sym (drop_all n fs le)) (record { gives = all_hold }))

  module _ {f : Function} (is : slice_get fs n ≡ Some f) where
    pub leads_on : {o : Progress} → FunctionsGave g n (f ∷ []) q (Ok tt) o → Leads g (n + 1) fs p o
    leads_on {o} h = record { gives = λ result u k. leads.gives result u (subst (λ z. FunctionsGave g n z q result u) (sym (there n fs f is)) (next_function h k)) }

    pub leads_stop : {t : TypeFault} {o : Progress} → FunctionsGave g n (f ∷ []) q (Err t) o → FunctionsGave g 0 fs p (Err t) o
    leads_stop {t} {o} h = leads.gives (Err t) o (subst (λ z. FunctionsGave g n z q (Err t) o) (sym (there n fs f is)) (stopped_function h))

-- AND THE QUERY

module _ (query : Query) {g : ProgramRows} {p : Progress} where
  pub all_stop : {t : TypeFault} {o : Progress} → FunctionsGave g 0 g.functions p (Err t) o → Gave (all_typed g query p) (Err t) o
  all_stop h = record { gives = then_stops (functions_typed g 0 g.functions p) _ h.gives }

  pub all_go : {o q : Progress} {result : Result ℕ TypeFault} → FunctionsGave g 0 g.functions p (Ok tt) o → Typing g None (query.input ∷ []) query.row o result q → Gave (all_typed g query p) result q
  all_go h k = record { gives = then_goes (functions_typed g 0 g.functions p) _ h.gives k.gives }

pub query_low : (n : ℕ) (o : Option Query) (q : Query) → query_lawful n o ≡ true → o ≡ Some q → q.row < n
query_low n o q law is =
    let fits : query_fits n q ≡ true = ap (query_lawful n) (sym is) ∙ law in
    ltb-true q.row n (and_parts (ltb q.input 512) (ltb q.row n) fits).1

-- WHAT STAYS

pub stays_none : (rows : List TypeRow) (c : Counts) (s : State) → Stays rows c s rows c s
stays_none rows c s = record { grows = stays rows c; variables = refl }

pub on_ok : {P : Type 0} (r : Result (Unit {0}) TypeFault) → P → OnOk r P
on_ok (Ok u) p = p
on_ok (Err f) p = tt
