-- Accepted queries keep their types.
use Rattle.std.proofs.Common.{◌≡◌, ℕ, zero, suc, ◌<◌, ◌≤◌, Bool, List, [], ◌∷◌, length, get_or, Some, None, sym, ◌∙◌, subst, inl, inr, arith}
use Rattle.std.specs.Prelude.{slice_get}
use Rattle.std.proofs.lemmas.Bool.{cases_lt}
use Rattle.std.proofs.lemmas.List.{get_or_past}
use Rattle.std.proofs.lemmas.Option.{slice_get_within, get_or_from_slice_get}
use Rattle.rows.specs.declared.type_row.TypeRow.{TypeRow}
use Rattle.rows.specs.declared.expression.Expression.TheVariants.{Error, As}
use Rattle.rows.specs.declared.function.Function.{Function}
use Rattle.rows.specs.declared.function.Query.{Query}
use Rattle.rows.specs.Programs.{ProgramRows}
use Rattle.types.specs.Belonging.{Belongs}
use Rattle.types.proofs.Longer.{longer_same}
use Rattle.typing.specs.Outcomes.{Progress}
use Rattle.typing.specs.Programs.{Orderly}
use Rattle.typing.specs.Typing.{expression_at}
use Rattle.typing.specs.Checking.{Ready}
use Rattle.typing.specs.Accepted.{FunctionsFit, no_more, body_fits}
use Rattle.typing.proofs.GrowthSteps.{longer_of, Start, start_on}
use Rattle.typing.proofs.Growth.{types_grow}
use Rattle.typing.proofs.GrowthAccepted.{ready_start, functions_grow}
use Rattle.evaluation.specs.Evaluation.{End, run_row, run_to, run}
use Rattle.evaluation.specs.Laws.{KeepsType, in_type, halted, AcceptedRunsKeepType}
use Rattle.evaluation.proofs.Ends.{Ends, went, halted as ends_halted, Paid, pay_ends}
use Rattle.evaluation.proofs.Stages.{Before, before_kept, held_none, held_more}
use Rattle.evaluation.proofs.Rows.{Typed, Accepted, RunsSafely, row_ends}

-- by the depth
module _ {g : ProgramRows} {declared : ℕ} {us : List TypeRow} {error : Bool} (accepted : Accepted g declared us error) (n l : ℕ) (few : n ≤ 1000000000000) where
  runs_safely : (d : ℕ) → RunsSafely g declared us error n (run_to d l g)
  runs_safely zero = record { ends = λ s t st bf h le. ends_halted (λ z. cc) }
  runs_safely (suc d) = record {
    ends = λ {vs} {e} {x} {p} {q} {env} s t st bf h le.
        pay_ends 1 e s (run_row l g (run_to d l g) e (expression_at g e) env) le (λ u m q. row_ends accepted n l few (run_to d l g) (runs_safely d) env u t st bf h q);
  }

-- WHAT AN ACCEPTED CHECK SAYS

-- both types of a function are among the first n rows
abbrev Declared : ℕ → Function → Type 0
Declared n f = (f.parameter < n) × (f.result < n)

module _ {g : ProgramRows} (orderly : Orderly g) {n : ℕ} {us : List TypeRow} {error : Bool} where
  functions_typed : {fs : List Function} {p q : Progress} (i : ℕ) {f : Function} → FunctionsFit g fs p q → Start n p → Before us error q → slice_get fs i ≡ Some f → Declared n f → Typed g n us error f
  functions_typed i {f} no_more st bf e d = let z : ◌≡◌ {A = ℕ} 0 1 = cc in absurd (omega arith)
  functions_typed zero {f} (body_fits {f = h} {b = b} {x} {p} {q} i t s r) st bf e d =
      let same : h ≡ f = cc in
      let k = types_grow orderly st t in
      let m = before_kept (functions_grow orderly (start_on st k.kept) r) bf in
      subst (λ z. Declared n z → Typed g n us error z) same (λ d. record { body = b; type = x; from = p; to = q; is = i; typed = t; fits = s; start = st; before = m; parameter = d.0; result = d.1 }) d
  functions_typed (suc i) (body_fits j t s r) st bf e d = let k = types_grow orderly st t in functions_typed i r (start_on st k.kept) bf e d

module _ {ts : List TypeRow} {g : ProgramRows} {q : Query} (ready : Ready ts g q) where
  functions_declared : (i : ℕ) (f : Function) → slice_get g.functions i ≡ Some f → Declared (length ts) f
  functions_declared i f e =
      let r = ready.functions i (slice_get_within g.functions i f e) in
      let same : get_or g.functions i (record { parameter = 0; result = 0; body = None }) ≡ f = get_or_from_slice_get g.functions i f (record { parameter = 0; result = 0; body = None }) e in
      subst (Declared (length ts)) same (r.0.there, r.1.there)

  targets_declared : (e a t : ℕ) → expression_at g e ≡ As a t → t < length ts
  targets_declared e a t i = elim (cases_lt e (length g.expressions)) [
    | inl l ↦ (ready.targets e l a t i).there
    | inr past ↦ (let z : Error ≡ As a t = sym (get_or_past g.expressions e Error past) ∙ i in absurd cc)
  ]

keeps_type : {us : List TypeRow} {x n : ℕ} {error : Bool} {o : End} → Ends n error (Paid us x n) o → KeepsType us x error o
keeps_type (went p l) = in_type p.belongs
keeps_type (ends_halted e) = halted e

pub accepted_runs_keep_type : AcceptedRunsKeepType
unfolding run
accepted_runs_keep_type ts us g a q law orderly text b e l f s h few =
    let same : b.query ≡ q = cc (sym b.ready.query ∙ e) in
    let st = ready_start law b.ready in
    let k = functions_grow orderly st b.functions in
    let kt = start_on st k in
    let end : Before us a.error (record { types = us; error = a.error }) = record { longer = longer_same us; erring = λ e. e } in
    let m = before_kept (types_grow orderly kt b.answer).kept end in
    let accepted : Accepted g (length ts) us a.error = record {
      orderly = orderly;
      text = text;
      functions = λ i f e. functions_typed orderly i b.functions st m e (functions_declared b.ready i f e);
      targets = targets_declared b.ready;
    } in
    let there = b.ready.input.there in
    let long = (longer_of k.grows).long in
    let input : Belongs us b.query.input f = subst (λ z. Belongs us z.input f) (sym same) h in
    let ends = (runs_safely accepted s.fuel l few s.fuel).ends s b.answer kt end (held_more (omega arith) input held_none) (omega arith) in
    subst (λ z. KeepsType us a.row a.error (run_to s.fuel l g z.row (f ∷ []) s)) same (keeps_type ends)
