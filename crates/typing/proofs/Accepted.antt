-- A check is accepted exactly if the typing rules say so.
use Rattle.std.proofs.Common.{◌≡◌, ℕ, suc, ◌+◌, ◌<◌, ◌↔◌, List, [], ◌∷◌, length, get_or, Some, None, Ok, sym, subst, arith}
use Rattle.rows.specs.declared.type_row.TypeRow.{TypeRow}
use Rattle.rows.specs.declared.function.Function.{Function}
use Rattle.rows.specs.Programs.{ProgramRows}
use Rattle.types.specs.Parts.{Lawful}
use Rattle.typing.specs.declared.answer.QueryType.{QueryType}
use Rattle.typing.specs.Outcomes.{Progress, goes, all_hold, Gives}
use Rattle.typing.specs.Programs.{Orderly}
use Rattle.typing.specs.Checking.{Checks, declared, function_typed, functions_typed}
use Rattle.typing.specs.Accepted.{FunctionsFit, no_more, body_fits, AcceptedBy}
use Rattle.typing.specs.Typing.{fitting, typed}
use Rattle.typing.proofs.Steps.{gives_given, then_goes, then_went, fitting_holds, fitting_went}
use Rattle.typing.proofs.Unfolding.{PartsLower, lawful_lower, spot}
use Rattle.typing.proofs.Keeping.{types_keep}
use Rattle.typing.proofs.Agreement.{types_give, gives_types}

-- each function of a list has its body
abbrev AllBodies : List Function → Type 0
AllBodies fs = (i : ℕ) → i < length fs → (b : ℕ) × ((get_or fs i (record { parameter = 0; result = 0; body = None })).body ≡ Some b)

module _ {g : ProgramRows} (law : Orderly g) where
  functions_fit : (n : ℕ) (fs : List Function) (p : Progress) (x : Unit {0}) (q : Progress) → AllBodies fs → PartsLower p.types → Gives (functions_typed g n fs p) (goes x q) → FunctionsFit g fs p q × PartsLower q.types
  functions_fit n [] p x q all low h = let e = gives_given h in let i : p ≡ q = cc in subst (λ o. FunctionsFit g [] p o × PartsLower o.types) i (no_more, low)
  functions_fit n (f ∷ fs) p x q all low h =
      let b = all 0 (omega arith) in
      let v = then_went _ _ (subst (λ o. Gives (function_typed g n f o (functions_typed g (n + 1) fs) p) (goes x q)) b.1 h) in
      let k = fitting_went (spot (Some n) b.0) v.0 f.result v.1 _ v.3 in
      let t = gives_types law (Some n) (f.parameter ∷ []) b.0 p low v.2 in
      let r = functions_fit (n + 1) fs v.1 x q (λ i l. all (suc i) (omega arith)) ((types_keep t).lower low) k.1 in
      (body_fits b.1 t k.0 r.0, r.1)

  fit_functions : (n : ℕ) {fs : List Function} {p q : Progress} → FunctionsFit g fs p q → PartsLower p.types → Gives (functions_typed g n fs p) (goes tt q) × PartsLower q.types
  fit_functions n no_more low = (all_hold, low)
  fit_functions n (body_fits {f} {fs} {b} {x} {p} {q} {o} e t s r) low =
      let h = fit_functions (n + 1) r ((types_keep t).lower low) in
      let k = then_goes (typed g (Some n) (f.parameter ∷ []) b p) (λ y u. fitting (spot (Some n) b) y f.result u (functions_typed g (n + 1) fs u)) (types_give law (Some n) t low) (fitting_holds (spot (Some n) b) x f.result q _ s h.0) in
      (subst (λ w. Gives (function_typed g n f w (functions_typed g (n + 1) fs) p) (goes tt o)) (sym e) k, h.1)

  pub accepted : {ts us : List TypeRow} {a : QueryType} → Lawful ts → Checks ts g (Ok a) us ↔ AcceptedBy ts g a us
  accepted {ts} {us} {a} low = (to_rules, from_rules)
    where
      to_rules : Checks ts g (Ok a) us → AcceptedBy ts g a us
      to_rules c =
          let v = then_went _ _ c.2 in
          let r = functions_fit 0 g.functions (declared ts) v.0 v.1 c.1.bodies (lawful_lower low) v.2 in
          record { query = c.0; ready = c.1; between = v.1; functions = r.0; answer = gives_types law None (c.0.input ∷ []) c.0.row v.1 r.1 v.3; made = c.3 }

      from_rules : AcceptedBy ts g a us → Checks ts g (Ok a) us
      from_rules b =
          let r = fit_functions 0 b.functions (lawful_lower low) in
          (b.query, b.ready, then_goes _ _ r.0 (types_give law None b.answer r.1), b.made)
