-- The law of histories.
use Rattle.std.proofs.Common.{◌≡◌, ℕ, ◌+◌, ◌≤◌, Bool, true, false, cond, not, ◌&&◌, ltb, leb, List, [], ◌∷◌, ◌++◌, length, Some, None, Ok, Err, Option, Result, sym, refl, ap, ◌∙◌, subst, append_assoc, arith, ltb-true}
use Rattle.std.proofs.lemmas.List.{append-nil, length_push}
use Rattle.std.specs.Option.{option_to_list}
use Rattle.forest.specs.declared.fault.Fault.{Fault}
use Rattle.forest.specs.declared.fault.Reason.TheVariants.{TableFull, FieldOutOfRange, PartTaken}
use Rattle.std.proofs.lemmas.Bool.{and_parts}
use Rattle.rows.specs.declared.arm.Arm.{Arm}
use Rattle.rows.specs.declared.arm.RawArm.{RawArm}
use Rattle.rows.specs.declared.expression.Expression.{Expression}
use Rattle.rows.specs.declared.expression.RawExpression.{RawExpression}
use Rattle.rows.specs.declared.function.Function.{Function}
use Rattle.rows.specs.declared.function.Query.{Query}
use Rattle.rows.specs.declared.type_row.TypeRow.{TypeRow}
use Rattle.rows.specs.declared.type_row.RawType.{RawType}
use Rattle.rows.specs.Arms.{arm_of, arm_fits}
use Rattle.rows.specs.Expressions.{expression_of, expression_fits}
use Rattle.rows.specs.Functions.{function_fits, query_fits}
use Rattle.rows.specs.TypeRows.{type_of, type_fits, twice}
use Rattle.rows.specs.TypeTables.{free}
use Rattle.session.specs.Tables.{room_of, with_expression, with_arm, with_function, with_text, with_body_set, with_query}
use Rattle.session.specs.Calls.{Tables, empty_tables, Change, add_text, add_type, add_function, add_arm, add_expression, set_body, set_query, clear, applied, accepted, refused, type_put, arm_put, expression_put}
use Rattle.history.specs.Calls.{ran, replies}
use Rattle.history.specs.History.{clears, history, since, Given, nothing, gives, joined, gathered, last_body, with_bodies, assembled}
use Rattle.history.proofs.Bodies.{last_other, query-push, length-bodies, bodies-push, bodies-set}

-- no body was set on a function that is not there
abbrev Unset : Given → Type 0
Unset g = (i : ℕ) → length g.functions ≤ i → last_body i None g.bodies ≡ None

-- what an answer says of the session after it
abbrev Next : Given → Change → Result ℕ Fault → Tables → Type 0
Next g c (Err f) t = t ≡ assembled g
Next g c (Ok n) t = (t ≡ assembled (joined g (gives c))) × Unset (joined g (gives c))

abbrev Leads : Given → Change → Result ℕ Fault × Tables → Type 0
Leads g c o = Next g c o.0 o.1

by-test : (g : Given) (c : Change) (b : Bool) (x y : Result ℕ Fault × Tables) → (b ≡ true → Leads g c x) → Leads g c y → Leads g c (cond b x y)
by-test g c true x y h k = h refl
by-test g c false x y h k = k

-- functions and bodies as they were
unset_same : (fs : List Function) (ps : List (ℕ × ℕ)) → ((i : ℕ) → length fs ≤ i → last_body i None ps ≡ None) → (i : ℕ) → length (fs ++ []) ≤ i → last_body i None (ps ++ []) ≡ None
unset_same fs ps un i le = ap (last_body i None) (append-nil ps) ∙ un i (omega (arith, ap length (append-nil fs)))

next-text : (g : Given) (bs : List ℕ) → Unset g → Leads g (add_text bs) (applied (assembled g) (add_text bs))
next-text g bs un = by-test g (add_text bs) (leb (length g.text + length bs) 4096) (accepted (length g.text) g.types (with_text (assembled g).program bs)) (refused TableFull (length g.text) (assembled g)) (λ _. (
  simp append-nil,
  unset_same g.functions g.bodies un,
)) refl

next-type_put : (g : Given) (raw : RawType) (o : Option TypeRow) → type_of raw.kind raw.a raw.b ≡ o → Unset g → Leads g (add_type raw) (type_put (assembled g) o)
next-type_put g raw None is un = refl
next-type_put g raw (Some r) is un =
    let n = length g.types in
    let t = assembled g in
    let put = accepted n (g.types ++ (r ∷ [])) t.program in
    let taken = refused PartTaken n t in
    by-test g (add_type raw) (type_fits n r) (cond (not (twice r) && free g.types r) put taken) (refused FieldOutOfRange n t) (λ _. by-test g (add_type raw) (not (twice r) && free g.types r) put taken (λ _. (
      let row = ap (λ q. g.types ++ option_to_list q) is in
          simp (append-nil, row),
      unset_same g.functions g.bodies un,
    )) refl) refl

next-type : (g : Given) (raw : RawType) → Unset g → Leads g (add_type raw) (applied (assembled g) (add_type raw))
next-type g raw un = by-test g (add_type raw) (ltb (length g.types) 512) (type_put (assembled g) (type_of raw.kind raw.a raw.b)) (refused TableFull (length g.types) (assembled g)) (λ _. next-type_put g raw (type_of raw.kind raw.a raw.b) refl un) refl

next-function : (g : Given) (p r : ℕ) → Unset g → Leads g (add_function p r) (applied (assembled g) (add_function p r))
next-function g p r un =
    let t = assembled g in
    let n = length t.program.functions in
    let f : Function = record { parameter = p; result = r; body = None } in
    let put = accepted n g.types (with_function t.program f) in
    let bad = refused FieldOutOfRange n t in
    by-test g (add_function p r) (ltb n 32) (cond (function_fits f) put bad) (refused TableFull n t) (λ _. by-test g (add_function p r) (function_fits f) put bad (λ _. (
      let at : length g.functions ≤ 0 + length g.functions = omega arith in
          let more = bodies-push 0 g.functions p r g.bodies (un (0 + length g.functions) at) in
          simp (append-nil, more),
      λ i le.
          let long = length_push g.functions (record { parameter = p; result = r; body = None }) in
          ap (last_body i None) (append-nil g.bodies) ∙ un i (omega arith),
    )) refl) refl

next-arm_put : (g : Given) (raw : RawArm) (o : Option Arm) → arm_of raw.kind raw.tag raw.body ≡ o → Unset g → Leads g (add_arm raw) (arm_put (assembled g) o)
next-arm_put g raw None is un = refl
next-arm_put g raw (Some arm) is un =
    let t = assembled g in
    let n = length g.arms in
    by-test g (add_arm raw) (arm_fits (length g.expressions) arm) (accepted n g.types (with_arm t.program arm)) (refused FieldOutOfRange n t) (λ _. (
      let row = ap (λ q. g.arms ++ option_to_list q) is in
          simp (append-nil, row),
      unset_same g.functions g.bodies un,
    )) refl

next-arm : (g : Given) (raw : RawArm) → Unset g → Leads g (add_arm raw) (applied (assembled g) (add_arm raw))
next-arm g raw un = by-test g (add_arm raw) (ltb (length g.arms) 128) (arm_put (assembled g) (arm_of raw.kind raw.tag raw.body)) (refused TableFull (length g.arms) (assembled g)) (λ _. next-arm_put g raw (arm_of raw.kind raw.tag raw.body) refl un) refl

next-expression_put : (g : Given) (raw : RawExpression) (o : Option Expression) → expression_of raw.kind raw.a raw.b raw.c raw.d ≡ o → Unset g → Leads g (add_expression raw) (expression_put (assembled g) o)
next-expression_put g raw None is un = refl
next-expression_put g raw (Some e) is un =
    let t = assembled g in
    let n = length g.expressions in
    by-test g (add_expression raw) (expression_fits (room_of t.program) e) (accepted n g.types (with_expression t.program e)) (refused FieldOutOfRange n t) (λ _. (
      let row = ap (λ q. g.expressions ++ option_to_list q) is in
          simp (append-nil, row),
      unset_same g.functions g.bodies un,
    )) refl

next-expression : (g : Given) (raw : RawExpression) → Unset g → Leads g (add_expression raw) (applied (assembled g) (add_expression raw))
next-expression g raw un = by-test g (add_expression raw) (ltb (length g.expressions) 512) (expression_put (assembled g) (expression_of raw.kind raw.a raw.b raw.c raw.d)) (refused TableFull (length g.expressions) (assembled g)) (λ _. next-expression_put g raw (expression_of raw.kind raw.a raw.b raw.c raw.d) refl un) refl

next-body : (g : Given) (f row : ℕ) → Unset g → Leads g (set_body f row) (applied (assembled g) (set_body f row))
next-body g f row un =
    let t = assembled g in
    by-test g (set_body f row) (ltb f (length t.program.functions) && ltb row (length g.expressions)) (accepted 0 g.types (with_body_set t.program f row)) (refused FieldOutOfRange 0 t) (λ there. (
      let more = bodies-set f g.functions g.bodies row in
          simp (append-nil, more),
      λ i le.
          let long = ap length (append-nil g.functions) in
          let lt = ltb-true f (length (with_bodies 0 g.functions g.bodies)) (and_parts (ltb f (length (with_bodies 0 g.functions g.bodies))) (ltb row (length g.expressions)) there).0 in
          let same = length-bodies 0 g.functions g.bodies in
          let ne : f ≡ i → ⊥ = λ e. omega arith in
          last_other i g.bodies f row ne ∙ un i (omega arith),
    )) refl

next-query : (g : Given) (q : Query) → Unset g → Leads g (set_query q) (applied (assembled g) (set_query q))
next-query g q un =
    let t = assembled g in
    by-test g (set_query q) (query_fits (length g.expressions) q) (accepted 0 g.types (with_query t.program q)) (refused FieldOutOfRange 0 t) (λ _. (
      let more = query-push None g.queries q in
          simp (append-nil, more),
      unset_same g.functions g.bodies un,
    )) refl

-- one call more

join-assoc : (a b c : Given) → joined (joined a b) c ≡ joined a (joined b c)
join-assoc a b c = simp append_assoc

join-none : (a : Given) → joined a nothing ≡ a
join-none a = simp append-nil

gathered-push : (s : List Change) (c : Change) → gathered (s ++ (c ∷ [])) ≡ joined (gathered s) (gives c)
gathered-push [] c = join-none (gives c)
gathered-push (x ∷ s) c = ap (joined (gives x)) (gathered-push s c) ∙ sym (join-assoc (gives x) (gathered s) (gives c))

abbrev Good : List Change → Tables → Type 0
Good s t = (t ≡ assembled (gathered s)) × Unset (gathered s)

kept : (s : List Change) (c : Change) (r : Result ℕ Fault) (t : Tables) → clears c ≡ false → Unset (gathered s) → Next (gathered s) c r t → Good (since s ((c, r) ∷ [])) t
kept s c (Err f) t stays un next = (next, un)
kept s c (Ok n) t stays un next =
    let to = sym (gathered-push s c) in
    let good : Good (s ++ (c ∷ [])) t = (next.0 ∙ ap assembled to, subst Unset to next.1) in
    subst (λ (b : Bool). Good (cond b [] (s ++ (c ∷ []))) t) (sym stays) good

step-at : (s : List Change) (c : Change) → Unset (gathered s) → Good (since s ((c, (applied (assembled (gathered s)) c).0) ∷ [])) (applied (assembled (gathered s)) c).1
step-at s (add_text bs) un = kept s (add_text bs) _ _ refl un (next-text (gathered s) bs un)
step-at s (add_type raw) un = kept s (add_type raw) _ _ refl un (next-type (gathered s) raw un)
step-at s (add_function p r) un = kept s (add_function p r) _ _ refl un (next-function (gathered s) p r un)
step-at s (add_arm raw) un = kept s (add_arm raw) _ _ refl un (next-arm (gathered s) raw un)
step-at s (add_expression raw) un = kept s (add_expression raw) _ _ refl un (next-expression (gathered s) raw un)
step-at s (set_body f row) un = kept s (set_body f row) _ _ refl un (next-body (gathered s) f row un)
step-at s (set_query q) un = kept s (set_query q) _ _ refl un (next-query (gathered s) q un)
step-at s clear un = (refl, λ i le. refl)

step : (s : List Change) (t : Tables) (c : Change) → Good s t → Good (since s ((c, (applied t c).0) ∷ [])) (applied t c).1
step s t c good = subst (λ (u : Tables). Good (since s ((c, (applied u c).0) ∷ [])) (applied u c).1) (sym good.0) (step-at s c good.1)

onward : (s : List Change) (c : Change) (r : Result ℕ Fault) (t end : Tables) (es : List (Change × Result ℕ Fault)) → ((before : List Change) → Good before t → end ≡ assembled (gathered (since before es))) → Good (since s ((c, r) ∷ [])) t → end ≡ assembled (gathered (since s ((c, r) ∷ es)))
onward s c (Err f) t end es rest good = rest s good
onward s c (Ok n) t end es rest good = rest (cond (clears c) [] (s ++ (c ∷ []))) good

law_from : (s : List Change) (t : Tables) (cs : List Change) → Good s t → ran t cs ≡ assembled (gathered (since s (history cs (replies t cs))))
law_from s t [] good = good.0
law_from s t (c ∷ cs) good =
    let u = (applied t c).1 in
    onward s c (applied t c).0 u (ran u cs) (history cs (replies u cs)) (λ before h. law_from before u cs h) (step s t c good)

pub law : (cs : List Change) → ran empty_tables cs ≡ assembled (gathered (since [] (history cs (replies empty_tables cs))))
law cs = law_from [] empty_tables cs (refl, λ i le. refl)
