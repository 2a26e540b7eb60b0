-- Functions with their last bodies.
use Rattle.std.proofs.Common.{◌≡◌, ℕ, zero, suc, ◌+◌, ◌<◌, cond, eqb, List, [], ◌∷◌, ◌++◌, length, Some, None, Option, refl, ap, ◌∙◌, arith, eq-eqb, ne_eqb}
use Rattle.rows.specs.declared.function.Function.{Function}
use Rattle.rows.specs.declared.function.Query.{Query}
use Rattle.session.specs.Bodies.{body_set}
use Rattle.history.specs.History.{last_body, last_query, with_bodies}

pub last_push : (i : ℕ) (o : Option ℕ) (ps : List (ℕ × ℕ)) (f row : ℕ) → last_body i o (ps ++ ((f, row) ∷ [])) ≡ cond (eqb f i) (Some row) (last_body i o ps)
last_push i o [] f row = refl
last_push i o (p ∷ ps) f row = last_push i (cond (eqb p.0 i) (Some p.1) o) ps f row

pub last_other : (i : ℕ) (ps : List (ℕ × ℕ)) (f row : ℕ) → (f ≡ i → ⊥) → last_body i None (ps ++ ((f, row) ∷ [])) ≡ last_body i None ps
last_other i ps f row ne = last_push i None ps f row ∙ ap (λ b. cond b (Some row) (last_body i None ps)) (ne_eqb f i ne)

last_same : (i : ℕ) (ps : List (ℕ × ℕ)) (f row : ℕ) → f ≡ i → last_body i None (ps ++ ((f, row) ∷ [])) ≡ Some row
last_same i ps f row e = last_push i None ps f row ∙ ap (λ b. cond b (Some row) (last_body i None ps)) (eq-eqb f i e)

pub query-push : (o : Option Query) (qs : List Query) (q : Query) → last_query o (qs ++ (q ∷ [])) ≡ Some q
query-push o [] q = refl
query-push o (p ∷ qs) q = query-push (Some p) qs q

pub length-bodies : (n : ℕ) (fs : List Function) (ps : List (ℕ × ℕ)) → length (with_bodies n fs ps) ≡ length fs
length-bodies n [] ps = refl
length-bodies n (f ∷ fs) ps = ap suc (length-bodies (n + 1) fs ps)

-- a new function has no body
pub bodies-push : (n : ℕ) (fs : List Function) (p r : ℕ) (ps : List (ℕ × ℕ)) → last_body (n + length fs) None ps ≡ None → with_bodies n (fs ++ (record { parameter = p; result = r; body = None } ∷ [])) ps ≡ with_bodies n fs ps ++ (record { parameter = p; result = r; body = None } ∷ [])
bodies-push n [] p r ps none =
    let z : n ≡ n + 0 = omega arith in
    ap (λ o. record { parameter = p; result = r; body = o } ∷ []) (ap (λ k. last_body k None ps) z ∙ none)
bodies-push n (f ∷ fs) p r ps none =
    let k : n + 1 + length fs ≡ n + suc (length fs) = omega arith in
    ap (λ xs. record { parameter = f.parameter; result = f.result; body = last_body n None ps } ∷ xs) (bodies-push (n + 1) fs p r ps (ap (λ i. last_body i None ps) k ∙ none))

-- a body of a function before these changes none of them
bodies-below : (m n : ℕ) (fs : List Function) (ps : List (ℕ × ℕ)) (row : ℕ) → m < n → with_bodies n fs (ps ++ ((m, row) ∷ [])) ≡ with_bodies n fs ps
bodies-below m n [] ps row lt = refl
bodies-below m n (f ∷ fs) ps row lt =
    let ne : m ≡ n → ⊥ = λ e. omega arith in
    ap (λ o. record { parameter = f.parameter; result = f.result; body = o } ∷ with_bodies (n + 1) fs (ps ++ ((m, row) ∷ []))) (last_other n ps m row ne)
    ∙ ap (λ xs. record { parameter = f.parameter; result = f.result; body = last_body n None ps } ∷ xs) (bodies-below m (n + 1) fs ps row (omega arith))

bodies-set_at : (n k f : ℕ) (fs : List Function) (ps : List (ℕ × ℕ)) (row : ℕ) → f ≡ n + k → with_bodies n fs (ps ++ ((f, row) ∷ [])) ≡ body_set (with_bodies n fs ps) k row
bodies-set_at n k f [] ps row e = refl
bodies-set_at n zero f (x ∷ fs) ps row e =
    let is : f ≡ n = omega arith in
    ap (λ o. record { parameter = x.parameter; result = x.result; body = o } ∷ with_bodies (n + 1) fs (ps ++ ((f, row) ∷ []))) (last_same n ps f row is)
    ∙ ap (λ xs. record { parameter = x.parameter; result = x.result; body = Some row } ∷ xs) (bodies-below f (n + 1) fs ps row (omega arith))
bodies-set_at n (suc k) f (x ∷ fs) ps row e =
    let ne : f ≡ n → ⊥ = λ h. omega arith in
    let is : f ≡ n + 1 + k = omega arith in
    ap (λ o. record { parameter = x.parameter; result = x.result; body = o } ∷ with_bodies (n + 1) fs (ps ++ ((f, row) ∷ []))) (last_other n ps f row ne)
    ∙ ap (λ xs. record { parameter = x.parameter; result = x.result; body = last_body n None ps } ∷ xs) (bodies-set_at (n + 1) k f fs ps row is)

pub bodies-set : (f : ℕ) (fs : List Function) (ps : List (ℕ × ℕ)) (row : ℕ) → with_bodies 0 fs (ps ++ ((f, row) ∷ [])) ≡ body_set (with_bodies 0 fs ps) f row
bodies-set f fs ps row = let z : f ≡ 0 + f = omega arith in bodies-set_at 0 f f fs ps row z
