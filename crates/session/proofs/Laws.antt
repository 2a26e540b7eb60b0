-- Laws of the rules on rows.
use Rattle.std.proofs.Common.{◌≡◌, ℕ, zero, suc, ◌+◌, ◌<◌, ◌≤◌, Bool, true, false, cond, not, ◌&&◌, eqb, ltb, ◌⊎◌, inl, inr, List, [], ◌∷◌, ◌++◌, length, get_or, take, drop, Some, None, Option, sym, refl, ap, ◌∙◌, append_assoc, arith, ltb-true, lt-ltb, le-leb, leb-true}
use Rattle.std.proofs.lemmas.List.{append-nil, get_or_past, take-append-le, drop-append-le, length-drop}
use Rattle.std.proofs.lemmas.Bool.{and_parts, and_from, cases_lt, cond-false, ne_eqb}
use Rattle.std.proofs.lemmas.List.Elements.{All-get_or, All-push, All-set, All-take, All-drop, All-weaker}
use Rattle.std.proofs.lemmas.List.Sums.{AllPass-from_list_all, list_all-from_AllPass}
use Rattle.std.specs.List.{list_all}
use Rattle.rows.specs.declared.type_row.TypeRow.{TypeRow}
use Rattle.rows.specs.declared.expression.Expression.{Expression}
use Rattle.rows.specs.declared.expression.Expression.TheVariants.{Error, Integer, Boolean, String, Variable, Element, Sequence, Empty, If, Let, For, Match, Call, Add, Equal, IsEmpty, Count, Children, As}
use Rattle.rows.specs.declared.expression.Room.{Room}
use Rattle.rows.specs.declared.arm.Arm.{Arm}
use Rattle.rows.specs.declared.function.Function.{Function}
use Rattle.rows.specs.declared.function.Query.{Query}
use Rattle.rows.specs.TypeRows.{type_fits, twice}
use Rattle.rows.specs.Expressions.{expression_fits, within, arms_within}
use Rattle.rows.specs.Arms.{arm_fits, pattern_fits}
use Rattle.rows.specs.Functions.{function_fits}
use Rattle.session.specs.Bodies.{body_set, with_body, no_function}
use Rattle.rows.specs.TypeTables.{free, type_right, types_lawful}
use Rattle.session.specs.Rules.{expressions_lawful, arms_lawful, bodies_below, match_right, matches_lawful, body_there, function_right, functions_lawful, query_lawful}

-- one row more

pub types-push : (before rs : List TypeRow) (r : TypeRow) → types_lawful before rs ≡ true → type_right (before ++ rs) r ≡ true → types_lawful before (rs ++ (r ∷ [])) ≡ true
types-push before [] r law right = and_from (type_right before r) true (ap (λ b. type_right b r) (sym (append-nil before)) ∙ right) refl
types-push before (q ∷ rs) r law right =
    let p = and_parts (type_right before q) (types_lawful (before ++ (q ∷ [])) rs) law in
    and_from (type_right before q) (types_lawful (before ++ (q ∷ [])) (rs ++ (r ∷ []))) p.0 (types-push (before ++ (q ∷ [])) rs r p.1 (ap (λ b. type_right b r) (append_assoc before (q ∷ []) rs) ∙ right))

pub right : (before : List TypeRow) (n : ℕ) (r : TypeRow) → length before ≡ n → type_fits n r ≡ true → twice r ≡ false → free before r ≡ true → type_right before r ≡ true
right before n r long fits once alone =
    and_from (type_fits (length before) r) (not (twice r) && free before r) (ap (λ k. type_fits k r) long ∙ fits) (and_from (not (twice r)) (free before r) (ap not once) alone)

abbrev room : ℕ → ℕ → ℕ → Room
room n m l = record { expressions = n; arms = m; bytes = l }

pub expressions-push : (n m l : ℕ) (es : List Expression) (e : Expression) → expressions_lawful n m l es ≡ true → expression_fits (room (n + length es) m l) e ≡ true → expressions_lawful n m l (es ++ (e ∷ [])) ≡ true
expressions-push n m l [] e law fits =
    let z : n ≡ n + 0 = omega arith in
    and_from (expression_fits (room n m l) e) true (ap (λ k. expression_fits (room k m l) e) z ∙ fits) refl
expressions-push n m l (x ∷ es) e law fits =
    let p = and_parts (expression_fits (room n m l) x) (expressions_lawful (n + 1) m l es) law in
    let k : n + 1 + length es ≡ n + suc (length es) = omega arith in
    and_from (expression_fits (room n m l) x) (expressions_lawful (n + 1) m l (es ++ (e ∷ []))) p.0 (expressions-push (n + 1) m l es e p.1 (ap (λ j. expression_fits (room j m l) e) k ∙ fits))

-- lists of which every element passes a test

pub list_all-get_or : {X : Type 0} (p : X → Bool) (xs : List X) (i : ℕ) (d : X) → i < length xs → list_all p xs ≡ true → p (get_or xs i d) ≡ true
list_all-get_or p xs i d lt law = All-get_or (λ x. p x ≡ true) xs i d lt (AllPass-from_list_all p xs law)

pub list_all-push : {X : Type 0} (p : X → Bool) (xs : List X) (x : X) → list_all p xs ≡ true → p x ≡ true → list_all p (xs ++ (x ∷ [])) ≡ true
list_all-push p xs x law fits = list_all-from_AllPass p (xs ++ (x ∷ [])) (All-push (λ y. p y ≡ true) xs x (AllPass-from_list_all p xs law) fits)

list_all-weaker : {X : Type 0} (p q : X → Bool) (xs : List X) → ((x : X) → p x ≡ true → q x ≡ true) → list_all p xs ≡ true → list_all q xs ≡ true
list_all-weaker p q xs weaker law = list_all-from_AllPass q xs (All-weaker (λ x. p x ≡ true) (λ x. q x ≡ true) weaker xs (AllPass-from_list_all p xs law))

function_in : (n : ℕ) (fs : List Function) (i : ℕ) → functions_lawful n fs ≡ true → (i < length fs) ⊎ (length fs ≤ i) → function_right n (get_or fs i no_function) ≡ true
function_in n fs i law (inl lt) = list_all-get_or (function_right n) fs i no_function lt law
function_in n fs i law (inr le) = ap (function_right n) (get_or_past fs i no_function le)

pub function_at : (n : ℕ) (fs : List Function) (i : ℕ) → functions_lawful n fs ≡ true → function_right n (get_or fs i no_function) ≡ true
function_at n fs i law = function_in n fs i law (cases_lt i (length fs))

pub functions-set : (n : ℕ) (fs : List Function) (f row : ℕ) → functions_lawful n fs ≡ true → ltb row n ≡ true → functions_lawful n (body_set fs f row) ≡ true
functions-set n fs f row law there =
    let g = get_or fs f no_function in
    let fits = (and_parts (function_fits g) (body_there n g.body) (function_at n fs f law)).0 in
    let right = and_from (function_fits g) (ltb row n) fits there in
    list_all-from_AllPass (function_right n) (body_set fs f row) (All-set (λ x. function_right n x ≡ true) fs f (with_body g row) right (AllPass-from_list_all (function_right n) fs law))

-- what is there stays there as more comes

ltb-more : (i m n : ℕ) → m ≤ n → ltb i m ≡ true → ltb i n ≡ true
ltb-more i m n le e = let lt = ltb-true i m e in lt-ltb i n (omega arith)

within_more : (i k m n : ℕ) → m ≤ n → within i k m ≡ true → within i k n ≡ true
within_more i k m n le e = let lt = leb-true (i + k) m e in le-leb (i + k) n (omega arith)

arms_more : (none : Bool) (i k m n : ℕ) → m ≤ n → cond none (eqb i 0) (within i k m) ≡ true → cond none (eqb i 0) (within i k n) ≡ true
arms_more true i k m n le e = e
arms_more false i k m n le e = within_more i k m n le e

expression-more : (n m l m2 l2 : ℕ) (e : Expression) → m ≤ m2 → l ≤ l2 → expression_fits (room n m l) e ≡ true → expression_fits (room n m2 l2) e ≡ true
expression-more n m l m2 l2 Error a b fits = fits
expression-more n m l m2 l2 (Integer v) a b fits = fits
expression-more n m l m2 l2 (Boolean v) a b fits = fits
expression-more n m l m2 l2 (String i k) a b fits = within_more i k l l2 b fits
expression-more n m l m2 l2 (Variable v) a b fits = fits
expression-more n m l m2 l2 (Element t x) a b fits = fits
expression-more n m l m2 l2 (Sequence x y) a b fits = fits
expression-more n m l m2 l2 Empty a b fits = fits
expression-more n m l m2 l2 (If x y z) a b fits = fits
expression-more n m l m2 l2 (Let x y) a b fits = fits
expression-more n m l m2 l2 (For x y) a b fits = fits
expression-more n m l m2 l2 (Match x i k y) a b fits =
    let p = and_parts (ltb x n) (ltb y n && arms_within i k m) fits in
    let q = and_parts (ltb y n) (arms_within i k m) p.1 in
    and_from (ltb x n) (ltb y n && arms_within i k m2) p.0 (and_from (ltb y n) (arms_within i k m2) q.0 (arms_more (eqb k 0) i k m m2 a q.1))
expression-more n m l m2 l2 (Call f x) a b fits = fits
expression-more n m l m2 l2 (Add x y) a b fits = fits
expression-more n m l m2 l2 (Equal x y) a b fits = fits
expression-more n m l m2 l2 (IsEmpty x) a b fits = fits
expression-more n m l m2 l2 (Count x) a b fits = fits
expression-more n m l m2 l2 (Children x) a b fits = fits
expression-more n m l m2 l2 (As x t) a b fits = fits

pub expressions-more : (n m l m2 l2 : ℕ) (es : List Expression) → m ≤ m2 → l ≤ l2 → expressions_lawful n m l es ≡ true → expressions_lawful n m2 l2 es ≡ true
expressions-more n m l m2 l2 [] a b law = refl
expressions-more n m l m2 l2 (e ∷ es) a b law =
    let p = and_parts (expression_fits (room n m l) e) (expressions_lawful (n + 1) m l es) law in
    and_from (expression_fits (room n m2 l2) e) (expressions_lawful (n + 1) m2 l2 es) (expression-more n m l m2 l2 e a b p.0) (expressions-more (n + 1) m l m2 l2 es a b p.1)

pub arms-grow : (n n2 : ℕ) (xs : List Arm) → n ≤ n2 → arms_lawful n xs ≡ true → arms_lawful n2 xs ≡ true
arms-grow n n2 xs le law = list_all-weaker (arm_fits n) (arm_fits n2) xs (λ x fits.
    let q = and_parts (pattern_fits x.pattern) (ltb x.body n) fits in
    and_from (pattern_fits x.pattern) (ltb x.body n2) q.0 (ltb-more x.body n n2 le q.1)) law

body_grow : (n n2 : ℕ) (o : Option ℕ) → n ≤ n2 → body_there n o ≡ true → body_there n2 o ≡ true
body_grow n n2 None le e = refl
body_grow n n2 (Some row) le e = ltb-more row n n2 le e

pub functions-grow : (n n2 : ℕ) (fs : List Function) → n ≤ n2 → functions_lawful n fs ≡ true → functions_lawful n2 fs ≡ true
functions-grow n n2 fs le law = list_all-weaker (function_right n) (function_right n2) fs (λ f right.
    let q = and_parts (function_fits f) (body_there n f.body) right in
    and_from (function_fits f) (body_there n2 f.body) q.0 (body_grow n n2 f.body le q.1)) law

pub query-grow : (n n2 : ℕ) (o : Option Query) → n ≤ n2 → query_lawful n o ≡ true → query_lawful n2 o ≡ true
query-grow n n2 None le e = refl
query-grow n n2 (Some q) le e =
    let p = and_parts (ltb q.input 512) (ltb q.row n) e in
    and_from (ltb q.input 512) (ltb q.row n2) p.0 (ltb-more q.row n n2 le p.1)

-- the arms that a match names run lower expressions

-- arms of n expressions, and so those that a match at place n names
bodies_lower : (n : ℕ) (xs : List Arm) (from long : ℕ) → arms_lawful n xs ≡ true → bodies_below n (take long (drop from xs)) ≡ true
bodies_lower n xs from long law =
    let P = λ (x : Arm). ltb x.body n ≡ true in
    let all = AllPass-from_list_all (λ x. ltb x.body n) xs (list_all-weaker (arm_fits n) (λ x. ltb x.body n) xs (λ x fits. (and_parts (pattern_fits x.pattern) (ltb x.body n) fits).1) law) in
    list_all-from_AllPass (λ x. ltb x.body n) (take long (drop from xs)) (All-take P long (drop from xs) (All-drop P from xs all))

match_lower : (n : ℕ) (xs : List Arm) (e : Expression) → arms_lawful n xs ≡ true → match_right n xs e ≡ true
match_lower n xs Error law = refl
match_lower n xs (Integer v) law = refl
match_lower n xs (Boolean v) law = refl
match_lower n xs (String i k) law = refl
match_lower n xs (Variable v) law = refl
match_lower n xs (Element t x) law = refl
match_lower n xs (Sequence x y) law = refl
match_lower n xs Empty law = refl
match_lower n xs (If x y z) law = refl
match_lower n xs (Let x y) law = refl
match_lower n xs (For x y) law = refl
match_lower n xs (Match x from long y) law = bodies_lower n xs from long law
match_lower n xs (Call f x) law = refl
match_lower n xs (Add x y) law = refl
match_lower n xs (Equal x y) law = refl
match_lower n xs (IsEmpty x) law = refl
match_lower n xs (Count x) law = refl
match_lower n xs (Children x) law = refl
match_lower n xs (As x t) law = refl

pub matches-push : (n : ℕ) (xs : List Arm) (es : List Expression) (e : Expression) → matches_lawful n xs es ≡ true → match_right (n + length es) xs e ≡ true → matches_lawful n xs (es ++ (e ∷ [])) ≡ true
matches-push n xs [] e law right =
    let z : n ≡ n + 0 = omega arith in
    and_from (match_right n xs e) true (ap (λ k. match_right k xs e) z ∙ right) refl
matches-push n xs (x ∷ es) e law right =
    let p = and_parts (match_right n xs x) (matches_lawful (n + 1) xs es) law in
    let k : n + 1 + length es ≡ n + suc (length es) = omega arith in
    and_from (match_right n xs x) (matches_lawful (n + 1) xs (es ++ (e ∷ []))) p.0 (matches-push (n + 1) xs es e p.1 (ap (λ j. match_right j xs e) k ∙ right))

pub matches-push_at : (n : ℕ) (xs : List Arm) (es : List Expression) (e : Expression) → length es ≡ n → arms_lawful n xs ≡ true → matches_lawful 0 xs es ≡ true → matches_lawful 0 xs (es ++ (e ∷ [])) ≡ true
matches-push_at n xs es e long known law =
    let z : 0 + length es ≡ n = omega arith in
    matches-push 0 xs es e law (ap (λ k. match_right k xs e) z ∙ match_lower n xs e known)

-- an arm more changes nothing for the matches that are there
arms_there : (from k n : ℕ) → arms_within from (suc k) n ≡ true → within from (suc k) n ≡ true
arms_there from k n fits = sym (cond-false (eqb (suc k) 0) (eqb from 0) (within from (suc k) n) (ne_eqb (suc k) 0 (λ e. omega arith))) ∙ fits

named_same : (xs : List Arm) (x : Arm) (from long : ℕ) → arms_within from long (length xs) ≡ true → take long (drop from (xs ++ (x ∷ []))) ≡ take long (drop from xs)
named_same xs x from zero fits = refl
named_same xs x from (suc k) fits =
    let le = leb-true (from + suc k) (length xs) (arms_there from k (length xs) fits) in
    let h : from ≤ length xs = omega arith in
    let m : suc k ≤ length (drop from xs) = omega (arith, length-drop from xs) in
    ap (take (suc k)) (drop-append-le from xs (x ∷ []) h) ∙ take-append-le (suc k) (drop from xs) (x ∷ []) m

match-more : (n l : ℕ) (xs : List Arm) (x : Arm) (e : Expression) → expression_fits (room n (length xs) l) e ≡ true → match_right n xs e ≡ true → match_right n (xs ++ (x ∷ [])) e ≡ true
match-more n l xs x Error fits right = refl
match-more n l xs x (Integer v) fits right = refl
match-more n l xs x (Boolean v) fits right = refl
match-more n l xs x (String i k) fits right = refl
match-more n l xs x (Variable v) fits right = refl
match-more n l xs x (Element t a) fits right = refl
match-more n l xs x (Sequence a b) fits right = refl
match-more n l xs x Empty fits right = refl
match-more n l xs x (If a b c) fits right = refl
match-more n l xs x (Let a b) fits right = refl
match-more n l xs x (For a b) fits right = refl
match-more n l xs x (Match a from long b) fits right =
    let p = and_parts (ltb a n) (ltb b n && arms_within from long (length xs)) fits in
    let q = and_parts (ltb b n) (arms_within from long (length xs)) p.1 in
    ap (bodies_below n) (named_same xs x from long q.1) ∙ right
match-more n l xs x (Call f a) fits right = refl
match-more n l xs x (Add a b) fits right = refl
match-more n l xs x (Equal a b) fits right = refl
match-more n l xs x (IsEmpty a) fits right = refl
match-more n l xs x (Count a) fits right = refl
match-more n l xs x (Children a) fits right = refl
match-more n l xs x (As a t) fits right = refl

pub matches-more : (n l : ℕ) (xs : List Arm) (x : Arm) (es : List Expression) → expressions_lawful n (length xs) l es ≡ true → matches_lawful n xs es ≡ true → matches_lawful n (xs ++ (x ∷ [])) es ≡ true
matches-more n l xs x [] fit law = refl
matches-more n l xs x (e ∷ es) fit law =
    let f = and_parts (expression_fits (room n (length xs) l) e) (expressions_lawful (n + 1) (length xs) l es) fit in
    let p = and_parts (match_right n xs e) (matches_lawful (n + 1) xs es) law in
    and_from (match_right n (xs ++ (x ∷ [])) e) (matches_lawful (n + 1) (xs ++ (x ∷ [])) es) (match-more n l xs x e f.0 p.0) (matches-more (n + 1) l xs x es f.1 p.1)
