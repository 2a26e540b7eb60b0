-- The marks of a program's rows, and the tags among them.
use Rattle.std.proofs.Common.{◌≡◌, ℕ, nat_eq, zero, suc, ◌<◌, ◌≤◌, Bool, true, false, not, cond, ◌||◌, eqb, ◌⊎◌, List, [], ◌∷◌, ◌++◌, length, get_or, drop, Some, None, Option, sym, refl, ap, ◌∙◌, inl, inr, MatchOption, le_of_suc-le-suc, not-suc-le-zero, arith, length-append, length-drop, eq-eqb, eqb-true}
use Rattle.std.proofs.lemmas.Bool.{both_ways, or_cases, or_left, or_right}
use Rattle.std.specs.Bool.{then_some}
use Rattle.std.specs.List.{list_any}
use Rattle.std.specs.Option.{option_to_list, option_eq}
use Rattle.std.proofs.lemmas.List.{get_or_append_left, drop_at}
use Rattle.rows.specs.Programs.{ProgramRows}
use Rattle.session.specs.Tags.{marks, is_tag, names, lasting, distinct, tag_count, ListsTags}

-- a mark among the others names the tag
pub list_any-names : (os : List (Option ℕ)) (t : ℕ) → list_any (λ o. option_eq nat_eq o (Some t)) os ≡ names os t
list_any-names [] t = refl
list_any-names (None ∷ os) t = list_any-names os t
list_any-names (Some s ∷ os) t = ap (λ b. eqb s t || b) (list_any-names os t)

-- the tag of a mark that passes a test which says that no other names it
pub lasting-filter : {P : ℕ → Bool → Type 0} (os : List (Option ℕ)) (m r : Option ℕ) → ((t : ℕ) (b : Bool) → P t b → b ≡ not (list_any (λ o. option_eq nat_eq o (Some t)) os)) → MatchOption m (r ≡ None) (λ t. (b : Bool) × P t b × (r ≡ then_some b t)) → r ≡ lasting m os
lasting-filter os None r test e = e
lasting-filter os (Some t) r test (b, passed, e) =
    e ∙ ap (λ x. then_some x t) (test t b passed ∙ ap not (list_any-names os t))
    ∙ elim (names os t) as (λ x. then_some (not x) t ≡ cond x None (Some t)) [
      | true ↦ refl
      | false ↦ refl
    ]

-- a tag is named at some place

named_in : (os : List (Option ℕ)) (t : ℕ) → names os t ≡ true → (i : ℕ) × (get_or os i None ≡ Some t)
named_in [] t e = cc
named_in (None ∷ os) t e = let p = named_in os t e in (suc p.0, p.1)
named_in (Some s ∷ os) t e =
    elim (or_cases (eqb s t) (names os t) e) [
      | inl h ↦ (zero, ap (λ n. Some n) (eqb-true s t h))
      | inr h ↦ let p = named_in os t h in (suc p.0, p.1)
    ]

in_named : (os : List (Option ℕ)) (i t : ℕ) → get_or os i None ≡ Some t → names os t ≡ true
in_named [] i t e = absurd (let z : ◌≡◌ {A = ℕ} 0 1 = cc in omega arith)
in_named (o ∷ os) zero t e = or_left (is_tag o t) (names os t) (ap (λ x. is_tag x t) e ∙ eq-eqb t t refl)
in_named (o ∷ os) (suc i) t e = or_right (is_tag o t) (names os t) (in_named os i t e)

-- the distinct tags are the named ones, each once

abbrev step : Bool → ℕ → List (Option ℕ) → List ℕ
step b t os = option_to_list (cond b None (Some t)) ++ distinct os

each-by : (b : Bool) (t : ℕ) (os : List (Option ℕ)) (i : ℕ) → ((k : ℕ) → k < length (distinct os) → names os (get_or (distinct os) k 0) ≡ true) → i < length (step b t os) → names (Some t ∷ os) (get_or (step b t os) i 0) ≡ true
each-by true t os i rec lt = or_right (eqb t (get_or (distinct os) i 0)) (names os (get_or (distinct os) i 0)) (rec i lt)
each-by false t os zero rec lt = or_left (eqb t t) (names os t) (eq-eqb t t refl)
each-by false t os (suc i) rec lt = or_right (eqb t (get_or (distinct os) i 0)) (names os (get_or (distinct os) i 0)) (rec i (le_of_suc-le-suc lt))

each : (os : List (Option ℕ)) (i : ℕ) → i < length (distinct os) → names os (get_or (distinct os) i 0) ≡ true
each [] i lt = absurd (not-suc-le-zero lt)
each (None ∷ os) i lt = each os i lt
each (Some t ∷ os) i lt = each-by (names os t) t os i (each os) lt

abbrev pub Found : List ℕ → ℕ → Type 0
Found xs t = (i : ℕ) × (i < length xs) × (get_or xs i 0 ≡ t)

later : (s t : ℕ) (xs : List ℕ) → Found xs t → Found (s ∷ xs) t
later s t xs (i, lt, e) = (suc i, omega arith, e)

all-by : (b : Bool) (s t : ℕ) (os : List (Option ℕ)) → names os s ≡ b → (names os t ≡ true → Found (distinct os) t) → (s ≡ t) ⊎ (names os t ≡ true) → Found (step b s os) t
all-by true s t os is rec (inl e) = rec (ap (names os) (sym e) ∙ is)
all-by true s t os is rec (inr h) = rec h
all-by false s t os is rec (inl e) = (0, omega arith, e)
all-by false s t os is rec (inr h) = later s t (distinct os) (rec h)

which : (s t : ℕ) (os : List (Option ℕ)) → (eqb s t ≡ true) ⊎ (names os t ≡ true) → (s ≡ t) ⊎ (names os t ≡ true)
which s t os (inl e) = inl (eqb-true s t e)
which s t os (inr h) = inr h

all : (os : List (Option ℕ)) (t : ℕ) → names os t ≡ true → Found (distinct os) t
all [] t e = cc
all (None ∷ os) t e = all os t e
all (Some s ∷ os) t e = all-by (names os s) s t os refl (all os t) (which s t os (or_cases (eqb s t) (names os t) e))

abbrev pub Apart : List ℕ → Type 0
Apart xs = (i j : ℕ) → i < length xs → j < length xs → get_or xs i 0 ≡ get_or xs j 0 → i ≡ j

once_by : (b : Bool) (t : ℕ) (os : List (Option ℕ)) → names os t ≡ b → Apart (distinct os) → Apart (step b t os)
once_by true t os is rec i j li lj e = rec i j li lj e
once_by false t os is rec zero zero li lj e = refl
once_by false t os is rec zero (suc j) li lj e = absurd (both_ways (names os t) is (ap (names os) e ∙ each os j (le_of_suc-le-suc lj)))
once_by false t os is rec (suc i) zero li lj e = absurd (both_ways (names os t) is (ap (names os) (sym e) ∙ each os i (le_of_suc-le-suc li)))
once_by false t os is rec (suc i) (suc j) li lj e = ap suc (rec i j (le_of_suc-le-suc li) (le_of_suc-le-suc lj) e)

pub once : (os : List (Option ℕ)) → Apart (distinct os)
once [] i j li lj e = absurd (not-suc-le-zero li)
once (None ∷ os) i j li lj e = once os i j li lj e
once (Some t ∷ os) i j li lj e = once_by (names os t) t os refl (once os) i j li lj e

-- there are no more of them than marks

at_most_one : (o : Option ℕ) → length (option_to_list o) ≤ 1
at_most_one None = omega arith
at_most_one (Some t) = omega arith

pub distinct-few : (os : List (Option ℕ)) → length (distinct os) ≤ length os
distinct-few [] = omega arith
distinct-few (o ∷ os) = omega (arith, length-append (option_to_list (lasting o os)) (distinct os), at_most_one (lasting o os), distinct-few os)

-- a list that begins with the named tags, each once
pub listed : (p : ProgramRows) (n : ℕ) (before after ts : List ℕ) → n ≡ tag_count p → n ≡ length ts → n ≤ length before → after ≡ ts ++ drop n before → ((i : ℕ) → i < length ts → names (marks p) (get_or ts i 0) ≡ true) → ((t : ℕ) → names (marks p) t ≡ true → Found ts t) → Apart ts → ListsTags p n before after
listed p n before after ts is long le eq each all once =
    let os = marks p in
    let front = λ (i : ℕ) (lt : i < length ts). ap (λ xs. get_or xs i 0) eq ∙ get_or_append_left ts (drop n before) 0 i lt in
    record {
      number = is;
      long = ap length eq ∙ omega (arith, length-append ts (drop n before), length-drop n before);
      there = le;
      each = λ i lt. let h : i < length ts = omega arith in let q = named_in os (get_or ts i 0) (each i h) in (q.0, q.1 ∙ ap (λ n. Some n) (sym (front i h)));
      all = λ t named. let q = all t (in_named os named.0 t named.1) in (q.0, (let h = q.1 in omega arith), front q.0 q.1 ∙ q.2);
      once = λ i j li lj e. let hi : i < length ts = omega arith in let hj : j < length ts = omega arith in once i j hi hj (sym (front i hi) ∙ e ∙ front j hj);
      rest = ap (drop n) eq ∙ drop_at ts (drop n before) n (sym long);
    }

-- a list that begins with the distinct tags
pub lists : (p : ProgramRows) (n : ℕ) (before after : List ℕ) → n ≡ tag_count p → n ≤ length before → after ≡ distinct (marks p) ++ drop n before → ListsTags p n before after
lists p n before after is le eq = let os = marks p in listed p n before after (distinct os) is is le eq (each os) (all os) (once os)
