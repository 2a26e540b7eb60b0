-- The tags of marks, in the order in which they are first named.
use Rattle.std.proofs.Common.{◌≡◌, nat_eq, ◌-◌, ℕ, zero, suc, ◌+◌, ◌<◌, ◌≤◌, Bool, true, false, cond, ◌||◌, eqb, inl, inr, List, [], ◌∷◌, ◌++◌, length, map, get_or, take, drop, Some, None, Option, sym, refl, ap, ◌∙◌, arith, length-append, length-drop, take_at, eqb-true, eq-eqb, le_of_suc-le-suc, not-suc-le-zero}
use Rattle.std.proofs.lemmas.Bool.{both_ways, cases_lt, or_cases, or_left, or_right}
use Rattle.std.proofs.lemmas.List.{take_more, get_or_default, get_or_append_left, get_or-append-add, length-map, drop-drop, drop_at}
use Rattle.std.proofs.Math.ListN.{get_or-map}
use Rattle.std.proofs.lemmas.Cmp.{nat_eq_equiv}
use Rattle.std.proofs.lemmas.List.Folds.{list_any-append}
use Rattle.std.proofs.lemmas.List.Sums.{sum_by-cons, sum_by-take-le}
use Rattle.std.proofs.lemmas.Map.Keys.{IsDistinct-push, IsDistinct-from_apart, apart_from_distinct}
use Rattle.std.proofs.lemmas.Map.Made.{length-from_same_keys}
use Rattle.std.specs.List.{IsDistinct, list_any, count_by}
use Rattle.std.specs.Option.{is_some, option_to_list}
use Rattle.rows.specs.declared.expression.Expression.TheVariants.{Error}
use Rattle.rows.specs.declared.arm.Arm.{Arm}
use Rattle.rows.specs.declared.arm.Pattern.TheVariants.{Integer}
use Rattle.rows.specs.Arms.{arm_tag}
use Rattle.rows.specs.Expressions.{element_tag}
use Rattle.rows.specs.Programs.{ProgramRows}
use Rattle.session.specs.Tags.{marks, is_tag, names, distinct, tag_count, with_mark, with_marks, ListsTags}
use Rattle.session.proofs.Marks.{Found, Apart, once, listed}

abbrev among : List ℕ → ℕ → Bool
among ts q = list_any (λ s. eqb s q) ts

-- what is among the tags after a mark

or_none : (x : Bool) → x ≡ (x || false)
or_none true = refl
or_none false = refl

or_moved : (x y z : Bool) → ((x || y) || z) ≡ (x || (y || z))
or_moved true y z = refl
or_moved false y z = refl

absorbed : (x b : Bool) → (b ≡ true → x ≡ true) → x ≡ (x || b)
absorbed true b h = refl
absorbed false true h = h refl
absorbed false false h = refl

among-with_mark : (ts : List ℕ) (o : Option ℕ) (q : ℕ) → among (with_mark ts o) q ≡ (among ts q || is_tag o q)
among-with_mark ts None q = or_none (among ts q)
among-with_mark ts (Some t) q = by (among ts t) refl
  where
    by : (b : Bool) → among ts t ≡ b → among (cond b ts (ts ++ (t ∷ []))) q ≡ (among ts q || eqb t q)
    by true is = absorbed (among ts q) (eqb t q) (λ e. ap (among ts) (sym (eqb-true t q e)) ∙ is)
    by false is = list_any-append (λ s. eqb s q) ts (t ∷ []) ∙ ap (λ b. among ts q || b) (sym (or_none (eqb t q)))

among-with_marks : (ts : List ℕ) (os : List (Option ℕ)) (q : ℕ) → among (with_marks ts os) q ≡ (among ts q || names os q)
among-with_marks ts [] q = or_none (among ts q)
among-with_marks ts (o ∷ os) q =
    among-with_marks (with_mark ts o) os q ∙ ap (λ b. b || names os q) (among-with_mark ts o q) ∙ or_moved (among ts q) (is_tag o q) (names os q)

-- no tag is there twice

turned : (t : ℕ) (ts : List ℕ) → list_any (nat_eq t) ts ≡ among ts t
turned t [] = refl
turned t (s ∷ ts) = ap (λ b. b || list_any (nat_eq t) ts) (nat_eq_equiv.symm t s) ∙ ap (λ b. eqb s t || b) (turned t ts)

firsts_apart : (ts : List ℕ) (os : List (Option ℕ)) → IsDistinct nat_eq ts → IsDistinct nat_eq (with_marks ts os)
firsts_apart ts [] d = d
firsts_apart ts (None ∷ os) d = firsts_apart ts os d
firsts_apart ts (Some t ∷ os) d = firsts_apart (with_mark ts (Some t)) os (by (among ts t) refl)
  where
    by : (b : Bool) → among ts t ≡ b → IsDistinct nat_eq (cond b ts (ts ++ (t ∷ [])))
    by true is = d
    by false is = IsDistinct-push nat_eq_equiv ts t d (turned t ts ∙ is)

apart : (os : List (Option ℕ)) → IsDistinct nat_eq (with_marks [] os)
apart os = firsts_apart [] os (IsDistinct-from_apart nat_eq [] (λ i j d a b. let no : ⊥ = omega arith in absurd no))

-- they are as many as the tags that are named last

last_apart : (os : List (Option ℕ)) (i j d : ℕ) → i < j → j < length (distinct os) → (b : Bool) → nat_eq (get_or (distinct os) i d) (get_or (distinct os) j d) ≡ b → b ≡ false
last_apart os i j d lt l true e =
    let ts = distinct os in
    let li : i < length ts = omega arith in
    let same = once os i j li l (get_or_default ts i 0 d li ∙ eqb-true _ _ e ∙ get_or_default ts j d 0 l) in
    let no : ⊥ = omega arith in absurd no
last_apart os i j d lt l false e = refl

absorbed_left : (b x : Bool) → (b ≡ true → x ≡ true) → x ≡ (b || x)
absorbed_left true x h = h refl
absorbed_left false x h = refl

last-among : (os : List (Option ℕ)) (q : ℕ) → among (distinct os) q ≡ names os q
last-among [] q = refl
last-among (None ∷ os) q = last-among os q
last-among (Some t ∷ os) q = by (names os t) refl (last-among os q)
  where
    by : (b : Bool) → names os t ≡ b → among (distinct os) q ≡ names os q → among (option_to_list (cond b None (Some t)) ++ distinct os) q ≡ (eqb t q || names os q)
    by true is rec = rec ∙ absorbed_left (eqb t q) (names os q) (λ e. ap (names os) (sym (eqb-true t q e)) ∙ is)
    by false is rec = ap (λ b. eqb t q || b) rec

pub firsts-long : (os : List (Option ℕ)) → length (with_marks [] os) ≡ length (distinct os)
firsts-long os =
    let ts = with_marks [] os in
    let last = IsDistinct-from_apart nat_eq (distinct os) (λ i j d lt l. last_apart os i j d lt l (nat_eq (get_or (distinct os) i d) (get_or (distinct os) j d)) refl) in
    length-from_same_keys nat_eq_equiv ts (distinct os) (apart os) last (λ q. turned q ts ∙ among-with_marks [] os q ∙ sym (last-among os q) ∙ sym (turned q (distinct os)))

-- a list that begins with them lists the tags

here : (xs : List ℕ) (i : ℕ) → i < length xs → among xs (get_or xs i 0) ≡ true
here [] i lt = absurd (not-suc-le-zero lt)
here (x ∷ xs) zero lt = or_left (eqb x x) (among xs x) (eq-eqb x x refl)
here (x ∷ xs) (suc i) lt = or_right (eqb x (get_or xs i 0)) (among xs (get_or xs i 0)) (here xs i (le_of_suc-le-suc lt))

found : (xs : List ℕ) (t : ℕ) → among xs t ≡ true → Found xs t
found [] t e = cc
found (x ∷ xs) t e =
    elim (or_cases (eqb x t) (among xs t) e) [
      | inl h ↦ (zero, omega arith, eqb-true x t h)
      | inr h ↦ let p = found xs t h in (suc p.0, (let lt = p.1 in omega arith), p.2)
    ]

at_once : (xs : List ℕ) → IsDistinct nat_eq xs → Apart xs
at_once xs d i j li lj e =
    elim (cases_lt i j) [
      | inl lt ↦ absurd (both_ways _ (apart_from_distinct nat_eq xs i j 0 d lt lj) (eq-eqb _ _ e))
      | inr le ↦ elim (cases_lt j i) [
        | inl lt ↦ absurd (both_ways _ (apart_from_distinct nat_eq xs j i 0 d lt li) (eq-eqb _ _ (sym e)))
        | inr ge ↦ omega arith
      ]
    ]

pub first_lists : (p : ProgramRows) (n : ℕ) (before after : List ℕ) → n ≡ tag_count p → n ≤ length before → after ≡ with_marks [] (marks p) ++ drop n before → ListsTags p n before after
first_lists p n before after is le eq =
    let os = marks p in
    let ts = with_marks [] os in
    listed p n before after ts is (is ∙ sym (firsts-long os)) le eq
    (λ i lt. sym (among-with_marks [] os (get_or ts i 0)) ∙ here ts i lt)
    (λ t named. found ts t (among-with_marks [] os t ∙ named))
    (at_once ts (apart os))

-- one mark after the other is put

with_marks-push : (ts : List ℕ) (os : List (Option ℕ)) (o : Option ℕ) → with_marks ts (os ++ (o ∷ [])) ≡ with_mark (with_marks ts os) o
with_marks-push ts [] o = refl
with_marks-push ts (x ∷ os) o = with_marks-push (with_mark ts x) os o

next : (ms : List (Option ℕ)) (i : ℕ) (o : Option ℕ) → i < length ms → get_or ms i None ≡ o → with_marks [] (take (i + 1) ms) ≡ with_mark (with_marks [] (take i ms)) o
next ms i o lt is = ap (with_marks []) (take_more ms i None lt) ∙ with_marks-push [] (take i ms) (get_or ms i None) ∙ ap (with_mark (with_marks [] (take i ms))) is

with_mark_long : (ts : List ℕ) (o : Option ℕ) → (length ts ≤ length (with_mark ts o)) × (length (with_mark ts o) ≤ length ts + 1)
with_mark_long ts None = (omega arith, omega arith)
with_mark_long ts (Some t) = by (among ts t)
  where
    by : (b : Bool) → (length ts ≤ length (cond b ts (ts ++ (t ∷ [])))) × (length (cond b ts (ts ++ (t ∷ []))) ≤ length ts + 1)
    by true = (omega arith, omega arith)
    by false = let l = length-append ts (t ∷ []) in (omega arith, omega arith)

pub firsts-few : (ts : List ℕ) (os : List (Option ℕ)) → length (with_marks ts os) ≤ length ts + count_by is_some os
firsts-few ts [] = omega arith
firsts-few ts (None ∷ os) = firsts-few ts os
firsts-few ts (Some t ∷ os) = let c : count_by is_some (Some t ∷ os) ≡ 1 + count_by is_some os = sum_by-cons (λ o. cond (is_some o) 1 0) (Some t) os in let rec = firsts-few (with_mark ts (Some t)) os in let one = (with_mark_long ts (Some t)).1 in omega arith

-- n tags of the marks lie in front of the list, and the rest is as it was
abbrev pub Written : List (Option ℕ) → List ℕ → ℕ → List ℕ → Type 0
Written os before n list = (n ≡ length (with_marks [] os)) × (list ≡ with_marks [] os ++ drop n before)

front : (os : List (Option ℕ)) (before : List ℕ) (n : ℕ) (list : List ℕ) → Written os before n list → take n list ≡ with_marks [] os
front os before n list w = ap (take n) w.1 ∙ take_at (with_marks [] os) (drop n before) n (sym w.0)

pub written-more : (ms : List (Option ℕ)) (i : ℕ) (o : Option ℕ) (before list new : List ℕ) (n m : ℕ) → i < length ms → get_or ms i None ≡ o → Written (take i ms) before n list → m ≡ length (with_mark (take n list) o) → new ≡ with_mark (take n list) o ++ drop m list → Written (take (i + 1) ms) before m new
written-more ms i o before list new n m lt is w long put =
    let ts = with_marks [] (take i ms) in
    let now = front (take i ms) before n list w in
    let then : with_mark (take n list) o ≡ with_marks [] (take (i + 1) ms) = ap (λ xs. with_mark xs o) now ∙ sym (next ms i o lt is) in
    let le : n ≤ m = omega (arith, long, ap (λ xs. length (with_mark xs o)) now, (with_mark_long ts o).0, w.0) in
    let z : m ≡ n + (m - n) = omega arith in
    let rest : drop m list ≡ drop m before =
    ap (λ k. drop k list) z ∙ sym (drop-drop (m - n) n list) ∙ ap (drop (m - n)) (ap (drop n) w.1 ∙ drop_at ts (drop n before) n (sym w.0)) ∙ drop-drop (m - n) n before ∙ ap (λ k. drop k before) (sym z) in
    (long ∙ ap length then, put ∙ ap (λ xs. xs ++ drop m list) then ∙ ap (λ xs. with_marks [] (take (i + 1) ms) ++ xs) rest)

pub written-room : (ms : List (Option ℕ)) (i : ℕ) (o : Option ℕ) (before list : List ℕ) (n : ℕ) → i < length ms → get_or ms i None ≡ o → Written (take i ms) before n list → count_by is_some ms ≤ length before → (n ≤ length list) × (length (with_mark (take n list) o) ≤ length list)
written-room ms i o before list n lt is w fits =
    let ts = with_marks [] (take i ms) in
    let now = ap (λ xs. length (with_mark xs o)) (front (take i ms) before n list w) in
    let a = firsts-few [] (take i ms) in
    let b = sum_by-take-le (λ x. cond (is_some x) 1 0) ms i in
    let c = firsts-few [] (take (i + 1) ms) in
    let d = sum_by-take-le (λ x. cond (is_some x) 1 0) ms (i + 1) in
    let e = ap length (next ms i o lt is) in
    let l = ap length w.1 ∙ length-append ts (drop n before) in
    let r = length-drop n before in
    let k = w.0 in
    (omega arith, omega arith)

-- the marks of the rows

abbrev pub no_arm : Arm
no_arm = record { pattern = Integer; body = 0 }

pub mark-row : (p : ProgramRows) (i : ℕ) → i < length p.expressions → (i < length (marks p)) × (get_or (marks p) i None ≡ element_tag (get_or p.expressions i Error))
mark-row p i lt =
    let es = map element_tag p.expressions in
    let l = length-append es (map arm_tag p.arms) in
    let m = length-map p.expressions element_tag in
    (omega arith, get_or_append_left es (map arm_tag p.arms) None i (omega arith) ∙ get_or-map element_tag p.expressions i Error)

pub mark-arm : (p : ProgramRows) (i : ℕ) → i < length p.arms → (length p.expressions + i < length (marks p)) × (get_or (marks p) (length p.expressions + i) None ≡ arm_tag (get_or p.arms i no_arm))
mark-arm p i lt =
    let es = map element_tag p.expressions in
    let xs = map arm_tag p.arms in
    let l = length-append es xs in
    let m = length-map p.expressions element_tag in
    let k = length-map p.arms arm_tag in
    (omega arith, ap (λ n. get_or (es ++ xs) (n + i) None) (sym m) ∙ get_or-append-add es xs i None ∙ get_or-map arm_tag p.arms i no_arm)

pub marks-long : (p : ProgramRows) → length (marks p) ≡ length p.expressions + length p.arms
marks-long p =
    let l = length-append (map element_tag p.expressions) (map arm_tag p.arms) in
    let m = length-map p.expressions element_tag in
    let k = length-map p.arms arm_tag in
    omega arith
