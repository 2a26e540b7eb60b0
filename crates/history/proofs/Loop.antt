-- Replaying calls one by one.
use Rattle.std.proofs.Common.{◌≡◌, ℕ, suc, ◌+◌, ◌<◌, ◌≤◌, min, ◌⊎◌, List, [], ◌∷◌, ◌++◌, map, length, get_or, take, drop, set, Result, sym, refl, ap, ◌∙◌, inl, inr, arith, take-append-drop, drop-set-lt}
use lib.ListN.{length-map}
use Rattle.std.proofs.lemmas.Bool.{cases_lt}
use Rattle.std.proofs.lemmas.List.{take_more, take_more_set, take_all, drop_all, get_or-map}
use Rattle.forest.specs.declared.fault.Fault.{Fault}
use Rattle.session.specs.Calls.{Tables, empty_tables, Change, clear, applied}
use Rattle.history.specs.declared.call.Call.{Call}
use Rattle.history.specs.declared.call.Call.TheVariants.{Clear}
use Rattle.history.specs.Calls.{change_of, made, ran, replies}
use Rattle.history.specs.History.{history, since, gathered, assembled, after}
use Rattle.history.proofs.Law.{law}

ran-push : (t : Tables) (cs : List Change) (c : Change) → ran t (cs ++ (c ∷ [])) ≡ (applied (ran t cs) c).1
ran-push t [] c = refl
ran-push t (x ∷ cs) c = ran-push (applied t x).1 cs c

replies-push : (t : Tables) (cs : List Change) (c : Change) → replies t (cs ++ (c ∷ [])) ≡ replies t cs ++ ((applied (ran t cs) c).0 ∷ [])
replies-push t [] c = refl
replies-push t (x ∷ cs) c = ap (λ rs. (applied t x).0 ∷ rs) (replies-push (applied t x).1 cs c)

length-replies : (t : Tables) (cs : List Change) → length (replies t cs) ≡ length cs
length-replies t [] = refl
length-replies t (c ∷ cs) = ap suc (length-replies (applied t c).1 cs)

history-front : (cs : List Change) (rs more : List (Result ℕ Fault)) → length rs ≡ length cs → history cs (rs ++ more) ≡ history cs rs
history-front [] rs more e = refl
history-front (c ∷ cs) [] more e = absurd (omega arith)
history-front (c ∷ cs) (r ∷ rs) more e = ap (λ es. (c, r) ∷ es) (history-front cs rs more (omega arith))

-- the first i calls are made
abbrev pub Replayed : List Call → ℕ → List (Result ℕ Fault) → Tables → List (Result ℕ Fault) → Type 0
Replayed calls i start t answers =
    (t ≡ ran empty_tables (take i (map change_of calls)))
    × (take i answers ≡ replies empty_tables (take i (map change_of calls)))
    × ((k : ℕ) → i ≤ k → drop k answers ≡ drop k start)

pub replayed_more : (calls : List Call) (i : ℕ) (start : List (Result ℕ Fault)) (t u : Tables) (answers : List (Result ℕ Fault)) (r : Result ℕ Fault) → Replayed calls i start t answers → i < length calls → i < length answers → (r, u) ≡ applied t (change_of (get_or calls i Clear)) → Replayed calls (i + 1) start u (set answers i r)
replayed_more calls i start t u answers r (at, got, rest) lt room is =
    let cs = map change_of calls in
    let long : i < length cs = omega (arith, length-map calls change_of) in
    let c = change_of (get_or calls i Clear) in
    let one = take_more cs i clear long ∙ ap (λ x. take i cs ++ (x ∷ [])) (get_or-map change_of calls i Clear clear lt) in
    let here = is ∙ ap (λ x. applied x c) at in (
      ap (λ o. o.1) here ∙ sym (ran-push empty_tables (take i cs) c) ∙ ap (ran empty_tables) (sym one),
      take_more_set answers i r room ∙ ap (λ xs. xs ++ (r ∷ [])) got ∙ ap (λ x. replies empty_tables (take i cs) ++ (x ∷ [])) (ap (λ o. o.0) here) ∙ sym (replies-push empty_tables (take i cs) c) ∙ ap (replies empty_tables) (sym one),
      λ k le. drop-set-lt k answers i r (omega arith) ∙ rest k (omega arith),
    )

-- all calls are made for which there is a place

made_all : (calls : List Call) (start : List (Result ℕ Fault)) (i : ℕ) → i ≡ min (length calls) (length start) → (length calls < length start) ⊎ (length start ≤ length calls) → take i (map change_of calls) ≡ made calls start
made_all calls start i is (inl lt) =
    let cs = map change_of calls in
    let long = length-map calls change_of in
    let a : length cs ≤ i = omega arith in
    let b : length cs ≤ length start = omega arith in
    take_all i cs a ∙ sym (take_all (length start) cs b)
made_all calls start i is (inr le) = let e : i ≡ length start = omega arith in ap (λ k. take k (map change_of calls)) e

rest_all : (calls : List Call) (start : List (Result ℕ Fault)) (i : ℕ) → i ≡ min (length calls) (length start) → (length calls < length start) ⊎ (length start ≤ length calls) → drop i start ≡ drop (length calls) start
rest_all calls start i is (inl lt) = let e : i ≡ length calls = omega arith in ap (λ k. drop k start) e
rest_all calls start i is (inr le) = let a : length start ≤ i = omega arith in drop_all i start a ∙ sym (drop_all (length calls) start le)

pub record Done (calls : List Call) (start : List (Result ℕ Fault)) (t : Tables) (answers : List (Result ℕ Fault)) : Type 0 where
  pub answers-are : answers ≡ replies empty_tables (made calls start) ++ drop (length calls) start
  pub tables-are : t ≡ ran empty_tables (made calls start)
  pub law_holds : t ≡ after (made calls start) answers

pub replayed_all : (calls : List Call) (i : ℕ) (start : List (Result ℕ Fault)) (t : Tables) (answers : List (Result ℕ Fault)) → Replayed calls i start t answers → i ≡ min (length calls) (length start) → Done calls start t answers
replayed_all calls i start t answers (at, got, rest) is =
    let which = cases_lt (length calls) (length start) in
    let cs = made calls start in
    let all = made_all calls start i is which in
    let same : i ≤ i = omega arith in
    let given = sym (take-append-drop i answers) ∙ ap (λ xs. xs ++ drop i answers) (got ∙ ap (replies empty_tables) all) ∙ ap (λ xs. replies empty_tables cs ++ xs) (rest i same ∙ rest_all calls start i is which) in
    let end = at ∙ ap (ran empty_tables) all in
    let told = ap (history cs) given ∙ history-front cs (replies empty_tables cs) (drop (length calls) start) (length-replies empty_tables cs) in
    record {
      answers-are = given;
      tables-are = end;
      law_holds = end ∙ law cs ∙ ap (λ es. assembled (gathered (since [] es))) (sym told);
    }
