-- A table that keeps the rules place by place passes the tests on its rows, and so can be asked about.
use Rattle.std.proofs.Common.{◌≡◌, ℕ, ◌<◌, true, not, ◌&&◌, List, [], ◌∷◌, ◌++◌, length, sym, refl, ap, ◌∙◌, subst, inl, inr, append_assoc, arith}
use Rattle.std.proofs.lemmas.Bool.{false_from_ne_true, and_from, or_cases}
use Rattle.std.proofs.lemmas.List.{get_or_at, get_or_append_left}
use Rattle.std.proofs.lemmas.List.Elements.{All-from_get_or}
use Rattle.std.proofs.lemmas.List.Sums.{list_all-from_AllPass}
use Rattle.rows.specs.declared.type_row.TypeRow.{TypeRow}
use Rattle.rows.specs.declared.type_row.TypeRow.TheVariants.{EmptyChoice, EmptySequence, Integer, String, Boolean, Element, AnyElement, Sequence, Choice, Repetition}
use Rattle.rows.specs.TypeRows.{type_fits, owns, shares, twice}
use Rattle.rows.specs.TypeTables.{free, type_right, types_lawful}
use Rattle.types.specs.Parts.{row, Lawful}
use Rattle.types.proofs.Contexts.{owns-part, left, right, first, second, repeats}

-- rows that share a part both own it
common : (r q : TypeRow) → shares r q ≡ true → (p : ℕ) × (owns r p ≡ true) × (owns q p ≡ true)
common EmptyChoice q e = cc
common EmptySequence q e = cc
common Integer q e = cc
common String q e = cc
common Boolean q e = cc
common (Element t c) q e = cc
common (AnyElement c) q e = cc
common (Sequence a b) q e = elim (or_cases (owns q a) (owns q b) e) [
  | inl h ↦ (a, owns-part (left {a = a} {b = b} refl), h)
  | inr h ↦ (b, owns-part (right {a = a} {b = b} refl), h)
]
common (Choice a b) q e = elim (or_cases (owns q a) (owns q b) e) [
  | inl h ↦ (a, owns-part (first {a = a} {b = b} refl), h)
  | inr h ↦ (b, owns-part (second {a = a} {b = b} refl), h)
]
common (Repetition a) q e = (a, owns-part (repeats {a = a} refl), e)

tests_from : (before rs : List TypeRow) → Lawful (before ++ rs) → types_lawful before rs ≡ true
tests_from before [] law = refl
tests_from before (r ∷ rs) law =
    let i = length before in
    let ts = before ++ (r ∷ rs) in
    let at : row ts i ≡ r = get_or_at before r rs EmptyChoice i refl in
    let fits = ap (type_fits i) (sym at) ∙ law.fit i in
    let once = ap (λ t. not (twice t)) (sym at) ∙ ap not (law.once i) in
    let apart = λ (j : ℕ) (lt : j < i). ap not (false_from_ne_true (shares r (row before j)) (λ e.
    let same = get_or_append_left before (r ∷ rs) EmptyChoice j lt in
    let w = common r (row before j) e in
    let k = law.one_owner i j w.0 (ap (λ t. owns t w.0) at ∙ w.1) (ap (λ t. owns t w.0) same ∙ w.2) in
    omega arith)) in
    let alone = list_all-from_AllPass (λ q. not (shares r q)) before (All-from_get_or (λ q. not (shares r q) ≡ true) before EmptyChoice apart) in
    and_from (type_right before r) (types_lawful (before ++ (r ∷ [])) rs)
    (and_from (type_fits i r) (not (twice r) && free before r) fits (and_from (not (twice r)) (free before r) once alone))
    (tests_from (before ++ (r ∷ [])) rs (subst Lawful (sym (append_assoc before (r ∷ []) rs)) law))

pub tests_pass : (ts : List TypeRow) → Lawful ts → types_lawful [] ts ≡ true
tests_pass ts law = tests_from [] ts law
