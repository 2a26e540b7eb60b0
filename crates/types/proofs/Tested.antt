-- Facts about a table of types that is written out: each follows from one test that computes there.
use Rattle.std.proofs.Common.{◌≡◌, ℕ, Bool, true, false, cond, eqb, ltb, ◌&&◌, List, length, Some, None, Option, refl, sym, ap, ◌∙◌, subst, inl, inr}
use Rattle.std.proofs.lemmas.Bool.{agree_below, agree_below_at, and_parts, cases_lt, eqb-true, false≢true, ltb-true}
use Rattle.std.proofs.lemmas.List.{get_or_past}
use Rattle.rows.specs.declared.type_row.TypeRow.{TypeRow}
use Rattle.rows.specs.declared.type_row.TypeRow.TheVariants.{EmptyChoice}
use Rattle.rows.specs.TypeRows.{owns}
use Rattle.types.specs.Parts.{row, content, Root}
use Rattle.types.specs.Determinism.{Label, label, both_meet, overlaps, Deterministic}
use Rattle.types.specs.Asking.{ContentsRooted}
use Rattle.types.proofs.Inside.{item-there}

-- what overlaps is an item, on both sides
both-items : (x y : Option Label) → both_meet x y ≡ true → ((l : Label) × (x ≡ Some l)) × ((l : Label) × (y ≡ Some l))
both-items None y e = absurd (false≢true e)
both-items (Some x) None e = absurd (false≢true e)
both-items (Some x) (Some y) e = ((x, refl), (y, refl))

module _ (ts : List TypeRow) where
  -- no row of the table owns r
  abbrev unowned_test : ℕ → Bool
  unowned_test r = agree_below (λ s. owns (row ts s) r) (λ s. false) (length ts)

  abbrev pub root_test : ℕ → Bool
  root_test r = ltb r (length ts) && unowned_test r

  unowned : (r : ℕ) → unowned_test r ≡ true → (s : ℕ) → owns (row ts s) r ≡ false
  unowned r h s = elim (cases_lt s (length ts)) [
    | inl lt ↦ agree_below_at (λ s. owns (row ts s) r) (λ s. false) (length ts) s h lt
    | inr past ↦ ap (λ w. owns w r) (get_or_past ts s EmptyChoice past)
  ]

  pub tested-root : (r : ℕ) → root_test r ≡ true → Root ts r
  tested-root r h =
      let parts = and_parts (ltb r (length ts)) (unowned_test r) h in
      record { there = ltb-true r (length ts) parts.0; unowned = unowned r parts.1 }

  -- a content, if there is one, is a root
  abbrev content_test : Option ℕ → Bool
  content_test None = true
  content_test (Some c) = root_test c

  abbrev pub contents_test : Bool
  contents_test = agree_below (λ n. content_test (content (row ts n))) (λ n. true) (length ts)

  pub tested-contents : contents_test ≡ true → ContentsRooted ts
  tested-contents h n lt c e = tested-root c (ap content_test (sym e) ∙ agree_below_at (λ n. content_test (content (row ts n))) (λ n. true) (length ts) n h lt)

  -- row n is m, if it overlaps it
  abbrev same_test : ℕ → ℕ → Bool
  same_test m n = cond (overlaps (row ts m) (row ts n)) (eqb m n) true

  -- no two rows overlap
  abbrev pub apart_test : Bool
  apart_test = agree_below (λ m. agree_below (same_test m) (λ n. true) (length ts)) (λ m. true) (length ts)

  apart : apart_test ≡ true → (m n : ℕ) → overlaps (row ts m) (row ts n) ≡ true → m ≡ n
  apart h m n o =
      let items = both-items (label (row ts m)) (label (row ts n)) o in
      let at-m = agree_below_at (λ m. agree_below (same_test m) (λ n. true) (length ts)) (λ m. true) (length ts) m h (item-there ts m items.0.1) in
      let at-n = agree_below_at (same_test m) (λ n. true) (length ts) n at-m (item-there ts n items.1.1) in
      eqb-true m n (subst (λ b. cond b (eqb m n) true ≡ true) o at-n)

  -- where no two rows overlap, every row is one-way
  pub tested-one-way : apart_test ≡ true → (r : ℕ) → Deterministic ts r
  tested-one-way h r = record {
    firsts = λ m n f g o. apart h m n o;
    follows = λ p m n w f g o. apart h m n o;
  }
