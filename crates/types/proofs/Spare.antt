-- A tag that no row of a short table names.
use Rattle.std.proofs.Common.{◌≡◌, ℕ, zero, suc, ◌<◌, ◌≤◌, true, ◌⊎◌, List, [], ◌∷◌, length, sym, refl, ap, ◌∙◌, inl, inr, arith}
use native.Mathlib.Decide.{ℕ_discrete}
use Rattle.std.proofs.lemmas.Bool.Decides.{nat_tests}
use Rattle.forest.specs.Forests.{tag_lawful}
use Rattle.rows.specs.declared.type_row.TypeRow.{TypeRow}
use Rattle.rows.specs.declared.type_row.TypeRow.TheVariants.{EmptyChoice, EmptySequence, Integer, String, Boolean, Element, AnyElement, Sequence, Choice, Repetition}
use Rattle.types.specs.Parts.{row}

data Mem (t : ℕ) : List ℕ → Type 0 where
  here : {x : ℕ} {xs : List ℕ} → t ≡ x → Mem t (x ∷ xs)
  there : {x : ℕ} {xs : List ℕ} → Mem t xs → Mem t (x ∷ xs)

-- xs without one t, if t stands in xs: shorter, and it keeps all others
record Without (t : ℕ) (xs : List ℕ) : Type 0 where
  others : List ℕ
  shorter : length others < length xs
  keeps : (u : ℕ) → Mem u xs → (u ≡ t) ⊎ Mem u others

without : {t : ℕ} {xs : List ℕ} → Mem t xs → Without t xs
without {t} (here {x} {xs} e) = record { others = xs; shorter = omega arith; keeps = keep }
  where
    keep : (u : ℕ) → Mem u (x ∷ xs) → (u ≡ t) ⊎ Mem u xs
    keep u (here p) = inl (p ∙ sym e)
    keep u (there m) = inr m
without {t} (there {x} {xs} m) = more (without m)
  where
    more : Without t xs → Without t (x ∷ xs)
    more w = record { others = x ∷ w.others; shorter = omega arith; keeps = keep }
      where
        keep : (u : ℕ) → Mem u (x ∷ xs) → (u ≡ t) ⊎ Mem u (x ∷ w.others)
        keep u (here p) = inr (here p)
        keep u (there k) = elim (w.keeps u k) [ inl e ↦ inl e | inr q ↦ inr (there q) ]

find : (t : ℕ) (xs : List ℕ) → Mem t xs ⊎ (Mem t xs → ⊥)
find t [] = inr (λ m. elim m [ ])
find t (x ∷ xs) = go (ℕ_discrete t x) (find t xs)
  where
    go : Dec (t ≡ x) → Mem t xs ⊎ (Mem t xs → ⊥) → Mem t (x ∷ xs) ⊎ (Mem t (x ∷ xs) → ⊥)
    go (yes e) r = inl (here e)
    go (no n) (inl m) = inl (there m)
    go (no n) (inr k) = inr none
      where
        none : Mem t (x ∷ xs) → ⊥
        none (here e) = n e
        none (there m) = k m

record Free (n : ℕ) (xs : List ℕ) : Type 0 where
  tag : ℕ
  low : 1 ≤ tag
  high : tag ≤ n
  free : Mem tag xs → ⊥

free_more : (n : ℕ) (xs : List ℕ) → ((ys : List ℕ) → length ys < n → Free n ys) → length xs < suc n → Mem (suc n) xs ⊎ (Mem (suc n) xs → ⊥) → Free (suc n) xs
free_more n xs ih h (inr k) = record { tag = suc n; low = omega arith; high = omega arith; free = k }
free_more n xs ih h (inl m) =
    let w = without m in
    let r = ih w.others (omega arith) in
    record { tag = r.tag; low = r.low; high = omega arith; free = λ q. elim (w.keeps r.tag q) [ inl e ↦ absurd (omega arith) | inr z ↦ r.free z ] }

free : (n : ℕ) (xs : List ℕ) → length xs < n → Free n xs
free zero xs h = absurd (omega arith)
free (suc n) xs h = free_more n xs (free n) h (find (suc n) xs)

-- the tag that a row names
abbrev tag_of : TypeRow → ℕ
tag_of EmptyChoice = 0
tag_of EmptySequence = 0
tag_of Integer = 0
tag_of String = 0
tag_of Boolean = 0
tag_of (Element t c) = t
tag_of (AnyElement c) = 0
tag_of (Sequence a b) = 0
tag_of (Choice a b) = 0
tag_of (Repetition a) = 0

abbrev tags : List TypeRow → List ℕ
tags [] = []
tags (x ∷ ts) = tag_of x ∷ tags ts

as_many : (ts : List TypeRow) → length (tags ts) ≡ length ts
as_many [] = refl
as_many (x ∷ ts) = ap suc (as_many ts)

named : (ts : List TypeRow) (r : ℕ) {t c : ℕ} → row ts r ≡ Element t c → Mem t (tags ts)
named [] r e = let z : ◌≡◌ {A = ℕ} 0 1 = cc in absurd (omega arith)
named (x ∷ ts) zero e = here (ap tag_of (sym e))
named (x ∷ ts) (suc r) e = there (named ts r e)

pub record Spare (ts : List TypeRow) : Type 0 where
  pub tag : ℕ
  pub lawful : tag_lawful tag ≡ true
  pub unnamed : (r c : ℕ) → row ts r ≡ Element tag c → ⊥

pub spare : (ts : List TypeRow) → length ts ≤ 512 → Spare ts
spare ts h =
    let l = as_many ts in
    let f = free 65535 (tags ts) (omega arith) in
    record { tag = f.tag; lawful = in_range f.tag f.low f.high; unnamed = λ r c e. f.free (named ts r e) }
  where
    in_range : (t : ℕ) → 1 ≤ t → t ≤ 65535 → tag_lawful t ≡ true
    in_range t a b = grind (arith, nat_tests)
