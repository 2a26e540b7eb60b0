-- Pairs put into a worklist.
use Rattle.std.proofs.Common.{◌≡◌, ℕ, ◌<◌, Bool, true, false, not, ◌⊎◌, List, sym, refl, ap, ◌∙◌, inl, inr, arith}
use native.Mathlib.Decide.{ℕ_discrete}
use Rattle.std.proofs.lemmas.Bool.{and_from, and_parts, lt-ltb, not-true, false_from_ne_true, false≢true}
use Rattle.bits.specs.Bits.{bit, size, room, Inserted, Removed}
use Rattle.bits.proofs.Laws.{size-le}
use Rattle.subtyping.specs.declared.pairs.Pairs.{Pairs}
use Rattle.subtyping.specs.Worklist.{Visited, Waiting, Grown, Put, Taken}

-- what is set behind an insertion was set before, or is the place
now_set : (old new : List ℕ) (x : ℕ) (f : Bool) → Inserted old new x f → (y : ℕ) → bit new y ≡ true → (bit old y ≡ true) ⊎ (y ≡ x)
now_set old new x f i y s = go (ℕ_discrete y x)
  where
    go : Dec (y ≡ x) → (bit old y ≡ true) ⊎ (y ≡ x)
    go (yes e) = inr e
    go (no n) = inl (sym (i.others y n) ∙ s)

still-set : (old new : List ℕ) (x : ℕ) (f : Bool) → Inserted old new x f → x < room old → (y : ℕ) → bit old y ≡ true → bit new y ≡ true
still-set old new x f i h y s = go (ℕ_discrete y x)
  where
    go : Dec (y ≡ x) → bit new y ≡ true
    go (yes e) = ap (bit new) e ∙ i.here h
    go (no n) = i.others y n ∙ s

module _ (old q : Pairs) (x : ℕ) (within : x < 1048576) where
  in_visited : x < room old.visited.words
  in_visited = let h = old.visited.long in omega arith

  in_waiting : x < room old.waiting.words
  in_waiting = let h = old.waiting.long in omega arith

  -- a new pair waits
  pub pushed : (f : Bool) → Inserted old.visited.words q.visited.words x true → Inserted old.waiting.words q.waiting.words x f → Put old q (λ y. y ≡ x)
  pushed f v w =
      let was = not-true (bit old.visited.words x) (and_parts _ _ (sym v.answer)).1 in
      let idle = false_from_ne_true (bit old.waiting.words x) (λ s. absurd (false≢true (sym was ∙ old.held x s))) in
      let fresh : f ≡ true = w.answer ∙ and_from _ _ (lt-ltb x (room old.waiting.words) in_waiting) (ap not idle) in
      let more-v = v.more refl in
      let more-w = w.more fresh in
      let most = size-le q.visited.words in
      let long = q.visited.long in
      record {
        all = λ y e. ap (bit q.visited.words) e ∙ v.here in_visited;
        grown = record {
          still = λ y s. still-set old.visited.words q.visited.words x true v in_visited y s;
          only = λ y s. now_set old.visited.words q.visited.words x true v y s;
          done = λ y s. w.others y (λ e. absurd (false≢true (sym was ∙ (sym (ap (bit old.visited.words) e) ∙ s))));
          new = λ y s no_old. elim (now_set old.visited.words q.visited.words x true v y s) [ inl o ↦ absurd (no_old o) | inr e ↦ ap (bit q.waiting.words) e ∙ w.here in_waiting ];
          lighter = omega arith;
        };
      }

  -- a pair that was there changes nothing
  pub was_there : Inserted old.visited.words q.visited.words x false → q.waiting.words ≡ old.waiting.words → Put old q (λ y. y ≡ x)
  was_there v same =
      let e = v.same refl in
      let here = v.here in_visited in
      record {
        all = λ y i. ap (bit q.visited.words) i ∙ here;
        grown = record {
          still = λ y s. ap (λ l. bit l y) e ∙ s;
          only = λ y s. inl (ap (λ l. bit l y) (sym e) ∙ s);
          done = λ y s. ap (λ l. bit l y) same;
          new = λ y s no_old. absurd (no_old (ap (λ l. bit l y) (sym e) ∙ s));
          lighter = let a = ap size e in let b = ap size same in omega arith;
        };
      }

-- a pair that waited
pub took : (old q : Pairs) (x : ℕ) → Waiting old x → Removed old.waiting.words q.waiting.words x → q.visited.words ≡ old.visited.words → Taken old q x
took old q x waits r same = let a = ap size same in let b = r.less waits in record { visited = same; idle = r.here; others = r.others; lighter = omega arith }

-- nothing was put
pub unchanged : (q : Pairs) (P : ℕ → Type 0) → Grown q q P
unchanged q P = record { still = λ x s. s; only = λ x s. inl s; done = λ x s. refl; new = λ x s n. absurd (n s); lighter = omega arith }

-- some pairs were put, and then others
pub grown-twice : {old q new : Pairs} {P Q R : ℕ → Type 0} → Grown old q P → Grown q new Q → ((x : ℕ) → P x → R x) → ((x : ℕ) → Q x → R x) → Grown old new R
grown-twice {old} {q} {new} {P} {Q} {R} g h p r = record {
  still = λ x s. h.still x (g.still x s);
  only = λ x s. elim (h.only x s) [ inl m ↦ elim (g.only x m) [ inl o ↦ inl o | inr y ↦ inr (p x y) ] | inr y ↦ inr (r x y) ];
  done = λ x s. h.done x (g.still x s) ∙ g.done x s;
  new = λ x s n. fresh x s n (bit q.visited.words x) refl;
  lighter = let a = g.lighter in let b = h.lighter in omega arith;
}
  where
    fresh : (x : ℕ) → Visited new x → (Visited old x → ⊥) → (b : Bool) → bit q.visited.words x ≡ b → Waiting new x
    fresh x s n true e = h.done x e ∙ g.new x e n
    fresh x s n false e = h.new x s (λ m. absurd (false≢true (sym e ∙ m)))

-- fewer pairs are meant
pub grown-within : {old q : Pairs} {P R : ℕ → Type 0} → Grown old q P → ((x : ℕ) → P x → R x) → Grown old q R
grown-within {old} {q} {P} {R} g p = record { still = g.still; only = λ x s. elim (g.only x s) [ inl o ↦ inl o | inr y ↦ inr (p x y) ]; done = g.done; new = g.new; lighter = g.lighter }
