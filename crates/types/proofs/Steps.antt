-- Which item a forest that meets a list of rows begins with, and what is left to be met behind it.
use Rattle.std.proofs.Common.{◌≡◌, ℕ, List, [], ◌∷◌, Some, refl, ap, ◌∙◌, subst}
use Rattle.forest.specs.Forests.{Scalar, integer, string, boolean, Forest, none}
use Rattle.rows.specs.declared.type_row.TypeRow.{TypeRow}
use Rattle.rows.specs.declared.type_row.TypeRow.TheVariants.{Sequence, Choice, Repetition}
use Rattle.types.specs.Parts.{row}
use Rattle.types.specs.Belonging.{scalar_row}
use Rattle.types.specs.Determinism.{Label, kind, tag, any_tag, label, Nullable, empty, repeated, both_parts, first_part, second_part, First}
use Rattle.types.specs.Determinism.First.{item, of_left, past_left, of_first, of_second, of_part}
use Rattle.types.proofs.Owed.{Takes, t_scalar, t_element, t_any, Owed, o_end, o_empty, o_take, o_both, o_first, o_second, o_stop, o_more}

-- the item n may come first in r, and behind it s is left of r and k
pub data Begins (ts : List TypeRow) : ℕ → List ℕ → ℕ → List ℕ → Type 0 where
  b_item : {r n : ℕ} {k s : List ℕ} {l : Label} → label (row ts r) ≡ Some l → n ≡ r → s ≡ k → Begins ts r k n s
  b_left : {r a b n : ℕ} {k s : List ℕ} → row ts r ≡ Sequence a b → Begins ts a (b ∷ k) n s → Begins ts r k n s
  b_right : {r a b n : ℕ} {k s : List ℕ} → row ts r ≡ Sequence a b → Nullable ts a → Begins ts b k n s → Begins ts r k n s
  b_first : {r a b n : ℕ} {k s : List ℕ} → row ts r ≡ Choice a b → Begins ts a k n s → Begins ts r k n s
  b_second : {r a b n : ℕ} {k s : List ℕ} → row ts r ≡ Choice a b → Begins ts b k n s → Begins ts r k n s
  b_part : {r a n : ℕ} {k s : List ℕ} → row ts r ≡ Repetition a → Begins ts a (r ∷ k) n s → Begins ts r k n s

pub data Step (ts : List TypeRow) : List ℕ → ℕ → List ℕ → Type 0 where
  now : {r n : ℕ} {k s : List ℕ} → Begins ts r k n s → Step ts (r ∷ k) n s
  later : {r n : ℕ} {k s : List ℕ} → Nullable ts r → Step ts k n s → Step ts (r ∷ k) n s

-- every row of the list may be nothing
pub data Nullables (ts : List TypeRow) : List ℕ → Type 0 where
  z_end : Nullables ts []
  z_more : {r : ℕ} {k : List ℕ} → Nullable ts r → Nullables ts k → Nullables ts (r ∷ k)

-- how a forest that meets k begins
pub data Start (ts : List TypeRow) (k : List ℕ) : Forest → Type 0 where
  ended : Nullables ts k → Start ts k none
  went : {n : ℕ} {s : List ℕ} {f g : Forest} → Step ts k n s → Takes ts n f g → Owed ts s g → Start ts k f

scalar-label : (s : Scalar) → (l : Label) × (label (scalar_row s) ≡ Some l)
scalar-label (integer z) = (kind 3, refl)
scalar-label (string bs) = (kind 4, refl)
scalar-label (boolean b) = (kind 5, refl)

module _ {ts : List TypeRow} where
  -- what takes an item is an item row
  pub takes_label : {n : ℕ} {f g : Forest} → Takes ts n f g → (l : Label) × (label (row ts n) ≡ Some l)
  takes_label (t_scalar {s = s} e p) = let l = scalar-label s in (l.0, ap label e ∙ l.1)
  takes_label (t_element {t = t} e p b) = (tag t, ap label e)
  takes_label (t_any e p b) = (any_tag, ap label e)

  through : {k l : List ℕ} {f : Forest} → (Nullables ts k → Nullables ts l) → ((n : ℕ) (s : List ℕ) → Step ts k n s → Step ts l n s) → Start ts k f → Start ts l f
  through p q (ended h) = ended (p h)
  through p q (went {n} {s} h t d) = went (q n s h) t d

  both-step : {r a b n : ℕ} {k s : List ℕ} → row ts r ≡ Sequence a b → Step ts (a ∷ b ∷ k) n s → Step ts (r ∷ k) n s
  both-step e (now h) = now (b_left e h)
  both-step e (later p (now h)) = now (b_right e p h)
  both-step e (later p (later q h)) = later (both_parts e p q) h

  both-null : {r a b : ℕ} {k : List ℕ} → row ts r ≡ Sequence a b → Nullables ts (a ∷ b ∷ k) → Nullables ts (r ∷ k)
  both-null e (z_more p (z_more q h)) = z_more (both_parts e p q) h

  first_step : {r a b n : ℕ} {k s : List ℕ} → row ts r ≡ Choice a b → Step ts (a ∷ k) n s → Step ts (r ∷ k) n s
  first_step e (now h) = now (b_first e h)
  first_step e (later p h) = later (first_part e p) h

  second-step : {r a b n : ℕ} {k s : List ℕ} → row ts r ≡ Choice a b → Step ts (b ∷ k) n s → Step ts (r ∷ k) n s
  second-step e (now h) = now (b_second e h)
  second-step e (later p h) = later (second_part e p) h

  one-null : {r a : ℕ} {k : List ℕ} → (Nullable ts a → Nullable ts r) → Nullables ts (a ∷ k) → Nullables ts (r ∷ k)
  one-null f (z_more p h) = z_more (f p) h

  more-step : {r a n : ℕ} {k s : List ℕ} → row ts r ≡ Repetition a → Step ts (a ∷ r ∷ k) n s → Step ts (r ∷ k) n s
  more-step e (now h) = now (b_part e h)
  more-step e (later p h) = h

  more-null : {r a : ℕ} {k : List ℕ} → Nullables ts (a ∷ r ∷ k) → Nullables ts (r ∷ k)
  more-null (z_more p h) = h

  pub start : {k : List ℕ} {f : Forest} → Owed ts k f → Start ts k f
  start o_end = ended z_end
  start (o_empty e d) = through (z_more (empty e)) (λ n s. later (empty e)) (start d)
  start (o_take t d) = went (now (b_item (takes_label t).1 refl refl)) t d
  start (o_both e d) = through (both-null e) (λ n s. both-step e) (start d)
  start (o_first e d) = through (one-null (first_part e)) (λ n s. first_step e) (start d)
  start (o_second e d) = through (one-null (second_part e)) (λ n s. second-step e) (start d)
  start (o_stop e d) = through (z_more (repeated e)) (λ n s. later (repeated e)) (start d)
  start (o_more e d) = through more-null (λ n s. more-step e) (start d)

  -- and back

  pub skipped : {r : ℕ} {k : List ℕ} {f : Forest} → Nullable ts r → Owed ts k f → Owed ts (r ∷ k) f
  skipped (empty e) d = o_empty e d
  skipped (repeated e) d = o_stop e d
  skipped (both_parts e p q) d = o_both e (skipped p (skipped q d))
  skipped (first_part e p) d = o_first e (skipped p d)
  skipped (second_part e p) d = o_second e (skipped p d)

  pub none-owed : {k : List ℕ} → Nullables ts k → Owed ts k none
  none-owed z_end = o_end
  none-owed (z_more p h) = skipped p (none-owed h)

  begun : {r n : ℕ} {k s : List ℕ} {f g : Forest} → Begins ts r k n s → Takes ts n f g → Owed ts s g → Owed ts (r ∷ k) f
  begun {f = f} {g} (b_item e i j) t d = o_take (subst (λ x. Takes ts x f g) i t) (subst (λ x. Owed ts x g) j d)
  begun (b_left e h) t d = o_both e (begun h t d)
  begun (b_right e p h) t d = o_both e (skipped p (begun h t d))
  begun (b_first e h) t d = o_first e (begun h t d)
  begun (b_second e h) t d = o_second e (begun h t d)
  begun (b_part e h) t d = o_more e (begun h t d)

  pub stepped : {k s : List ℕ} {n : ℕ} {f g : Forest} → Step ts k n s → Takes ts n f g → Owed ts s g → Owed ts k f
  stepped (now h) t d = begun h t d
  stepped (later p h) t d = skipped p (stepped h t d)

  -- the empty forest
  pub all-null : {k : List ℕ} → Owed ts k none → Nullables ts k
  all-null d = go (start d)
    where
      go : {k : List ℕ} → Start ts k none → Nullables ts k
      go (ended h) = h
      go (went h t d) = elim t [ ]

  pub begins_first : {r n : ℕ} {k s : List ℕ} → Begins ts r k n s → First ts r n
  begins_first (b_item e i j) = item e i
  begins_first (b_left e h) = of_left e (begins_first h)
  begins_first (b_right e p h) = past_left e p (begins_first h)
  begins_first (b_first e h) = of_first e (begins_first h)
  begins_first (b_second e h) = of_second e (begins_first h)
  begins_first (b_part e h) = of_part e (begins_first h)

  pub first-begins : {r n : ℕ} (k : List ℕ) → First ts r n → (s : List ℕ) × Begins ts r k n s
  first-begins k (item e i) = (k, b_item e i refl)
  first-begins k (of_left {b = b} e h) = let g = first-begins (b ∷ k) h in (g.0, b_left e g.1)
  first-begins k (past_left e p h) = let g = first-begins k h in (g.0, b_right e p g.1)
  first-begins k (of_first e h) = let g = first-begins k h in (g.0, b_first e g.1)
  first-begins k (of_second e h) = let g = first-begins k h in (g.0, b_second e g.1)
  first-begins k (of_part {r = r} e h) = let g = first-begins (r ∷ k) h in (g.0, b_part e g.1)
