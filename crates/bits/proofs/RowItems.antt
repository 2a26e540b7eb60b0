-- The items of a row, as a list: what an iterator over them gives.
use Rattle.std.proofs.Common.{◌≡◌, ℕ, zero, suc, ◌+◌, ◌-◌, ◌*◌, ◌<◌, ◌≤◌, Bool, true, false, cond, List, [], ◌∷◌, length, get_or, sym, refl, ap, ◌∙◌, subst, inl, inr, arith}
use Rattle.std.specs.List.{filter, range_with_len}
use Rattle.std.proofs.lemmas.Bool.{both_ways, cases_eq, cases_Bool}
use Rattle.bits.specs.Bits.{bit, related, row_items, FoundFirst}

module _ (p : ℕ → Bool) where
  abbrev kept : ℕ → ℕ → List ℕ
  kept a n = filter p (range_with_len a n)

  pass : (a n : ℕ) → p a ≡ true → kept a (suc n) ≡ a ∷ kept (a + 1) n
  pass a n e = ap (λ (b : Bool). cond b (a ∷ kept (a + 1) n) (kept (a + 1) n)) e

  drop_first : (a n : ℕ) → p a ≡ false → kept a (suc n) ≡ kept (a + 1) n
  drop_first a n e = ap (λ (b : Bool). cond b (a ∷ kept (a + 1) n) (kept (a + 1) n)) e

  -- no number passes
  none : (a n : ℕ) → ((j : ℕ) → a ≤ j → j < a + n → p j ≡ true → ⊥) → kept a n ≡ []
  none a zero h = refl
  none a (suc n) h = elim (cases_Bool (p a)) [
    | inl t ↦ absurd (h a (omega arith) (omega arith) t)
    | inr f ↦ drop_first a n f ∙ none (a + 1) n (λ j l g e. h j (omega arith) (omega arith) e)
  ]

  -- the first number that passes
  some : (a n x m : ℕ) → a ≤ x → x + 1 + m ≡ a + n → ((j : ℕ) → a ≤ j → j < x → p j ≡ true → ⊥) → p x ≡ true → kept a n ≡ x ∷ kept (x + 1) m
  some a zero x m l e h t = absurd (omega arith)
  some a (suc n) x m l e h t = elim (cases_eq a x) [
    | inl i ↦ pass a n (ap p i ∙ t) ∙ ap (λ z. z ∷ kept (z + 1) n) i ∙ ap (λ z. x ∷ kept (x + 1) z) (let k : n ≡ m = omega arith in k)
    | inr i ↦ elim (cases_Bool (p a)) [
      | inl f ↦ absurd (h a (omega arith) (omega arith) f)
      | inr f ↦ drop_first a n f ∙ some (a + 1) n x m (omega arith) (omega arith) (λ j g b y. h j (omega arith) b y) t
    ]
  ]

  -- WHAT THE LIST SAYS

  pub record Front (a n y : ℕ) (ys : List ℕ) : Type 0 where
    pub low : a ≤ y
    pub below : y < a + n
    pub before : (j : ℕ) → a ≤ j → j < y → p j ≡ true → ⊥
    pub here : p y ≡ true
    pub rest : ys ≡ kept (y + 1) (a + n - (y + 1))

  front : (a n y : ℕ) (ys : List ℕ) → kept a n ≡ y ∷ ys → Front a n y ys
  front a zero y ys e = cc
  front a (suc n) y ys e = elim (cases_Bool (p a)) [
    | inl t ↦
        let f = sym (pass a n t) ∙ e in
        let x : a ≡ y = cc in
        let z : kept (a + 1) n ≡ ys = cc in
        record { low = omega arith; below = omega arith; before = λ j l b _. absurd (omega arith); here = sym (ap p x) ∙ t; rest = sym z ∙ ap (λ k. kept (k + 1) n) x ∙ ap (kept (y + 1)) (let k : n ≡ a + suc n - (y + 1) = omega arith in k) }
    | inr o ↦
        let f = front (a + 1) n y ys (sym (drop_first a n o) ∙ e) in
        let l = f.low in
        let b = f.below in
        record {
          low = omega arith;
          below = omega arith;
          before = λ j g b t. elim (cases_eq j a) [ inl i ↦ both_ways (p a) o (sym (ap p i) ∙ t) | inr i ↦ f.before j (omega arith) b t ];
          here = f.here;
          rest = f.rest ∙ ap (kept (y + 1)) (let k : a + 1 + n - (y + 1) ≡ a + suc n - (y + 1) = omega arith in k);
        }
  ]

  empty : (a n : ℕ) → kept a n ≡ [] → (j : ℕ) → a ≤ j → j < a + n → p j ≡ true → ⊥
  empty a zero e j l h t = omega arith
  empty a (suc n) e j l h t = elim (cases_Bool (p a)) [
    | inl y ↦ (let f = sym (pass a n y) ∙ e in let z : ◌≡◌ {A = ℕ} 0 1 = cc in omega arith)
    | inr o ↦ elim (cases_eq j a) [ inl i ↦ both_ways (p a) o (sym (ap p i) ∙ t) | inr i ↦ empty (a + 1) n (sym (drop_first a n o) ∙ e) j (omega arith) (omega arith) t ]
  ]

  pub record Member (a n v : ℕ) : Type 0 where
    pub low : a ≤ v
    pub below : v < a + n
    pub here : p v ≡ true

  later : {a n v : ℕ} → Member (a + 1) n v → Member a (suc n) v
  later m = let l = m.low in let b = m.below in record { low = omega arith; below = omega arith; here = m.here }

  behind : (a n k d : ℕ) → p a ≡ true → ((i : ℕ) → i < length (kept (a + 1) n) → Member (a + 1) n (get_or (kept (a + 1) n) i d)) → k < length (a ∷ kept (a + 1) n) → Member a (suc n) (get_or (a ∷ kept (a + 1) n) k d)
  behind a n zero d t rest l = record { low = omega arith; below = omega arith; here = t }
  behind a n (suc k) d t rest l = later (rest k (omega arith))

  member : (a n k d : ℕ) → k < length (kept a n) → Member a n (get_or (kept a n) k d)
  member a zero k d l = absurd (omega arith)
  member a (suc n) k d l = elim (cases_Bool (p a)) [
    | inl t ↦ subst (λ zs. Member a (suc n) (get_or zs k d)) (sym (pass a n t)) (behind a n k d t (λ i h. member (a + 1) n i d h) (subst (λ zs. k < length zs) (pass a n t) l))
    | inr o ↦ subst (λ zs. Member a (suc n) (get_or zs k d)) (sym (drop_first a n o)) (later (member (a + 1) n k d (subst (λ zs. k < length zs) (drop_first a n o) l)))
  ]

  -- where a number that passes stands in the list
  stands : (a n j d : ℕ) → a ≤ j → j < a + n → p j ≡ true → (k : ℕ) × ((k < length (kept a n)) × (get_or (kept a n) k d ≡ j))
  stands a zero j d l h t = absurd (omega arith)
  stands a (suc n) j d l h t = elim (cases_Bool (p a)) [
    | inl y ↦ subst (λ zs. (k : ℕ) × ((k < length zs) × (get_or zs k d ≡ j))) (sym (pass a n y)) (elim (cases_eq j a) [
      | inl i ↦ (0, (omega arith, sym i))
      | inr i ↦ (let s = stands (a + 1) n j d (omega arith) (omega arith) t in let b = s.1.0 in (suc s.0, (omega arith, s.1.1)))
    ])
    | inr o ↦ subst (λ zs. (k : ℕ) × ((k < length zs) × (get_or zs k d ≡ j))) (sym (drop_first a n o)) (elim (cases_eq j a) [
      | inl i ↦ absurd (both_ways (p a) o (sym (ap p i) ∙ t))
      | inr i ↦ stands (a + 1) n j d (omega arith) (omega arith) t
    ])
  ]

-- THE ITEMS OF A ROW

module _ (ws : List ℕ) (r from : ℕ) where
  pub row_none : ((n : ℕ) → from ≤ n → n < 512 → related ws r n ≡ true → ⊥) → row_items ws r from ≡ []
  unfolding row_items
  row_none h = none (related ws r) from (512 - from) (λ j l b e. h j l (omega arith) e)

  pub row_some : (x : ℕ) → FoundFirst (λ n. related ws r n ≡ true) from 512 x → row_items ws r from ≡ x ∷ row_items ws r (x + 1)
  unfolding row_items
  row_some x f = let l = f.low in let b = f.below in some (related ws r) from (512 - from) x (512 - (x + 1)) f.low (omega arith) f.before f.here

  -- what is found among all bits
  pub found_none : ((j : ℕ) → r * 512 + from ≤ j → j < r * 512 + 512 → bit ws j ≡ true → ⊥) → row_items ws r from ≡ []
  found_none h = row_none (λ n l b e. h (r * 512 + n) (omega arith) (omega arith) e)

  pub found_some : (x : ℕ) → FoundFirst (λ j. bit ws j ≡ true) (r * 512 + from) (r * 512 + 512) x → row_items ws r from ≡ (x - r * 512) ∷ row_items ws r (x - r * 512 + 1)
  found_some x f =
      let l = f.low in
      let b = f.below in
      let there : r * 512 + (x - r * 512) ≡ x = omega arith in
      row_some (x - r * 512) (record { low = omega arith; below = omega arith; before = λ j g m e. f.before (r * 512 + j) (omega arith) (omega arith) e; here = ap (bit ws) there ∙ f.here })

  -- an iterator that gives an item, and one that gives none
  pub row_front : (y : ℕ) (ys : List ℕ) → row_items ws r from ≡ y ∷ ys → FoundFirst (λ n. related ws r n ≡ true) from 512 y × (ys ≡ row_items ws r (y + 1))
  unfolding row_items
  row_front y ys e =
      let f = front (related ws r) from (512 - from) y ys e in
      let l = f.low in
      let b = f.below in (
        record { low = l; below = omega arith; before = f.before; here = f.here },
        f.rest ∙ ap (kept (related ws r) (y + 1)) (let k : from + (512 - from) - (y + 1) ≡ 512 - (y + 1) = omega arith in k),
      )

  pub row_empty : row_items ws r from ≡ [] → (n : ℕ) → from ≤ n → n < 512 → related ws r n ≡ true → ⊥
  unfolding row_items
  row_empty e n l h t = empty (related ws r) from (512 - from) e n l (omega arith) t

  -- what holds of each item of the list, and of some
  pub each_item : (Y : ℕ → Type 0) → ((k d : ℕ) → 0 ≤ k → k < length (row_items ws r from) → Y (get_or (row_items ws r from) k d)) → (n : ℕ) → from ≤ n → n < 512 → related ws r n ≡ true → Y n
  unfolding row_items
  each_item Y h n l b e = let s = stands (related ws r) from (512 - from) n 0 l (omega arith) e in subst Y s.1.1 (h s.0 0 (omega arith) s.1.0)

  pub some_item : (N : ℕ → Type 0) → (k : ℕ) × ((k < length (row_items ws r from)) × ((d : ℕ) → N (get_or (row_items ws r from) k d))) → (n : ℕ) × ((from ≤ n) × (n < 512) × (related ws r n ≡ true) × N n)
  unfolding row_items
  some_item N h =
      let m = member (related ws r) from (512 - from) h.0 0 h.1.0 in
      let l = m.low in
      let b = m.below in
      (get_or (row_items ws r from) h.0 0, (l, omega arith, m.here, h.1.1 0))

  -- what holds of each item holds of each of the list
  pub all_items : (Y : ℕ → Type 0) → ((n : ℕ) → from ≤ n → n < 512 → related ws r n ≡ true → Y n) → (k d : ℕ) → k < length (row_items ws r from) → Y (get_or (row_items ws r from) k d)
  unfolding row_items
  all_items Y h k d l =
      let m = member (related ws r) from (512 - from) k d l in
      let low = m.low in
      let below = m.below in
      h (get_or (row_items ws r from) k d) low (omega arith) m.here
