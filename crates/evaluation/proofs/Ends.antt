-- How runs end, step by step: with a forest of which something holds and with no more fuel than they had, or stopped; at an error row only if typing came to one.
use Rattle.std.proofs.Common.{◌≡◌, ℕ, ◌-◌, ◌≤◌, Bool, true, false, List, leb, Some, Ok, Err, Result, sym, refl, ap, ◌∙◌, subst, inl, inr, arith}
use Rattle.std.proofs.lemmas.Bool.{leb-true, false≢true}
use Rattle.forest.specs.declared.fault.Fault.{Fault}
use Rattle.forest.specs.Forests.{Forest, none, leaf, node, Item, before}
use Rattle.forest.specs.Stores.{Meaning, make}
use Rattle.rows.specs.declared.type_row.TypeRow.{TypeRow}
use Rattle.rows.specs.declared.type_row.TypeRow.TheVariants.{EmptyChoice, EmptySequence, Sequence, Choice, Repetition}
use Rattle.types.specs.Parts.{row}
use Rattle.types.specs.Belonging.{join, Belongs, nothing, one_scalar, one_element, any_element, both, by_first, by_second, no_more, one_more}
use Rattle.typing.specs.Kinds.{is_item}
use Rattle.typing.proofs.GrowthMeaning.{form_at, scalar_item}
use Rattle.evaluation.specs.Values.{size}
use Rattle.evaluation.specs.Evaluation.{State, Why, error_row, End, gives, stops, then, pay, pay_if, result, made_as, fresh, each}
use Rattle.evaluation.proofs.Forms.{Single, one_leaf, one_node, single}

-- JOINING

pub join_none : (f : Forest) → join f none ≡ f
join_none none = refl
join_none (leaf v f) = ap (leaf v) (join_none f)
join_none (node t c f) = ap (node t c) (join_none f)

join_assoc : (f g h : Forest) → join (join f g) h ≡ join f (join g h)
join_assoc none g h = refl
join_assoc (leaf v f) g h = ap (leaf v) (join_assoc f g h)
join_assoc (node t c f) g h = ap (node t c) (join_assoc f g h)

then_same : (o : End) {k m : Forest → State → End} → ((f : Forest) (s : State) → k f s ≡ m f s) → then o k ≡ then o m
then_same o h = λ i. then o (λ f s. h f s i)

then_assoc : (o : End) (k m : Forest → State → End) → then (then o k) m ≡ then o (λ f s. then (k f s) m)
then_assoc (gives f s) k m = refl
then_assoc (stops w r s) k m = refl

then_gives : (o : End) → then o gives ≡ o
then_gives (gives f s) = refl
then_gives (stops w r s) = refl

module _ (k : Forest → State → End) where
  -- for each item of g, behind what came of f
  rest : Forest → Forest → State → End
  rest g f s = then (each k g s) (λ h s. gives (join f h) s)

  -- what came of a comes before all that
  rest_behind : (a h g : Forest) (s : State) → then (rest g h s) (λ y t. gives (join a y) t) ≡ rest g (join a h) s
  unfolding rest
  rest_behind a h g s = then_assoc (each k g s) _ _ ∙ then_same (each k g s) (λ b t. ap (λ y. gives y t) (sym (join_assoc a h b)))

  one_behind : (a f g : Forest) (s : State) → each k (join f g) s ≡ then (each k f s) (rest g) → then (each k (join f g) s) (λ h t. gives (join a h) t) ≡ then (rest f a s) (rest g)
  unfolding rest
  one_behind a f g s e =
      ap (λ o. then o (λ h t. gives (join a h) t)) e ∙ then_assoc (each k f s) (rest g) _ ∙ then_same (each k f s) (λ h t. rest_behind a h g t) ∙ sym (then_assoc (each k f s) _ (rest g))

  one_first : (x f g : Forest) (s : State) → ((s : State) → each k (join f g) s ≡ then (each k f s) (rest g)) → then (k x s) (λ a s. then (each k (join f g) s) (λ h s. gives (join a h) s)) ≡ then (then (k x s) (rest f)) (rest g)
  one_first x f g s e = then_same (k x s) (λ a t. one_behind a f g t (e t)) ∙ sym (then_assoc (k x s) (rest f) (rest g))

  -- for each item of two forests joined: of the first, and then of the second
  each_join : (f g : Forest) (s : State) → each k (join f g) s ≡ then (each k f s) (rest g)
  unfolding rest
  each_join none g s = sym (then_gives (each k g s))
  each_join (leaf v f) g s = one_first (leaf v none) f g s (each_join f g)
  each_join (node t c f) g s = one_first (node t c none) f g s (each_join f g)

  each_single : {f : Forest} (s : State) → Single f → each k f s ≡ k f s
  each_single s (one_leaf {v}) = then_same (k (leaf v none) s) (λ g t. ap (λ y. gives y t) (join_none g)) ∙ then_gives (k (leaf v none) s)
  each_single s (one_node {t} {c}) = then_same (k (node t c none) s) (λ g t. ap (λ y. gives y t) (join_none g)) ∙ then_gives (k (node t c none) s)

-- HOW RUNS END, with n units at most, and `error` telling whether typing came to an error row

pub data Ends (n : ℕ) (error : Bool) (P : Forest → Type 0) : End → Type 0 where
  went : {f : Forest} {s : State} → P f → s.fuel ≤ n → Ends n error P (gives f s)
  halted : {w : Why} {r : ℕ} {s : State} → (w ≡ error_row → error ≡ true) → Ends n error P (stops w r s)

-- a forest of row x, paid for
pub record Paid (us : List TypeRow) (x n : ℕ) (f : Forest) : Type 0 where
  pub belongs : Belongs us x f
  pub small : size f ≤ n

module _ {n : ℕ} {error : Bool} where
  pub then_ends : {P Q : Forest → Type 0} {o : End} (k : Forest → State → End) → Ends n error P o → ((f : Forest) (s : State) → P f → s.fuel ≤ n → Ends n error Q (k f s)) → Ends n error Q (then o k)
  then_ends k (went {f} {s} h l) g = g f s h l
  then_ends k (halted e) g = halted e

  pub ends_so : {P Q : Forest → Type 0} {o : End} → ((f : Forest) → P f → Q f) → Ends n error P o → Ends n error Q o
  ends_so g (went {f} h l) = went (g f h) l
  ends_so g (halted e) = halted e

  pub pay_ends : {P : Forest → Type 0} (m r : ℕ) (s : State) (k : State → End) → s.fuel ≤ n → ((t : State) → m ≤ n → t.fuel ≤ n → Ends n error P (k t)) → Ends n error P (pay m r s k)
  unfolding pay
  pay_ends {P} m r s k l h = go (leb m s.fuel) refl
    where
      go : (b : Bool) → leb m s.fuel ≡ b → Ends n error P (pay_if b m r s k)
      go true e = let q = leb-true m s.fuel e in h (record { fuel = s.fuel - m; store = s.store }) (omega arith) (omega arith)
      go false e = halted (λ z. cc)

  module _ {us : List TypeRow} {x : ℕ} where
    pub result_ends : (r : ℕ) (f : Forest) (s : State) → s.fuel ≤ n → Belongs us x f → Ends n error (Paid us x n) (result r f s)
    result_ends r f s l h = pay_ends (size f) r s (gives f) l (λ t m q. went (record { belongs = h; small = m }) q)

    made_ends : (r : ℕ) (f : Forest) (m : ℕ) (a : Result ℕ Fault × Meaning) → m ≤ n → Belongs us x f → Ends n error (Paid us x n) (made_as r f m a)
    made_ends r f m (Ok h, z) l b = result_ends r f (record { fuel = m; store = z }) l b
    made_ends r f m (Err w, z) l b = halted (λ z. cc)

    pub fresh_ends : (l r : ℕ) (i : Item) (s : State) → s.fuel ≤ n → Belongs us x (before i none) → Ends n error (Paid us x n) (fresh l r i s)
    fresh_ends l r i s q h = made_ends r (before i none) s.fuel (make l (Some i) s.store) q h

-- WALKS OVER ITEMS

module _ (n : ℕ) (error : Bool) (us : List TypeRow) (k : Forest → State → End) where
  -- from the items of row r to what is joined of the results, which belongs to row x
  abbrev pub Turns : ℕ → ℕ → Type 0
  Turns r x = (f : Forest) (s : State) → Belongs us r f → s.fuel ≤ n → Ends n error (Belongs us x) (each k f s)

  joined_ends : {a x y z : ℕ} (f g : Forest) (s : State) → Turns a x → Belongs us a f → s.fuel ≤ n → ((s : State) → s.fuel ≤ n → Ends n error (Belongs us y) (each k g s))
      → ((f g : Forest) → Belongs us x f → Belongs us y g → Belongs us z (join f g)) → Ends n error (Belongs us z) (each k (join f g) s)
  unfolding rest
  joined_ends {z = z} f g s h b l m j = subst (Ends n error (Belongs us z)) (sym (each_join k f g s)) (then_ends _ (h f s b l) (λ y t c q. then_ends _ (m t q) (λ w u d o. went (j y w c d) o)))

  pub turns_item : {r x : ℕ} → is_item (row us r) ≡ true → ((f : Forest) (s : State) → Belongs us r f → s.fuel ≤ n → Ends n error (Paid us x n) (k f s)) → Turns r x
  turns_item {x = x} i h f s b l = subst (Ends n error (Belongs us x)) (sym (each_single k s (single i b))) (ends_so (λ y p. p.belongs) (h f s b l))

  pub turns_never : {r x : ℕ} → row us r ≡ EmptyChoice → Turns r x
  turns_never i f s b l = absurd (form_at i b)

  pub turns_nothing : {r x : ℕ} → row us r ≡ EmptySequence → row us x ≡ EmptySequence → Turns r x
  turns_nothing {x = x} i e f s b l = subst (λ g. Ends n error (Belongs us x) (each k g s)) (sym (form_at i b)) (went (nothing e) l)

  pub turns_both : {r x a b y z : ℕ} → row us r ≡ Sequence a b → row us x ≡ Sequence y z → Turns a y → Turns b z → Turns r x
  turns_both {x = x} i e h g f s b l = let v = form_at i b in subst (λ w. Ends n error (Belongs us x) (each k w s)) (sym v.2) (joined_ends v.0 v.1 s h v.3 l (λ t m. g v.1 t v.4 m) (λ w u. both e))

  pub turns_either : {r x a b y z : ℕ} → row us r ≡ Choice a b → row us x ≡ Choice y z → Turns a y → Turns b z → Turns r x
  turns_either i e h g f s b l = elim (form_at i b) [ inl p ↦ ends_so (λ w. by_first e) (h f s p l) | inr p ↦ ends_so (λ w. by_second e) (g f s p l) ]

  module _ {r x a y : ℕ} (i : row us r ≡ Repetition a) (e : row us x ≡ Repetition y) (h : Turns a y) where
    turns_again : {f : Forest} (s : State) → Belongs us r f → s.fuel ≤ n → Ends n error (Belongs us x) (each k f s)
    turns_again s (nothing j) l = let z : ◌≡◌ {A = ℕ} 0 1 = cc in absurd (omega arith)
    turns_again s (one_scalar {s = v} j w) l = absurd (false≢true (ap is_item (sym i ∙ j) ∙ scalar_item v))
    turns_again s (one_element j w p) l = let z : ◌≡◌ {A = ℕ} 0 1 = cc in absurd (omega arith)
    turns_again s (any_element j w p) l = let z : ◌≡◌ {A = ℕ} 0 1 = cc in absurd (omega arith)
    turns_again s (both j p q) l = let z : ◌≡◌ {A = ℕ} 0 1 = cc in absurd (omega arith)
    turns_again s (by_first j p) l = let z : ◌≡◌ {A = ℕ} 0 1 = cc in absurd (omega arith)
    turns_again s (by_second j p) l = let z : ◌≡◌ {A = ℕ} 0 1 = cc in absurd (omega arith)
    turns_again s (no_more j) l = went (no_more e) l
    turns_again s (one_more {a = c} {f} {g} j p q) l = let z : c ≡ a = cc in joined_ends f g s h (subst (λ m. Belongs us m f) z p) l (λ t m. turns_again t q m) (λ w u. one_more e)

  pub turns_repeated : {r x a y : ℕ} → row us r ≡ Repetition a → row us x ≡ Repetition y → Turns a y → Turns r x
  turns_repeated i e h f s b l = turns_again i e h s b l
