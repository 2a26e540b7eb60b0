-- How making ends, by what holds of the space.
use Rattle.std.proofs.Common.{◌≡◌, ℕ, ◌<◌, ◌≤◌, Bool, true, false, leb, ◌⊎◌, List, [], ◌∷◌, ◌++◌, map, length, get_or, Some, None, Ok, Err, Option, Result, sym, refl, ap, ◌∙◌, inl, inr, arith, le-leb}
use borrow.Author.Tests.{lt-leb}
use lib.ListN.{length-map}
use Rattle.std.proofs.lemmas.List.{map_push, map-append, get_or_push, get_or_append_left}
use Rattle.forest.specs.declared.fault.Fault.{Fault}
use Rattle.forest.specs.declared.fault.Reason.TheVariants.{SpaceShort, OutOfRange}
use Rattle.forest.specs.Faults.{faulted}
use Rattle.forest.specs.Forests.{Item}
use Rattle.forest.specs.Stores.{Meaning, when, make, make_if, holds, cost, less, grown, item_children, item_text}
use Rattle.std.proofs.lemmas.Bool.{and_from, and_left, and_right}

-- one tree more
pub made : (l : ℕ) (m n : Meaning) (i : Item) (h : ℕ) → 1 ≤ m.space.trees → length (item_children i) ≤ m.space.children → length (item_text i) ≤ m.space.bytes → h ≡ length m.trees → n.trees ≡ m.trees ++ (i ∷ []) → n.space ≡ less m.space (cost i) → ◌≡◌ {A = Result ℕ Fault × Meaning} (Ok h, n) (make l (Some i) m)
made l m n i h a b c at ts sp =
    let fits : holds m.space (cost i) ≡ true = and_from _ _ (le-leb 1 m.space.trees a) (and_from _ _ (le-leb (length (item_children i)) m.space.children b) (le-leb (length (item_text i)) m.space.bytes c)) in
    let is : n ≡ grown m i = ap (λ xs. record { trees = xs; space = n.space }) ts ∙ ap (λ s. record { trees = m.trees ++ (i ∷ []); space = s }) sp in
    ap (λ k. (Ok k, n)) at ∙ ap (λ k. (Ok (length m.trees), k)) is ∙ sym (ap (λ t. make_if t l i m) fits)

-- space short
pub short : (l : ℕ) (m : Meaning) (i : Item) → (m.space.trees < 1) ⊎ ((m.space.children < length (item_children i)) ⊎ (m.space.bytes < length (item_text i))) → ◌≡◌ {A = Result ℕ Fault × Meaning} (Err (faulted SpaceShort l 0), m) (make l (Some i) m)
short l m i (inl lt) = sym (ap (λ t. make_if t l i m) (and_left _ _ (lt-leb 1 m.space.trees lt)))
short l m i (inr (inl lt)) = sym (ap (λ t. make_if t l i m) (and_right (leb 1 m.space.trees) _ (and_left _ _ (lt-leb (length (item_children i)) m.space.children lt))))
short l m i (inr (inr lt)) = sym (ap (λ t. make_if t l i m) (and_right (leb 1 m.space.trees) _ (and_right (leb (length (item_children i)) m.space.children) _ (lt-leb (length (item_text i)) m.space.bytes lt))))

-- What a call that made a tree tells.
pub record Success (o : Option Item) (m n : Meaning) (h : ℕ) : Type 0 where
  pub item : Item
  pub asked : o ≡ Some item
  pub fits : holds m.space (cost item) ≡ true
  pub handle : h ≡ length m.trees
  pub after : n ≡ grown m item

success_if : (b : Bool) (l : ℕ) (i : Item) (m n : Meaning) (h : ℕ) → holds m.space (cost i) ≡ b → ◌≡◌ {A = Result ℕ Fault × Meaning} (Ok h, n) (make_if b l i m) → Success (Some i) m n h
success_if true l i m n h fits e = let a = ap (λ p. p.0) e in record { item = i; asked = refl; fits = fits; handle = cc; after = ap (λ p. p.1) e }
success_if false l i m n h fits e = absurd (let a = ap (λ p. p.0) e in let z : ◌≡◌ {A = ℕ} 0 1 = cc in omega arith)

pub success : (l : ℕ) (o : Option Item) (m n : Meaning) (h : ℕ) → ◌≡◌ {A = Result ℕ Fault × Meaning} (Ok h, n) (make l o m) → Success o m n h
success l None m n h e = absurd (let a = ap (λ p. p.0) e in let z : ◌≡◌ {A = ℕ} 0 1 = cc in omega arith)
success l (Some i) m n h e = success_if (holds m.space (cost i)) l i m n h refl e

pub when-is : (b : Bool) (i j : Item) → when b i ≡ Some j → (b ≡ true) × (i ≡ j)
when-is true i j e = (refl, cc)
when-is false i j e = absurd (let z : ◌≡◌ {A = ℕ} 0 1 = cc in omega arith)

-- a refusal changes nothing, and carries the layer
pub record FailureOf (l : ℕ) (m n : Meaning) (f : Fault) : Type 0 where
  pub layer : f.layer ≡ l
  pub row : f.row ≡ 0
  pub same : n ≡ m

failure_if : (b : Bool) (l : ℕ) (i : Item) (m n : Meaning) (f : Fault) → ◌≡◌ {A = Result ℕ Fault × Meaning} (Err f, n) (make_if b l i m) → FailureOf l m n f
failure_if true l i m n f e = absurd (let a = ap (λ p. p.0) e in let z : ◌≡◌ {A = ℕ} 0 1 = cc in omega arith)
failure_if false l i m n f e = let a = ap (λ p. p.0) e in let is : f ≡ faulted SpaceShort l 0 = cc in record { layer = ap (λ g. g.layer) is; row = ap (λ g. g.row) is; same = ap (λ p. p.1) e }

pub failure : (l : ℕ) (o : Option Item) (m n : Meaning) (f : Fault) → ◌≡◌ {A = Result ℕ Fault × Meaning} (Err f, n) (make l o m) → FailureOf l m n f
failure l None m n f e = let a = ap (λ p. p.0) e in let is : f ≡ faulted OutOfRange l 0 = cc in record { layer = ap (λ g. g.layer) is; row = ap (λ g. g.row) is; same = ap (λ p. p.1) e }
failure l (Some i) m n f e = failure_if (holds m.space (cost i)) l i m n f e

-- reading a list with one tree more
pub reads-new : {X : Type 0} (f : Item → X) (d : X) (ts : List Item) (i : Item) → get_or (map f (ts ++ (i ∷ []))) (length ts) d ≡ f i
reads-new f d ts i = ap (λ xs. get_or xs (length ts) d) (map_push f ts i) ∙ get_or_push (map f ts) (f i) d (length ts) (length-map ts f)

pub reads_old : {X : Type 0} (f : Item → X) (d : X) (ts us : List Item) (h : ℕ) → h < length ts → get_or (map f (ts ++ us)) h d ≡ get_or (map f ts) h d
reads_old f d ts us h lt = ap (λ xs. get_or xs h d) (map-append f ts us) ∙ get_or_append_left (map f ts) (map f us) d h (omega (arith, length-map ts f))
