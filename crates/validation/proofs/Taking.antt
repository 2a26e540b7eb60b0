-- What reading one tree finds at a place.
use Rattle.std.proofs.Common.{◌≡◌, ◌+◌, ℕ, zero, suc, Bool, true, false, List, [], ◌∷◌, Some, None, sym, refl, ◌∙◌, subst}
use Rattle.std.proofs.lemmas.Bool.{both_ways}
use Rattle.forest.specs.Forests.{Item, forest}
use Rattle.forest.specs.Stores.{item_kind, item_tag, item_children, kind_at, tag_at, children_at}
use Rattle.forest.specs.declared.kind.Kind.{Kind}
use Rattle.types.specs.Parts.{row, content}
use Rattle.types.specs.Belonging.{Belongs}
use Rattle.types.specs.Tables.{Exactly}
use Rattle.types.proofs.Exact.{known, shown}
use Rattle.positions.specs.declared.tables.Positions.{Positions}
use Rattle.positions.specs.Built.{types_of}
use Rattle.validation.specs.Walking.{Suits, SuitsItem, Stepped, over, no_row, outside, tree_at}

-- reading a tree by its handle

kind_of : (trees : List Item) (h : ℕ) (k : Kind) → Some k ≡ kind_at trees h → k ≡ item_kind (tree_at trees h)
kind_of [] h k e = cc
kind_of (i ∷ trees) zero k e = cc
kind_of (i ∷ trees) (suc h) k e = kind_of trees h k e

tag_of : (trees : List Item) (h : ℕ) → tag_at trees h ≡ item_tag (tree_at trees h)
tag_of [] h = refl
tag_of (i ∷ trees) zero = refl
tag_of (i ∷ trees) (suc h) = tag_of trees h

children_of : (trees : List Item) (h : ℕ) → children_at trees h ≡ item_children (tree_at trees h)
children_of [] h = refl
children_of (i ∷ trees) zero = refl
children_of (i ∷ trees) (suc h) = children_of trees h

module _ (p : Positions) (place : ℕ) (trees : List Item) (h : ℕ) (k : Kind) (t : ℕ) (kind : Some k ≡ kind_at trees h) (tag : t ≡ tag_at trees h) where
  abbrev tree : Item
  tree = tree_at trees h

  to_item : (m : ℕ) → Suits p place k t m → SuitsItem p place tree m
  to_item m s = subst (λ z. Suits p place z (item_tag tree) m) (kind_of trees h k kind) (subst (λ z. Suits p place k z m) (tag ∙ tag_of trees h) s)

  from_item : (m : ℕ) → SuitsItem p place tree m → Suits p place k t m
  from_item m s = subst (λ z. Suits p place k z m) (sym (tag ∙ tag_of trees h)) (subst (λ z. Suits p place z (item_tag tree) m) (sym (kind_of trees h k kind)) s)

  pub none_suits : ((m : ℕ) → Suits p place k t m → ⊥) → Stepped p place tree None
  none_suits none = no_row (λ m s. none m (from_item m s))

  -- a row with no content takes what it suits
  pub takes_scalar : {m : ℕ} → Suits p place k t m → None ≡ content (row (types_of p) m) → Stepped p place tree (Some (512 + m))
  takes_scalar {m} s e = over refl (to_item m s) (λ c f. cc)

  -- a row with a content takes an element whose children belong there, and no other
  pub takes_element : {m c : ℕ} {b : Bool} → Suits p place k t m → Some c ≡ content (row (types_of p) m) → Exactly b (Belongs (types_of p) c (forest (children_at trees h))) → b ≡ true → Stepped p place tree (Some (512 + m))
  takes_element {m} {c} s e exact y =
      over refl (to_item m s)
      (λ d f.
      let same : c ≡ d = cc in
      subst (λ (is : List Item). Belongs (types_of p) d (forest is)) (children_of trees h) (subst (λ z. Belongs (types_of p) z (forest (children_at trees h))) same (known exact y)))

  pub refuses_element : {m c : ℕ} {b : Bool} → Suits p place k t m → Some c ≡ content (row (types_of p) m) → Exactly b (Belongs (types_of p) c (forest (children_at trees h))) → b ≡ false → Stepped p place tree None
  refuses_element {m} {c} {b} s e exact y = outside (to_item m s) (sym e) (λ x. both_ways b y (shown exact (subst (λ (is : List Item). Belongs (types_of p) c (forest is)) (sym (children_of trees h)) x)))
