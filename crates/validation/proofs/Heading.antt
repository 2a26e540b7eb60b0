-- An item row suits an item exactly if it may head a forest that begins with it, and takes it if the children belong to its content.
use Rattle.std.proofs.Common.{◌≡◌, ℕ, true, List, Some, sym, refl, ap, ◌∙◌, subst, eq-eqb, eqb-true}
use Rattle.std.proofs.lemmas.Bool.{and_parts}
use Rattle.forest.proofs.Items.{forest-items}
use Rattle.forest.proofs.Legal.{legal}
use Rattle.forest.specs.Forests.{Scalar, integer, string, boolean, Forest, Item, scalar, element, before, forest, scalar_lawful, tag_lawful}
use Rattle.forest.specs.Stores.{kind_number, item_kind, item_tag, item_children}
use Rattle.rows.specs.declared.type_row.TypeRow.{TypeRow}
use Rattle.rows.specs.declared.type_row.TypeRow.TheVariants.{EmptyChoice, EmptySequence, Integer, String, Boolean, Element, AnyElement, Sequence, Choice, Repetition}
use Rattle.types.specs.Parts.{row, content}
use Rattle.types.specs.Belonging.{scalar_row, Belongs}
use Rattle.types.specs.Determinism.{label}
use Rattle.types.proofs.Owed.{Takes, t_scalar, t_element, t_any}
use Rattle.types.proofs.Complete.{Heads, h_scalar, h_element, h_any}
use Rattle.validation.specs.Matching.{suits}

-- the row suits the item
abbrev pub fits : TypeRow → Item → Type 0
fits v i = suits (label v) (kind_number (item_kind i)) (item_tag i) ≡ true

scalar_fits : (s : Scalar) → fits (scalar_row s) (scalar s)
scalar_fits (integer z) = refl
scalar_fits (string bs) = refl
scalar_fits (boolean b) = refl

no_content : (s : Scalar) {c : ℕ} {A : Type 0} → content (scalar_row s) ≡ Some c → A
no_content (integer z) e = cc
no_content (string bs) e = cc
no_content (boolean b) e = cc

by_row : {w v : TypeRow} (i : Item) → w ≡ v → fits v i → fits w i
by_row i e h = subst (λ v. fits v i) (sym e) h

module _ {ts : List TypeRow} {m : ℕ} where
  heads_by : (v : TypeRow) (i : Item) (f : Forest) → row ts m ≡ v → fits v i → Heads ts m (before i f)
  heads_by EmptyChoice i f e h = cc
  heads_by EmptySequence i f e h = cc
  heads_by Integer (scalar (integer z)) f e h = h_scalar e
  heads_by Integer (scalar (string bs)) f e h = cc
  heads_by Integer (scalar (boolean b)) f e h = cc
  heads_by Integer (element t x) f e h = cc
  heads_by String (scalar (integer z)) f e h = cc
  heads_by String (scalar (string bs)) f e h = h_scalar e
  heads_by String (scalar (boolean b)) f e h = cc
  heads_by String (element t x) f e h = cc
  heads_by Boolean (scalar (integer z)) f e h = cc
  heads_by Boolean (scalar (string bs)) f e h = cc
  heads_by Boolean (scalar (boolean b)) f e h = h_scalar e
  heads_by Boolean (element t x) f e h = cc
  heads_by (Element u c) (scalar (integer z)) f e h = cc
  heads_by (Element u c) (scalar (string bs)) f e h = cc
  heads_by (Element u c) (scalar (boolean b)) f e h = cc
  heads_by (Element u c) (element t x) f e h = h_element (e ∙ ap (λ n. Element n c) (eqb-true u t h))
  heads_by (AnyElement c) (scalar (integer z)) f e h = cc
  heads_by (AnyElement c) (scalar (string bs)) f e h = cc
  heads_by (AnyElement c) (scalar (boolean b)) f e h = cc
  heads_by (AnyElement c) (element t x) f e h = h_any e
  heads_by (Sequence a b) i f e h = cc
  heads_by (Choice a b) i f e h = cc
  heads_by (Repetition a) i f e h = cc

  pub heads : (i : Item) (f : Forest) → fits (row ts m) i → Heads ts m (before i f)
  heads i f h = heads_by (row ts m) i f refl h

  pub headed : (i : Item) (f : Forest) → Heads ts m (before i f) → fits (row ts m) i
  headed (scalar s) f (h_scalar e) = by_row (scalar s) e (scalar_fits s)
  headed (element t x) f (h_element e) = by_row (element t x) e (eq-eqb t t refl)
  headed (element t x) f (h_any e) = by_row (element t x) e refl

  -- an item whose children belong to the content of a row that suits it is taken
  pub takes : (i : Item) (f : Forest) → legal i ≡ true → Heads ts m (before i f) → ((c : ℕ) → content (row ts m) ≡ Some c → Belongs ts c (forest (item_children i))) → Takes ts m (before i f) f
  takes (scalar s) f l (h_scalar e) b = t_scalar e (and_parts (scalar_lawful s) true l).0
  takes (element t x) f l (h_element {c = c} e) b = t_element e (and_parts (tag_lawful t) _ l).0 (subst (Belongs ts c) (forest-items x) (b c (ap content e)))
  takes (element t x) f l (h_any {c = c} e) b = t_any e (and_parts (tag_lawful t) _ l).0 (subst (Belongs ts c) (forest-items x) (b c (ap content e)))

  -- and of an item that is taken they do
  pub inside : (i : Item) (f : Forest) {g : Forest} {c : ℕ} → Takes ts m (before i f) g → content (row ts m) ≡ Some c → Belongs ts c (forest (item_children i))
  inside (scalar s) f (t_scalar e l) h = no_content s (sym (ap content e) ∙ h)
  inside (element t x) f {c = d} (t_element {c = c} e l b) h = let same : c ≡ d = cc (ap content e) in subst (Belongs ts d) (sym (forest-items x)) (subst (λ z. Belongs ts z x) same b)
  inside (element t x) f {c = d} (t_any {c = c} e l b) h = let same : c ≡ d = cc (ap content e) in subst (Belongs ts d) (sym (forest-items x)) (subst (λ z. Belongs ts z x) same b)
