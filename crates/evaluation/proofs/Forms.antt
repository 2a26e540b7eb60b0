-- What the forests of an item row are, and which arms take them.
use Rattle.std.proofs.Common.{◌≡◌, ℕ, Bool, true, false, cond, ◌⊎◌, List, [], ◌∷◌, eqb, Some, None, Option, sym, refl, ap, ◌∙◌, subst, inl, inr, arith}
use Rattle.std.specs.List.{list_any}
use Rattle.std.proofs.lemmas.Bool.{false≢true, eqb-true, eq-eqb}
use Rattle.forest.specs.Forests.{Scalar, integer, string, boolean, Forest, none, leaf, node, tag_lawful}
use Rattle.rows.specs.declared.type_row.TypeRow.{TypeRow}
use Rattle.rows.specs.declared.type_row.TypeRow.TheVariants.{Element, AnyElement}
use Rattle.rows.specs.declared.arm.Pattern.{Pattern}
use Rattle.rows.specs.declared.arm.Pattern.TheVariants.{Integer as IntegerArm, String as StringArm, Boolean as BooleanArm, Element as ElementArm, AnyElement as AnyElementArm}
use Rattle.types.specs.Parts.{row, content}
use Rattle.types.specs.Belonging.{scalar_row, Belongs, nothing, one_scalar, one_element, any_element, both, by_first, by_second, no_more, one_more}
use Rattle.typing.specs.Kinds.{is_item, Taking, takes, passes, may_take, may_take_tag, taking, narrowed}
use Rattle.evaluation.specs.Values.{inside, takes as takes_item}

-- one item
pub data Single : Forest → Type 0 where
  one_leaf : {v : Scalar} → Single (leaf v none)
  one_node : {t : ℕ} {c : Forest} → Single (node t c none)

not_item : {v w : TypeRow} {A : Type 0} → v ≡ w → is_item w ≡ false → is_item v ≡ true → A
not_item e n i = absurd (false≢true (sym n ∙ ap is_item (sym e) ∙ i))

its_content : {v w : TypeRow} {c : ℕ} {o : Option ℕ} → v ≡ w → content w ≡ o → content v ≡ Some c → o ≡ Some c
its_content e n i = sym n ∙ ap content (sym e) ∙ i

scalar_content : (s : Scalar) → content (scalar_row s) ≡ None
scalar_content (integer z) = refl
scalar_content (string bs) = refl
scalar_content (boolean b) = refl

module _ {us : List TypeRow} where
  -- an item row has single items
  pub single : {x : ℕ} {f : Forest} → is_item (row us x) ≡ true → Belongs us x f → Single f
  single i (nothing e) = not_item e refl i
  single i (one_scalar e l) = one_leaf
  single i (one_element e l b) = one_node
  single i (any_element e l b) = one_node
  single i (both e p q) = not_item e refl i
  single i (by_first e p) = not_item e refl i
  single i (by_second e p) = not_item e refl i
  single i (no_more e) = not_item e refl i
  single i (one_more e p q) = not_item e refl i

  -- what stands inside an element belongs to its content
  pub inside_belongs : {x c : ℕ} {f : Forest} → content (row us x) ≡ Some c → Belongs us x f → Belongs us c (inside f)
  inside_belongs {x} {c} i (nothing e) = let n : None ≡ Some c = its_content e refl i in absurd cc
  inside_belongs {x} {c} i (one_scalar {s = s} e l) = let n : None ≡ Some c = its_content e (scalar_content s) i in absurd cc
  inside_belongs {x} {c} i (one_element {c = d} {f} e l b) = let n : Some d ≡ Some c = its_content e refl i in let k : d ≡ c = cc in subst (λ z. Belongs us z f) k b
  inside_belongs {x} {c} i (any_element {c = d} {f} e l b) = let n : Some d ≡ Some c = its_content e refl i in let k : d ≡ c = cc in subst (λ z. Belongs us z f) k b
  inside_belongs {x} {c} i (both e p q) = let n : None ≡ Some c = its_content e refl i in absurd cc
  inside_belongs {x} {c} i (by_first e p) = let n : None ≡ Some c = its_content e refl i in absurd cc
  inside_belongs {x} {c} i (by_second e p) = let n : None ≡ Some c = its_content e refl i in absurd cc
  inside_belongs {x} {c} i (no_more e) = let n : None ≡ Some c = its_content e refl i in absurd cc
  inside_belongs {x} {c} i (one_more e p q) = let n : None ≡ Some c = its_content e refl i in absurd cc

-- ARMS

-- the tag of the item, if it is an element, is none of those named
abbrev pub Unnamed : List ℕ → Forest → Type 0
Unnamed named none = Unit {0}
Unnamed named (leaf v f) = Unit {0}
Unnamed named (node t c f) = list_any (λ u. eqb u t) named ≡ false

pub unnamed_yet : (f : Forest) → Unnamed [] f
unnamed_yet none = tt
unnamed_yet (leaf v f) = tt
unnamed_yet (node t c f) = refl

-- How an arm stands to a row's item is how it stands to the row: it takes the item, passes over it, or it may do either. If it may take the item and does, that belongs to the narrowed row.
pub data Stands (us : List TypeRow) (w : TypeRow) (named : List ℕ) (p : Pattern) (f : Forest) : Taking → Type 0 where
  does_take : takes_item p f ≡ true → Stands us w named p f takes
  does_pass : takes_item p f ≡ false → Stands us w named p f passes
  may_and_takes : {t : ℕ} → takes_item p f ≡ true → ((v : ℕ) → row us v ≡ narrowed t w → Belongs us v f) → Stands us w named p f (may_take t)
  may_and_passes : {t : ℕ} → takes_item p f ≡ false → Unnamed (t ∷ named) f → Stands us w named p f (may_take t)

-- the row alone
abbrev At : List ℕ → Pattern → Forest → Taking → Type 0
At named p f k = (us : List TypeRow) (w : TypeRow) → Stands us w named p f k

by_test : {named : List ℕ} {p : Pattern} {f : Forest} (b : Bool) → takes_item p f ≡ b → At named p f (cond b takes passes)
by_test true e us w = does_take e
by_test false e us w = does_pass e

scalar_stands : (p : Pattern) (named : List ℕ) (s : Scalar) → At named p (leaf s none) (taking named (scalar_row s) p)
scalar_stands IntegerArm named (integer z) us w = does_take refl
scalar_stands IntegerArm named (string bs) us w = does_pass refl
scalar_stands IntegerArm named (boolean b) us w = does_pass refl
scalar_stands StringArm named (integer z) us w = does_pass refl
scalar_stands StringArm named (string bs) us w = does_take refl
scalar_stands StringArm named (boolean b) us w = does_pass refl
scalar_stands BooleanArm named (integer z) us w = does_pass refl
scalar_stands BooleanArm named (string bs) us w = does_pass refl
scalar_stands BooleanArm named (boolean b) us w = does_take refl
scalar_stands (ElementArm t) named (integer z) us w = does_pass refl
scalar_stands (ElementArm t) named (string bs) us w = does_pass refl
scalar_stands (ElementArm t) named (boolean b) us w = does_pass refl
scalar_stands AnyElementArm named (integer z) us w = does_pass refl
scalar_stands AnyElementArm named (string bs) us w = does_pass refl
scalar_stands AnyElementArm named (boolean b) us w = does_pass refl

-- the arm of tag u at an element of tag t
tagged_stands : (named : List ℕ) (u t : ℕ) (f : Forest) (k : Taking) (b : Bool) → eqb u t ≡ b → (c : Bool) → eqb t u ≡ c → At named (ElementArm u) (node t f none) (cond c takes (cond c k passes))
tagged_stands named u t f k true e true h us w = does_take e
tagged_stands named u t f k true e false h us w = absurd (false≢true (sym h ∙ eq-eqb t u (sym (eqb-true u t e))))
tagged_stands named u t f k false e true h us w = absurd (false≢true (sym e ∙ eq-eqb u t (sym (eqb-true t u h))))
tagged_stands named u t f k false e false h us w = does_pass e

element_stands : (p : Pattern) (named : List ℕ) (t c : ℕ) (f : Forest) → At named p (node t f none) (taking named (Element t c) p)
element_stands IntegerArm named t c f us w = does_pass refl
element_stands StringArm named t c f us w = does_pass refl
element_stands BooleanArm named t c f us w = does_pass refl
element_stands (ElementArm u) named t c f us w = tagged_stands named u t f (may_take_tag named (Some u)) (eqb u t) refl (eqb t u) refl us w
element_stands AnyElementArm named t c f us w = does_take refl

-- an arm stands so to an item of a row
abbrev Standing : List TypeRow → List ℕ → Pattern → Forest → TypeRow → Type 0
Standing us named p f w = Stands us w named p f (taking named w p)

module _ {us : List TypeRow} where
  -- the arm of tag u at an element of tag t, where any is asked for
  may_stand : (named : List ℕ) (u t c : ℕ) (f : Forest) → tag_lawful t ≡ true → Belongs us c f → list_any (λ v. eqb v t) named ≡ false → (b : Bool) → eqb u t ≡ b → (d : Bool) → list_any (λ v. eqb v u) named ≡ d
      → Stands us (AnyElement c) named (ElementArm u) (node t f none) (cond d passes (may_take u))
  may_stand named u t c f l b un true e true h = absurd (false≢true (sym un ∙ ap (λ z. list_any (λ v. eqb v z) named) (sym (eqb-true u t e)) ∙ h))
  may_stand named u t c f l b un true e false h = may_and_takes e (λ v i. let j : u ≡ t = eqb-true u t e in one_element (i ∙ ap (λ z. Element z c) j) l b)
  may_stand named u t c f l b un false e true h = does_pass e
  may_stand named u t c f l b un false e false h = may_and_passes e (rw (e, un))

  any_stands : (p : Pattern) (named : List ℕ) (t c : ℕ) (f : Forest) → tag_lawful t ≡ true → Belongs us c f → list_any (λ v. eqb v t) named ≡ false → Stands us (AnyElement c) named p (node t f none) (taking named (AnyElement c) p)
  any_stands IntegerArm named t c f l b un = does_pass refl
  any_stands StringArm named t c f l b un = does_pass refl
  any_stands BooleanArm named t c f l b un = does_pass refl
  any_stands (ElementArm u) named t c f l b un = may_stand named u t c f l b un (eqb u t) refl (list_any (λ v. eqb v u) named) refl
  any_stands AnyElementArm named t c f l b un = does_take refl

  pub stands : {x : ℕ} {f : Forest} (named : List ℕ) (p : Pattern) → is_item (row us x) ≡ true → Belongs us x f → Unnamed named f → Standing us named p f (row us x)
  stands named p i (nothing e) un = not_item e refl i
  stands named p i (one_scalar {s = s} e l) un = subst (Standing us named p (leaf s none)) (sym e) (scalar_stands p named s us (scalar_row s))
  stands named p i (one_element {t = t} {c} {f} e l b) un = subst (Standing us named p (node t f none)) (sym e) (element_stands p named t c f us (Element t c))
  stands named p i (any_element {t = t} {c} {f} e l b) un = subst (Standing us named p (node t f none)) (sym e) (any_stands p named t c f l b un)
  stands named p i (both e y z) un = not_item e refl i
  stands named p i (by_first e y) un = not_item e refl i
  stands named p i (by_second e y) un = not_item e refl i
  stands named p i (no_more e) un = not_item e refl i
  stands named p i (one_more e y z) un = not_item e refl i

-- WHAT FOLLOWS, BY HOW THE ARM STANDS TO THE ROW

no_clash : {A : Type 0} → ◌≡◌ {A = ℕ} 0 1 → A
no_clash z = absurd (omega arith)

module _ {us : List TypeRow} {w : TypeRow} {named : List ℕ} {p : Pattern} {f : Forest} where
  pub it_takes : {k : Taking} → Stands us w named p f k → k ≡ takes → takes_item p f ≡ true
  it_takes (does_take e) h = e
  it_takes (does_pass e) h = no_clash cc
  it_takes (may_and_takes {t} e b) h = no_clash cc
  it_takes (may_and_passes {t} e u) h = no_clash cc

  pub it_passes : {k : Taking} → Stands us w named p f k → k ≡ passes → takes_item p f ≡ false
  it_passes (does_take e) h = no_clash cc
  it_passes (does_pass e) h = e
  it_passes (may_and_takes {t} e b) h = no_clash cc
  it_passes (may_and_passes {t} e u) h = no_clash cc

  pub it_may : {k : Taking} {t : ℕ} → Stands us w named p f k → k ≡ may_take t
      → ((takes_item p f ≡ true) × ((v : ℕ) → row us v ≡ narrowed t w → Belongs us v f)) ⊎ ((takes_item p f ≡ false) × Unnamed (t ∷ named) f)
  it_may (does_take e) h = no_clash cc
  it_may (does_pass e) h = no_clash cc
  it_may {t = t} (may_and_takes {t = u} e b) h = let i : u ≡ t = cc in inl (e, λ v j. b v (j ∙ ap (λ z. narrowed z w) (sym i)))
  it_may {t = t} (may_and_passes {t = u} e n) h = let i : u ≡ t = cc in inr (e, subst (λ z. Unnamed (z ∷ named) f) i n)
