-- What overlaps, and what covers what, by the labels of items.
use Rattle.std.proofs.Common.{◌≡◌, ℕ, true, cond, eqb, ◌⊎◌, Some, None, Option, sym, refl, ap, ◌∙◌, inl, inr, arith}
use Rattle.std.proofs.lemmas.Bool.{eqb-true, eq-eqb, false≢true}
use Rattle.forest.specs.Forests.{Scalar, integer, string, boolean}
use Rattle.rows.specs.declared.type_row.TypeRow.{TypeRow}
use Rattle.rows.specs.declared.type_row.TypeRow.TheVariants.{EmptyChoice, EmptySequence, Integer, String, Boolean, Element, AnyElement, Sequence, Choice, Repetition}
use Rattle.types.specs.Belonging.{scalar_row}
use Rattle.types.specs.Determinism.{Label, kind, tag, any_tag, label, overlaps, meets, both_meet}
use Rattle.types.specs.Places.{allows, both_allow, covers}

-- THE ROWS OF A LABEL

abbrev scalar-of : ℕ → TypeRow
scalar-of k = cond (eqb k 3) Integer (cond (eqb k 4) String Boolean)

pub data Labelled (w : TypeRow) (l : Label) : Type 0 where
  by_kind : {k : ℕ} → w ≡ scalar-of k → l ≡ kind k → Labelled w l
  by-tag : {t c : ℕ} → w ≡ Element t c → l ≡ tag t → Labelled w l
  by-any : {c : ℕ} → w ≡ AnyElement c → l ≡ any_tag → Labelled w l

unlabelled : {w : TypeRow} {l : Label} → ◌≡◌ {A = Option Label} None (Some l) → Labelled w l
unlabelled e = let z : ◌≡◌ {A = ℕ} 0 1 = cc in absurd (omega arith)

pub labelled : (w : TypeRow) (l : Label) → label w ≡ Some l → Labelled w l
labelled EmptyChoice l e = unlabelled e
labelled EmptySequence l e = unlabelled e
labelled Integer l e = by_kind {k = 3} refl (cc)
labelled String l e = by_kind {k = 4} refl (cc)
labelled Boolean l e = by_kind {k = 5} refl (cc)
labelled (Element t c) l e = by-tag refl (cc)
labelled (AnyElement c) l e = by-any refl (cc)
labelled (Sequence a b) l e = unlabelled e
labelled (Choice a b) l e = unlabelled e
labelled (Repetition a) l e = unlabelled e

-- COVERING

allows-meets : (x y : Label) → allows x y ≡ true → meets x y ≡ true
allows-meets (kind x) (kind y) e = e
allows-meets (kind x) (tag u) e = e
allows-meets (kind x) any_tag e = e
allows-meets (tag t) (kind y) e = e
allows-meets (tag t) (tag u) e = e
allows-meets (tag t) any_tag e = e
allows-meets any_tag (kind y) e = e
allows-meets any_tag (tag u) e = refl
allows-meets any_tag any_tag e = refl

both_allow_meet : (x y : Option Label) → both_allow x y ≡ true → both_meet x y ≡ true
both_allow_meet None y e = e
both_allow_meet (Some x) None e = e
both_allow_meet (Some x) (Some y) e = allows-meets x y e

pub covers-overlaps : (v w : TypeRow) → covers v w ≡ true → overlaps v w ≡ true
covers-overlaps v w e = both_allow_meet (label v) (label w) e

-- a label that one allows
allowed : (x : Label) (o : Option Label) → both_allow (Some x) o ≡ true → (y : Label) × ((o ≡ Some y) × (allows x y ≡ true))
allowed x None e = absurd (false≢true e)
allowed x (Some y) e = (y, (refl, e))

allows-kind : (k : ℕ) (y : Label) → allows (kind k) y ≡ true → y ≡ kind k
allows-kind k (kind x) e = ap kind (sym (eqb-true k x e))
allows-kind k (tag u) e = absurd (false≢true e)
allows-kind k any_tag e = absurd (false≢true e)

allows-tag : (t : ℕ) (y : Label) → allows (tag t) y ≡ true → (y ≡ tag t) ⊎ (y ≡ any_tag)
allows-tag t (kind x) e = absurd (false≢true e)
allows-tag t (tag u) e = inl (ap tag (sym (eqb-true t u e)))
allows-tag t any_tag e = inr refl

allows-any : (y : Label) → allows any_tag y ≡ true → y ≡ any_tag
allows-any (kind x) e = absurd (false≢true e)
allows-any (tag u) e = absurd (false≢true e)
allows-any any_tag e = refl

kind_row : (k : ℕ) (w : TypeRow) → Labelled w (kind k) → w ≡ scalar-of k
kind_row k w (by_kind {k = j} e i) = let h : k ≡ j = cc in e ∙ ap scalar-of (sym h)
kind_row k w (by-tag e i) = let z : ◌≡◌ {A = ℕ} 0 1 = cc in absurd (omega arith)
kind_row k w (by-any e i) = let z : ◌≡◌ {A = ℕ} 0 1 = cc in absurd (omega arith)

tag-row : (t : ℕ) (w : TypeRow) → Labelled w (tag t) → (d : ℕ) × (w ≡ Element t d)
tag-row t w (by_kind e i) = let z : ◌≡◌ {A = ℕ} 0 1 = cc in absurd (omega arith)
tag-row t w (by-tag {t = u} {c} e i) = let h : u ≡ t = cc in (c, e ∙ ap (λ x. Element x c) h)
tag-row t w (by-any e i) = let z : ◌≡◌ {A = ℕ} 0 1 = cc in absurd (omega arith)

any_row : (w : TypeRow) → Labelled w any_tag → (d : ℕ) × (w ≡ AnyElement d)
any_row w (by_kind e i) = let z : ◌≡◌ {A = ℕ} 0 1 = cc in absurd (omega arith)
any_row w (by-tag e i) = let z : ◌≡◌ {A = ℕ} 0 1 = cc in absurd (omega arith)
any_row w (by-any {c = c} e i) = (c, e)

covers-kind : (k : ℕ) (w : TypeRow) → both_allow (Some (kind k)) (label w) ≡ true → w ≡ scalar-of k
covers-kind k w e = let h = allowed (kind k) (label w) e in kind_row k w (labelled w (kind k) (h.1.0 ∙ ap Some (allows-kind k h.0 h.1.1)))

pub covers-scalar : (s : Scalar) (w : TypeRow) → covers (scalar_row s) w ≡ true → w ≡ scalar_row s
covers-scalar (integer z) w e = covers-kind 3 w e
covers-scalar (string bs) w e = covers-kind 4 w e
covers-scalar (boolean b) w e = covers-kind 5 w e

pub covers-element : (t c : ℕ) (w : TypeRow) → covers (Element t c) w ≡ true → ((d : ℕ) × (w ≡ Element t d)) ⊎ ((d : ℕ) × (w ≡ AnyElement d))
covers-element t c w e =
    let h = allowed (tag t) (label w) e in
    elim (allows-tag t h.0 h.1.1) [ inl i ↦ inl (tag-row t w (labelled w (tag t) (h.1.0 ∙ ap Some i))) | inr i ↦ inr (any_row w (labelled w any_tag (h.1.0 ∙ ap Some i))) ]

pub covers-any : (c : ℕ) (w : TypeRow) → covers (AnyElement c) w ≡ true → (d : ℕ) × (w ≡ AnyElement d)
covers-any c w e = let h = allowed any_tag (label w) e in any_row w (labelled w any_tag (h.1.0 ∙ ap Some (allows-any h.0 h.1.1)))

-- OVERLAPPING

meets-over : (x y z : Label) → allows x y ≡ true → meets x z ≡ true → meets y z ≡ true
meets-over (kind k) (kind j) z e h = ap (λ i. meets (kind i) z) (sym (eqb-true k j e)) ∙ h
meets-over (kind k) (tag u) z e h = absurd (false≢true e)
meets-over (kind k) any_tag z e h = absurd (false≢true e)
meets-over (tag t) (kind j) z e h = absurd (false≢true e)
meets-over (tag t) (tag u) z e h = ap (λ i. meets (tag i) z) (sym (eqb-true t u e)) ∙ h
meets-over (tag t) any_tag (kind j) e h = h
meets-over (tag t) any_tag (tag u) e h = refl
meets-over (tag t) any_tag any_tag e h = refl
meets-over any_tag (kind j) z e h = absurd (false≢true e)
meets-over any_tag (tag u) z e h = absurd (false≢true e)
meets-over any_tag any_tag z e h = h

both-over : (x y z : Option Label) → both_allow x y ≡ true → both_meet x z ≡ true → both_meet y z ≡ true
both-over None y z e h = absurd (false≢true e)
both-over (Some x) None z e h = absurd (false≢true e)
both-over (Some x) (Some y) None e h = absurd (false≢true h)
both-over (Some x) (Some y) (Some z) e h = meets-over x y z e h

-- what overlaps a row overlaps each that covers it
pub overlaps-over : (u v w : TypeRow) → covers u v ≡ true → overlaps u w ≡ true → overlaps v w ≡ true
overlaps-over u v w e h = both-over (label u) (label v) (label w) e h

pub scalar-covers : (s : Scalar) → covers (scalar_row s) (scalar_row s) ≡ true
scalar-covers (integer z) = refl
scalar-covers (string bs) = refl
scalar-covers (boolean b) = refl

pub tag_meets : (t : ℕ) → eqb t t ≡ true
tag_meets t = eq-eqb t t refl
