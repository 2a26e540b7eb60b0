-- Forests that meet a list of rows, one after another.
use Rattle.std.proofs.Common.{◌≡◌, ℕ, true, List, [], ◌∷◌, sym, refl, ap, ◌∙◌, subst}
use Rattle.forest.specs.Forests.{Scalar, Forest, none, leaf, node, scalar_lawful, tag_lawful}
use Rattle.rows.specs.declared.type_row.TypeRow.{TypeRow}
use Rattle.rows.specs.declared.type_row.TypeRow.TheVariants.{EmptySequence, Element, AnyElement, Sequence, Choice, Repetition}
use Rattle.types.specs.Parts.{row}
use Rattle.types.specs.Belonging.{join, scalar_row, Belongs, nothing, one_scalar, one_element, any_element, both, by_first, by_second, no_more, one_more}

-- the item row n takes the first item of a forest, and leaves the rest
pub data Takes (ts : List TypeRow) (n : ℕ) : Forest → Forest → Type 0 where
  t_scalar : {s : Scalar} {f : Forest} → row ts n ≡ scalar_row s → scalar_lawful s ≡ true → Takes ts n (leaf s f) f
  t_element : {t c : ℕ} {g f : Forest} → row ts n ≡ Element t c → tag_lawful t ≡ true → Belongs ts c g → Takes ts n (node t g f) f
  t_any : {t c : ℕ} {g f : Forest} → row ts n ≡ AnyElement c → tag_lawful t ≡ true → Belongs ts c g → Takes ts n (node t g f) f

-- a forest is one of the first row, then one of the second, and so on
pub data Owed (ts : List TypeRow) : List ℕ → Forest → Type 0 where
  o_end : Owed ts [] none
  o_empty : {r : ℕ} {k : List ℕ} {f : Forest} → row ts r ≡ EmptySequence → Owed ts k f → Owed ts (r ∷ k) f
  o_take : {r : ℕ} {k : List ℕ} {f g : Forest} → Takes ts r f g → Owed ts k g → Owed ts (r ∷ k) f
  o_both : {r a b : ℕ} {k : List ℕ} {f : Forest} → row ts r ≡ Sequence a b → Owed ts (a ∷ b ∷ k) f → Owed ts (r ∷ k) f
  o_first : {r a b : ℕ} {k : List ℕ} {f : Forest} → row ts r ≡ Choice a b → Owed ts (a ∷ k) f → Owed ts (r ∷ k) f
  o_second : {r a b : ℕ} {k : List ℕ} {f : Forest} → row ts r ≡ Choice a b → Owed ts (b ∷ k) f → Owed ts (r ∷ k) f
  o_stop : {r a : ℕ} {k : List ℕ} {f : Forest} → row ts r ≡ Repetition a → Owed ts k f → Owed ts (r ∷ k) f
  o_more : {r a : ℕ} {k : List ℕ} {f : Forest} → row ts r ≡ Repetition a → Owed ts (a ∷ r ∷ k) f → Owed ts (r ∷ k) f

pub join-assoc : (f g h : Forest) → join (join f g) h ≡ join f (join g h)
join-assoc none g h = refl
join-assoc (leaf s f) g h = ap (leaf s) (join-assoc f g h)
join-assoc (node t c f) g h = ap (node t c) (join-assoc f g h)

pub join-none : (f : Forest) → join f none ≡ f
join-none none = refl
join-none (leaf s f) = ap (leaf s) (join-none f)
join-none (node t c f) = ap (node t c) (join-none f)

module _ {ts : List TypeRow} where
  -- one row more in front
  pub owed_more : {r : ℕ} {f : Forest} (k : List ℕ) (g : Forest) → Belongs ts r f → Owed ts k g → Owed ts (r ∷ k) (join f g)
  owed_more k g (nothing e) d = o_empty e d
  owed_more k g (one_scalar e l) d = o_take (t_scalar e l) d
  owed_more k g (one_element e l b) d = o_take (t_element e l b) d
  owed_more k g (any_element e l b) d = o_take (t_any e l b) d
  owed_more k g (both {a = a} {b} {f} {g = h} e p q) d = o_both e (subst (Owed ts (a ∷ b ∷ k)) (sym (join-assoc f h g)) (owed_more (b ∷ k) (join h g) p (owed_more k g q d)))
  owed_more k g (by_first e p) d = o_first e (owed_more k g p d)
  owed_more k g (by_second e p) d = o_second e (owed_more k g p d)
  owed_more k g (no_more e) d = o_stop e d
  owed_more k g (one_more {r} {a} {f} {g = h} e p q) d = o_more e (subst (Owed ts (a ∷ r ∷ k)) (sym (join-assoc f h g)) (owed_more (r ∷ k) (join h g) p (owed_more k g q d)))

  pub to_owed : {r : ℕ} {f : Forest} → Belongs ts r f → Owed ts (r ∷ []) f
  to_owed {r} {f} b = subst (Owed ts (r ∷ [])) (join-none f) (owed_more [] none b o_end)

-- the forest of the first row, and the rest
pub data Parted (ts : List TypeRow) : List ℕ → Forest → Type 0 where
  p_end : Parted ts [] none
  p_more : {r : ℕ} {k : List ℕ} {h f g : Forest} → h ≡ join f g → Belongs ts r f → Parted ts k g → Parted ts (r ∷ k) h

module _ {ts : List TypeRow} where
  taken : {r : ℕ} {k : List ℕ} {f g : Forest} → Takes ts r f g → Parted ts k g → Parted ts (r ∷ k) f
  taken (t_scalar e l) p = p_more refl (one_scalar e l) p
  taken (t_element e l b) p = p_more refl (one_element e l b) p
  taken (t_any e l b) p = p_more refl (any_element e l b) p

  joined : {r a b : ℕ} {k : List ℕ} {f : Forest} → row ts r ≡ Sequence a b → Parted ts (a ∷ b ∷ k) f → Parted ts (r ∷ k) f
  joined e (p_more {f = f} {g} i p (p_more {f = h} {g = j} w q d)) = p_more (i ∙ ap (join f) w ∙ sym (join-assoc f h j)) (both e p q) d

  one_of : {r s : ℕ} {k : List ℕ} {f : Forest} → ((g : Forest) → Belongs ts r g → Belongs ts s g) → Parted ts (r ∷ k) f → Parted ts (s ∷ k) f
  one_of h (p_more {f = f} i p d) = p_more i (h f p) d

  repeated : {r a : ℕ} {k : List ℕ} {f : Forest} → row ts r ≡ Repetition a → Parted ts (a ∷ r ∷ k) f → Parted ts (r ∷ k) f
  repeated e (p_more {f = f} {g} i p (p_more {f = h} {g = j} w q d)) = p_more (i ∙ ap (join f) w ∙ sym (join-assoc f h j)) (one_more e p q) d

  pub parted : {k : List ℕ} {f : Forest} → Owed ts k f → Parted ts k f
  parted o_end = p_end
  parted (o_empty e d) = p_more refl (nothing e) (parted d)
  parted (o_take t d) = taken t (parted d)
  parted (o_both e d) = joined e (parted d)
  parted (o_first e d) = one_of (λ g. by_first e) (parted d)
  parted (o_second e d) = one_of (λ g. by_second e) (parted d)
  parted (o_stop e d) = p_more refl (no_more e) (parted d)
  parted (o_more e d) = repeated e (parted d)

  only : {r : ℕ} {f : Forest} → Parted ts (r ∷ []) f → Belongs ts r f
  only {r} (p_more {f = f} i p p_end) = subst (Belongs ts r) (sym (i ∙ join-none f)) p

  pub from_owed : {r : ℕ} {f : Forest} → Owed ts (r ∷ []) f → Belongs ts r f
  from_owed d = only (parted d)
