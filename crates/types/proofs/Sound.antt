-- A closed set of pairs of places shows that one type is a subtype of another.
use Rattle.std.proofs.Common.{◌≡◌, ℕ, true, List, [], ◌∷◌, Some, sym, refl, ap, ◌∙◌, subst, inl, inr}
use Rattle.forest.specs.Forests.{Scalar, Forest, none, leaf, node}
use Rattle.rows.specs.declared.type_row.TypeRow.{TypeRow}
use Rattle.types.specs.Parts.{row, content, Lawful}
use Rattle.types.specs.Belonging.{Belongs, Subtype}
use Rattle.types.specs.Places.{Place, start, behind, type_of, Next, Ends, Useful, useful, covers}
use Rattle.types.proofs.Owed.{Takes, t_scalar, t_element, t_any, Owed, to_owed, from_owed}
use Rattle.types.proofs.Steps.{Step, Start, went, stepped, none-owed, all-null}
use Rattle.types.proofs.Steps.{start as begin}
use Rattle.types.proofs.Labels.{covers-scalar, covers-element, covers-any}
use Rattle.types.proofs.Standing.{Stands, on-start, goes, step_of, ends_of, nulls_of}
use Rattle.types.proofs.Living.{takes_lives, owed_lives}

-- A row that covers another takes what that takes; an element if its content is taken too.

leaf-over : {ts : List TypeRow} {n m : ℕ} {s : Scalar} {f g : Forest} → covers (row ts n) (row ts m) ≡ true → Takes ts n (leaf s f) g → Takes ts m (leaf s f) g
leaf-over {ts} {n} {m} v (t_scalar {s = s} e l) = t_scalar (covers-scalar s (row ts m) (ap (λ w. covers w (row ts m)) (sym e) ∙ v)) l

node_over : {ts : List TypeRow} {n m t : ℕ} {x f g : Forest} → ((c d : ℕ) → content (row ts n) ≡ Some c → content (row ts m) ≡ Some d → Belongs ts c x → Belongs ts d x)
    → covers (row ts n) (row ts m) ≡ true → Takes ts n (node t x f) g → Takes ts m (node t x f) g
node_over {ts} {n} {m} h v (t_element {t = t} {c} e l b) =
    elim (covers-element t c (row ts m) (ap (λ w. covers w (row ts m)) (sym e) ∙ v)) [
      | inl d ↦ t_element d.1 l (h c d.0 (ap content e) (ap content d.1) b)
      | inr d ↦ t_any d.1 l (h c d.0 (ap content e) (ap content d.1) b)
    ]
node_over {ts} {n} {m} h v (t_any {c = c} e l b) =
    let d = covers-any c (row ts m) (ap (λ w. covers w (row ts m)) (sym e) ∙ v) in
    t_any d.1 l (h c d.0 (ap content e) (ap content d.1) b)

-- what is left of a forest behind its first item
leaf-rest : {ts : List TypeRow} {n : ℕ} {s : Scalar} {f g : Forest} → Takes ts n (leaf s f) g → g ≡ f
leaf-rest (t_scalar e l) = refl

node-rest : {ts : List TypeRow} {n t : ℕ} {x f g : Forest} → Takes ts n (node t x f) g → g ≡ f
node-rest (t_element e l b) = refl
node-rest (t_any e l b) = refl

-- A set of pairs of places that is closed: where the left may end the right may, and each useful next item on the left is answered on the right.
pub record Answer (ts : List TypeRow) (V : Place → Place → Type 0) (p q : Place) (n : ℕ) : Type 0 where
  pub m : ℕ
  pub next : Next ts q m
  pub cover : covers (row ts n) (row ts m) ≡ true
  pub on : V (behind (type_of p) n) (behind (type_of q) m)
  pub into : (c d : ℕ) → content (row ts n) ≡ Some c → content (row ts m) ≡ Some d → V (start c) (start d)

pub record Closed (ts : List TypeRow) (V : Place → Place → Type 0) : Type 0 where
  pub ends : (p q : Place) → V p q → Ends ts p → Ends ts q
  pub steps : (p q : Place) (n : ℕ) → V p q → Next ts p n → Useful ts (type_of p) n → Answer ts V p q n

-- a forest that meets what is left at p meets what is left at q
abbrev Carries : List TypeRow → (Place → Place → Type 0) → Forest → Type 0
Carries ts V f = (p q : Place) (k l : List ℕ) → V p q → Stands ts p k → Stands ts q l → Owed ts k f → Owed ts l f

module _ {ts : List TypeRow} (law : Lawful ts) {V : Place → Place → Type 0} (closed : Closed ts V) where
  -- what a closed set gives at a step
  record Answered (p q : Place) (n : ℕ) (u l : List ℕ) : Type 0 where
    answer : Answer ts V p q n
    v : List ℕ
    step : Step ts l answer.m v
    from : Stands ts (behind (type_of p) n) u
    to : Stands ts (behind (type_of q) answer.m) v

  answered : {p q : Place} {n : ℕ} {k u l : List ℕ} {f g : Forest} → V p q → Stands ts p k → Stands ts q l → Step ts k n u → Takes ts n f g → Owed ts u g → Answered p q n u l
  answered {p} {q} {n} r sp sq h t d =
      let x = goes law sp h in
      let y = closed.steps p q n r x.next (useful (takes_lives t) x.left (owed_lives d)) in
      let z = step_of law sq y.next in
      record { answer = y; v = z.0; step = z.1; from = x.stands; to = (goes law sq z.1).stands }

  leaf-carries : {s : Scalar} {f : Forest} {p q : Place} {k l : List ℕ} → Carries ts V f → V p q → Stands ts p k → Stands ts q l → Start ts k (leaf s f) → Owed ts l (leaf s f)
  leaf-carries ih r sp sq (went {s = u} h t d) =
      let w = answered r sp sq h t d in
      let o = leaf-over w.answer.cover t in
      stepped w.step o (subst (Owed ts w.v) (sym (leaf-rest o)) (ih _ _ _ _ w.answer.on w.from w.to (subst (Owed ts u) (leaf-rest t) d)))

  node-carries : {t : ℕ} {x f : Forest} {p q : Place} {k l : List ℕ} → Carries ts V x → Carries ts V f → V p q → Stands ts p k → Stands ts q l → Start ts k (node t x f) → Owed ts l (node t x f)
  node-carries ix ih r sp sq (went {s = u} h t d) =
      let w = answered r sp sq h t d in
      let o = node_over (λ c d i j e. from_owed (ix _ _ _ _ (w.answer.into c d i j) on-start on-start (to_owed e))) w.answer.cover t in
      stepped w.step o (subst (Owed ts w.v) (sym (node-rest o)) (ih _ _ _ _ w.answer.on w.from w.to (subst (Owed ts u) (node-rest t) d)))

  carries : (f : Forest) → Carries ts V f
  carries none p q k l r sp sq d = none-owed (nulls_of law sq (closed.ends p q r (ends_of law sp (all-null d))))
  carries (leaf s f) p q k l r sp sq d = leaf-carries (carries f) r sp sq (begin d)
  carries (node t x f) p q k l r sp sq d = node-carries (carries x) (carries f) r sp sq (begin d)

  pub closed-subtype : {a b : ℕ} → V (start a) (start b) → Subtype ts a b
  closed-subtype {a} {b} v f d = from_owed (carries f (start a) (start b) (a ∷ []) (b ∷ []) v on-start on-start (to_owed d))
