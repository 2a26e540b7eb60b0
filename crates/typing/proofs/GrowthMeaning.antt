-- What growing leaves as it was said of rows before, and what a copy says.
use Rattle.std.proofs.Common.{◌≡◌, ℕ, ◌<◌, true, ◌⊎◌, ◌↔◌, List, [], ◌∷◌, length, sym, refl, ap, ◌∙◌, subst, inl, inr, arith}
use Rattle.std.proofs.lemmas.List.{get_or_past, get_or_push}
use Rattle.std.proofs.lemmas.Bool.{cases_lt, false≢true, false_from_ne_true}
use Rattle.forest.specs.Forests.{Scalar, integer, string, boolean, Forest, none}
use Rattle.rows.specs.declared.type_row.TypeRow.{TypeRow}
use Rattle.rows.specs.declared.type_row.TypeRow.TheVariants.{EmptyChoice, EmptySequence, Integer, String, Boolean, Element, AnyElement, Sequence, Choice, Repetition}
use Rattle.rows.specs.TypeRows.{owns}
use Rattle.rows.specs.Programs.{ProgramRows}
use Rattle.types.specs.Parts.{row, Root, Lawful}
use Rattle.types.specs.Belonging.{join, scalar_row, Belongs, nothing, one_scalar, one_element, any_element, both, by_first, by_second, no_more, one_more, Subtype}
use Rattle.types.specs.Determinism.{Deterministic}
use Rattle.types.specs.Places.{Checked}
use Rattle.types.proofs.Longer.{Longer, longer, longer_same, longer_on, ContentsThere, same_forests, same_subtypes, same_one_way}
use Rattle.typing.specs.Kinds.{is_item}
use Rattle.typing.specs.Outcomes.{Progress}
use Rattle.typing.specs.Programs.{Orderly}
use Rattle.typing.specs.Rules.{Added, copied, Walks, item_copied, no_choice, nothing as nothing_copied, both as both_copied, either, repeated}
use Rattle.typing.specs.Growth.{Grows, Keeps, Alike}
use Rattle.typing.proofs.GrowthSteps.{longer_of, Start, start_on}
use Rattle.typing.proofs.Growth.{walks_grow}

-- WHAT GROWING LEAVES

pub contents_there : {ts : List TypeRow} {declared : ℕ} → Checked ts declared → ContentsThere ts
contents_there k n c e = (k.contents n c e).there

pub grown_forests : {ts us : List TypeRow} {declared : ℕ} → Checked ts declared → Grows ts us → (r : ℕ) (f : Forest) → r < length ts → Belongs ts r f ↔ Belongs us r f
grown_forests k g r f l = same_forests (longer_of g) k.lawful (contents_there k) r f l

pub grown_subtypes : {ts us : List TypeRow} {declared : ℕ} → Checked ts declared → Grows ts us → (a b : ℕ) → a < length ts → b < length ts → Subtype ts a b ↔ Subtype us a b
grown_subtypes k g a b la lb = same_subtypes (longer_of g) k.lawful (contents_there k) a b la lb

-- a root is one still
pub grown_root : {ts us : List TypeRow} {r : ℕ} → Grows ts us → Root ts r → Root us r
grown_root {ts} {us} {r} g root =
    let t = root.there in
    let m = longer_of g in
    let long = m.long in
    record {
      there = omega arith;
      unowned = λ s. elim (cases_lt s (length ts)) [
        | inl l ↦ ap (λ w. owns w r) (m.same s l) ∙ root.unowned s
        | inr l ↦ false_from_ne_true (owns (row us s) r) (λ o. (let a = g.parts s r l o in absurd (omega arith)))
      ];
    }

pub grown_one_way : {ts us : List TypeRow} {r : ℕ} → Lawful ts → Lawful us → Grows ts us → Root ts r → Deterministic ts r ↔ Deterministic us r
grown_one_way law lawful g root = same_one_way (longer_of g) law lawful (grown_root g root) root.there

-- THE FORESTS OF A ROW, BY WHAT IT IS

-- what belongs to row r, if it is w
abbrev pub FormOf : List TypeRow → ℕ → Forest → TypeRow → Type 0
FormOf ts r f EmptyChoice = ⊥
FormOf ts r f EmptySequence = f ≡ none
FormOf ts r f Integer = Unit {0}
FormOf ts r f String = Unit {0}
FormOf ts r f Boolean = Unit {0}
FormOf ts r f (Element t c) = Unit {0}
FormOf ts r f (AnyElement c) = Unit {0}
FormOf ts r f (Sequence a b) = (x : Forest) × (y : Forest) × (f ≡ join x y) × Belongs ts a x × Belongs ts b y
FormOf ts r f (Choice a b) = Belongs ts a f ⊎ Belongs ts b f
FormOf ts r f (Repetition a) = Unit {0}

scalar_form : (ts : List TypeRow) (r : ℕ) (f : Forest) (s : Scalar) → FormOf ts r f (scalar_row s)
scalar_form ts r f (integer z) = tt
scalar_form ts r f (string bs) = tt
scalar_form ts r f (boolean b) = tt

form : {ts : List TypeRow} {r : ℕ} {f : Forest} → Belongs ts r f → FormOf ts r f (row ts r)
form {ts} {r} {f} (nothing e) = subst (FormOf ts r f) (sym e) refl
form {ts} {r} {f} (one_scalar {s = s} e l) = subst (FormOf ts r f) (sym e) (scalar_form ts r f s)
form {ts} {r} {f} (one_element e l b) = subst (FormOf ts r f) (sym e) tt
form {ts} {r} {f} (any_element e l b) = subst (FormOf ts r f) (sym e) tt
form {ts} {r} {f} (both {f = x} {g = y} e p q) = subst (FormOf ts r f) (sym e) (x, y, refl, p, q)
form {ts} {r} {f} (by_first e p) = subst (FormOf ts r f) (sym e) (inl p)
form {ts} {r} {f} (by_second e p) = subst (FormOf ts r f) (sym e) (inr p)
form {ts} {r} {f} (no_more e) = subst (FormOf ts r f) (sym e) tt
form {ts} {r} {f} (one_more e p q) = subst (FormOf ts r f) (sym e) tt

pub form_at : {ts : List TypeRow} {r : ℕ} {f : Forest} {w : TypeRow} → row ts r ≡ w → Belongs ts r f → FormOf ts r f w
form_at {ts} {r} {f} e b = subst (FormOf ts r f) e (form b)

-- FORESTS OF ONE ROW BELONG TO ANOTHER

abbrev Into : List TypeRow → ℕ → List TypeRow → ℕ → Type 0
Into us x ts r = (f : Forest) → Belongs us x f → Belongs ts r f

sequence_into : {us ts : List TypeRow} {z r x y a b : ℕ} → row us z ≡ Sequence x y → row ts r ≡ Sequence a b → Into us x ts a → Into us y ts b → Into us z ts r
sequence_into {ts = ts} {r = r} e i k l f h = let v = form_at e h in subst (Belongs ts r) (sym v.2) (both i (k v.0 v.3) (l v.1 v.4))

choice_into : {us ts : List TypeRow} {z r x y a b : ℕ} → row us z ≡ Choice x y → row ts r ≡ Choice a b → Into us x ts a → Into us y ts b → Into us z ts r
choice_into e i k l f h = elim (form_at e h) [ inl p ↦ by_first i (k f p) | inr p ↦ by_second i (l f p) ]

pub scalar_item : (s : Scalar) → is_item (scalar_row s) ≡ true
scalar_item (integer z) = refl
scalar_item (string bs) = refl
scalar_item (boolean b) = refl

module _ {us ts : List TypeRow} {z r x a : ℕ} (e : row us z ≡ Repetition x) (i : row ts r ≡ Repetition a) (k : Into us x ts a) where
  repetition_into : {f : Forest} → Belongs us z f → Belongs ts r f
  repetition_into (nothing h) = let n : ◌≡◌ {A = ℕ} 0 1 = cc in absurd (omega arith)
  repetition_into (one_scalar {s = s} h l) = absurd (false≢true (ap is_item (sym e ∙ h) ∙ scalar_item s))
  repetition_into (one_element h l b) = let n : ◌≡◌ {A = ℕ} 0 1 = cc in absurd (omega arith)
  repetition_into (any_element h l b) = let n : ◌≡◌ {A = ℕ} 0 1 = cc in absurd (omega arith)
  repetition_into (both h p q) = let n : ◌≡◌ {A = ℕ} 0 1 = cc in absurd (omega arith)
  repetition_into (by_first h p) = let n : ◌≡◌ {A = ℕ} 0 1 = cc in absurd (omega arith)
  repetition_into (by_second h p) = let n : ◌≡◌ {A = ℕ} 0 1 = cc in absurd (omega arith)
  repetition_into (no_more h) = no_more i
  repetition_into (one_more {a = c} {f = f} h p q) = let j : c ≡ x = cc in one_more i (k f (subst (λ n. Belongs us n f) j p)) (repetition_into q)

-- rows over rows with the same forests
sequence_alike : {us ts : List TypeRow} {z r x y a b : ℕ} → row us z ≡ Sequence x y → row ts r ≡ Sequence a b → Alike us x ts a → Alike us y ts b → Alike us z ts r
sequence_alike e i k l f = (sequence_into e i (λ g. (k g).0) (λ g. (l g).0) f, sequence_into i e (λ g. (k g).1) (λ g. (l g).1) f)

choice_alike : {us ts : List TypeRow} {z r x y a b : ℕ} → row us z ≡ Choice x y → row ts r ≡ Choice a b → Alike us x ts a → Alike us y ts b → Alike us z ts r
choice_alike e i k l f = (choice_into e i (λ g. (k g).0) (λ g. (l g).0) f, choice_into i e (λ g. (k g).1) (λ g. (l g).1) f)

repetition_alike : {us ts : List TypeRow} {z r x a : ℕ} → row us z ≡ Repetition x → row ts r ≡ Repetition a → Alike us x ts a → Alike us z ts r
repetition_alike e i k f = (repetition_into e i (λ g. (k g).0), repetition_into i e (λ g. (k g).1))

-- neither has any
never_alike : {us ts : List TypeRow} {z r : ℕ} → row us z ≡ EmptyChoice → row ts r ≡ EmptyChoice → Alike us z ts r
never_alike e i f = (λ b. absurd (form_at e b), λ b. absurd (form_at i b))

-- two equal rows of one table
same_row : {ts : List TypeRow} {x r : ℕ} {f : Forest} → row ts x ≡ row ts r → Belongs ts x f → Belongs ts r f
same_row h (nothing e) = nothing (sym h ∙ e)
same_row h (one_scalar e l) = one_scalar (sym h ∙ e) l
same_row h (one_element e l b) = one_element (sym h ∙ e) l b
same_row h (any_element e l b) = any_element (sym h ∙ e) l b
same_row h (both e p q) = both (sym h ∙ e) p q
same_row h (by_first e p) = by_first (sym h ∙ e) p
same_row h (by_second e p) = by_second (sym h ∙ e) p
same_row h (no_more e) = no_more (sym h ∙ e)
same_row h (one_more e p q) = one_more (sym h ∙ e) p (same_row h q)

-- COPIES

module _ {ts : List TypeRow} (law : Lawful ts) (there : ContentsThere ts) where
  -- a row like one that was there
  alike_row : {us : List TypeRow} {x : ℕ} (r : ℕ) → Longer ts us → r < length ts → row us x ≡ row ts r → Alike us x ts r
  alike_row {us} {x} r m l e f =
      let h : row us x ≡ row us r = e ∙ sym (m.same r l) in
      let s = same_forests m law there r f l in
      (λ b. s.1 (same_row h b), λ b. same_row (sym h) (s.0 b))

  -- and in a longer table
  alike_on : {us vs : List TypeRow} {x : ℕ} {r : ℕ} → Lawful us → ContentsThere us → Longer us vs → x < length us → Alike us x ts r → Alike vs x ts r
  alike_on {x = x} lawful within m l h f = let s = same_forests m lawful within x f l in (λ b. (h f).0 (s.1 b), λ b. s.0 ((h f).1 b))

pub added_row : {w : TypeRow} {p q : Progress} {x : ℕ} → Added w p x q → row q.types x ≡ w
added_row {w} {p} {q} {x} a = ap (λ o. row o.types x) a.table ∙ get_or_push p.types w EmptyChoice x (sym a.place)

pub added_longer : {w : TypeRow} {p q : Progress} {x : ℕ} → Added w p x q → Longer p.types q.types
added_longer {w} {p} a = subst (Longer p.types) (sym (ap (λ o. o.types) a.table)) (longer p.types (w ∷ []))

pub row_there : (ts : List TypeRow) (r : ℕ) {w : TypeRow} → row ts r ≡ w → (EmptyChoice ≡ w → ⊥) → r < length ts
row_there ts r e not = elim (cases_lt r (length ts)) [ inl l ↦ l | inr past ↦ absurd (not (sym (get_or_past ts r EmptyChoice past) ∙ e)) ]

pub not_item : (w : TypeRow) → is_item w ≡ true → EmptyChoice ≡ w → ⊥
not_item w i e = false≢true (ap is_item e ∙ i)

module _ {g : ProgramRows} (orderly : Orderly g) {declared : ℕ} {ts : List TypeRow} (law : Lawful ts) (there : ContentsThere ts) where
  -- what a part is copied to, in the table with the next row
  part_alike : {p q : Progress} {us : List TypeRow} {x r : ℕ} → Keeps declared p x q → Longer q.types us → Alike q.types x ts r → Alike us x ts r
  part_alike k m h = alike_on law there k.kept.checked.lawful (contents_there k.kept.checked) m k.fresh.free.root.there h

  pub copy_alike : {r x : ℕ} {p q : Progress} → Start declared p → Longer ts p.types → Walks g copied ts r p x q → Alike q.types x ts r
  copy_alike s m (item_copied {r = r} i a) = alike_row law there r (longer_on m (added_longer a)) (row_there ts r refl (not_item (row ts r) i)) (added_row a)
  copy_alike s m (no_choice i a) = never_alike (added_row a) i
  copy_alike s m (nothing_copied {r = r} i a) = alike_row law there r (longer_on m (added_longer a)) (row_there ts r i (λ z. cc)) (added_row a ∙ sym i)
  copy_alike s m (both_copied i v w a) =
      let k = walks_grow orderly s m v in
      let t = start_on s k.kept in
      let n = longer_on m (longer_of k.kept.grows) in
      let l = walks_grow orderly t n w in
      let x = part_alike k (longer_on (longer_of l.kept.grows) (added_longer a)) (copy_alike s m v) in
      let y = part_alike l (added_longer a) (copy_alike t n w) in
      sequence_alike (added_row a) i x y
  copy_alike s m (either i v w a) =
      let k = walks_grow orderly s m v in
      let t = start_on s k.kept in
      let n = longer_on m (longer_of k.kept.grows) in
      let l = walks_grow orderly t n w in
      let x = part_alike k (longer_on (longer_of l.kept.grows) (added_longer a)) (copy_alike s m v) in
      let y = part_alike l (added_longer a) (copy_alike t n w) in
      choice_alike (added_row a) i x y
  copy_alike s m (repeated i v a) =
      let k = walks_grow orderly s m v in
      repetition_alike (added_row a) i (part_alike k (added_longer a) (copy_alike s m v))

-- a copy has the forests of what it copies
pub copy_forests : {g : ProgramRows} {declared : ℕ} {r x : ℕ} {p q : Progress} → Orderly g → Start declared p → r < length p.types → Walks g copied p.types r p x q → Alike q.types x q.types r
copy_forests {r = r} {p = p} orderly s l w f =
    let k = walks_grow orderly s (longer_same p.types) w in
    let c = copy_alike orderly s.checked.lawful (contents_there s.checked) s (longer_same p.types) w f in
    let h = grown_forests s.checked k.kept.grows r f l in
    (λ b. h.0 (c.0 b), λ b. c.1 (h.1 b))
