-- The rows that typing makes suit the table that they are put behind.
use Rattle.std.proofs.Common.{◌≡◌, ℕ, ◌≤◌, Bool, true, false, cond, ◌||◌, eqb, ltb, ◌⊎◌, List, length, Some, None, sym, refl, ap, ◌∙◌, subst, inl, inr, arith}
use Rattle.std.proofs.lemmas.Bool.{both_ways, false≢true, and_from, lt-ltb, ne_eqb, eqb-true, or_cases}
use Rattle.std.specs.List.{list_any}
use Rattle.std.specs.Option.{unwrap_or}
use Rattle.forest.specs.Forests.{tag_lawful}
use Rattle.rows.specs.declared.type_row.TypeRow.{TypeRow}
use Rattle.rows.specs.declared.type_row.TypeRow.TheVariants.{EmptyChoice, EmptySequence, Integer, String, Boolean, Element, AnyElement, Sequence, Choice, Repetition}
use Rattle.rows.specs.declared.arm.Pattern.{Pattern}
use Rattle.rows.specs.declared.arm.Pattern.TheVariants.{Integer as IntegerArm, String as StringArm, Boolean as BooleanArm, Element as ElementArm, AnyElement as AnyElementArm}
use Rattle.rows.specs.Arms.{pattern_fits}
use Rattle.rows.specs.TypeRows.{type_fits, owns, twice}
use Rattle.types.specs.Parts.{row, content, Root}
use Rattle.types.specs.Determinism.{overlaps}
use Rattle.types.specs.Places.{Checked, covers}
use Rattle.types.proofs.OfTable.{content-small}
use Rattle.typing.specs.Kinds.{is_item, takes, passes, may_take, taken_by, taking, narrowed}
use Rattle.typing.specs.Growth.{Named, Free, Fresh}
use Rattle.typing.proofs.GrowthRows.{Suits}

-- ROWS WITH NO PART AND NO CONTENT

no_content : {A : Type 0} {c : ℕ} (w : TypeRow) → content w ≡ None → content w ≡ Some c → A
no_content w e i = let z : ◌≡◌ {A = ℕ} 0 1 = cc in absurd (omega arith)

-- a row that names no row
pub record Bare (w : TypeRow) : Type 0 where
  pub fits : (n : ℕ) → type_fits n w ≡ true
  pub once : twice w ≡ false
  pub parts : (p : ℕ) → owns w p ≡ false
  pub contents : content w ≡ None

pub bare-empty_choice : Bare EmptyChoice
bare-empty_choice = record { fits = λ n. refl; once = refl; parts = λ p. refl; contents = refl }

pub bare-empty_sequence : Bare EmptySequence
bare-empty_sequence = record { fits = λ n. refl; once = refl; parts = λ p. refl; contents = refl }

pub bare-integer : Bare Integer
bare-integer = record { fits = λ n. refl; once = refl; parts = λ p. refl; contents = refl }

pub bare-string : Bare String
bare-string = record { fits = λ n. refl; once = refl; parts = λ p. refl; contents = refl }

pub bare-boolean : Bare Boolean
bare-boolean = record { fits = λ n. refl; once = refl; parts = λ p. refl; contents = refl }

pub suits_bare : {base ts : List TypeRow} {w : TypeRow} → Bare w → Suits base ts w
suits_bare {ts = ts} {w} b = record {
  fits = b.fits (length ts);
  once = b.once;
  parts = λ p o. absurd (both_ways (owns w p) (b.parts p) o);
  contents = λ c e. no_content w b.contents e;
}

-- ROWS OVER FRESH ROWS

module _ {base ts : List TypeRow} where
  two_parts : {a b : ℕ} → Fresh base ts a → Fresh base ts b → (p : ℕ) → (eqb a p || eqb b p) ≡ true → (length base ≤ p) × Free ts p
  two_parts {a} {b} x y p o = elim (or_cases (eqb a p) (eqb b p) o) [
    | inl e ↦ subst (λ z. (length base ≤ z) × Free ts z) (eqb-true a p e) (x.new, x.free)
    | inr e ↦ subst (λ z. (length base ≤ z) × Free ts z) (eqb-true b p e) (y.new, y.free)
  ]

  below : {a : ℕ} → Fresh base ts a → ltb a (length ts) ≡ true
  below {a} x = lt-ltb a (length ts) x.free.root.there

  pub suits_sequence : {a b : ℕ} → Fresh base ts a → Fresh base ts b → (a ≡ b → ⊥) → Suits base ts (Sequence a b)
  suits_sequence {a} {b} x y apart = record {
    fits = and_from (ltb a (length ts)) (ltb b (length ts)) (below x) (below y);
    once = ne_eqb a b apart;
    parts = two_parts x y;
    contents = λ c e. no_content (Sequence a b) refl e;
  }

  pub suits_choice : {a b : ℕ} → Fresh base ts a → Fresh base ts b → (a ≡ b → ⊥) → Suits base ts (Choice a b)
  suits_choice {a} {b} x y apart = record {
    fits = and_from (ltb a (length ts)) (ltb b (length ts)) (below x) (below y);
    once = ne_eqb a b apart;
    parts = two_parts x y;
    contents = λ c e. no_content (Choice a b) refl e;
  }

  pub suits_repetition : {a : ℕ} → Fresh base ts a → Suits base ts (Repetition a)
  suits_repetition {a} x = record {
    fits = below x;
    once = refl;
    parts = λ p o. subst (λ z. (length base ≤ z) × Free ts z) (eqb-true a p o) (x.new, x.free);
    contents = λ c e. no_content (Repetition a) refl e;
  }

  pub suits_element : {t a : ℕ} → tag_lawful t ≡ true → length ts ≤ 512 → Fresh base ts a → Suits base ts (Element t a)
  suits_element {t} {a} lawful few x = (let l = x.free.root.there in record {
    fits = and_from (tag_lawful t) (ltb a 512) lawful (lt-ltb a 512 (omega arith));
    once = refl;
    parts = λ p o. absurd (false≢true o);
    contents = λ c e. (let i : a ≡ c = cc in subst (λ z. Root ts z × ((length base ≤ z) ⊎ Named base z)) i (x.free.root, inl x.new));
  })

-- ROWS WITH THE CONTENT OF ANOTHER

-- an item's fields do not hang on its place
item_fits : (w : TypeRow) (n m : ℕ) → is_item w ≡ true → type_fits n w ≡ true → type_fits m w ≡ true
item_fits EmptyChoice n m i e = e
item_fits EmptySequence n m i e = e
item_fits Integer n m i e = e
item_fits String n m i e = e
item_fits Boolean n m i e = e
item_fits (Element t c) n m i e = e
item_fits (AnyElement c) n m i e = e
item_fits (Sequence a b) n m i e = absurd (false≢true i)
item_fits (Choice a b) n m i e = absurd (false≢true i)
item_fits (Repetition a) n m i e = absurd (false≢true i)

item_alone : (w : TypeRow) (p : ℕ) → is_item w ≡ true → owns w p ≡ false
item_alone EmptyChoice p i = refl
item_alone EmptySequence p i = refl
item_alone Integer p i = refl
item_alone String p i = refl
item_alone Boolean p i = refl
item_alone (Element t c) p i = refl
item_alone (AnyElement c) p i = refl
item_alone (Sequence a b) p i = absurd (false≢true i)
item_alone (Choice a b) p i = absurd (false≢true i)
item_alone (Repetition a) p i = absurd (false≢true i)

pub suits_item : {ts : List TypeRow} {declared : ℕ} (r : ℕ) {w : TypeRow} → Checked ts declared → row ts r ≡ w → is_item w ≡ true → Suits ts ts w
suits_item {ts} r {w} k e i = record {
  fits = item_fits w r (length ts) i (ap (type_fits r) (sym e) ∙ k.lawful.fit r);
  once = ap twice (sym e) ∙ k.lawful.once r;
  parts = λ p o. absurd (both_ways (owns w p) (item_alone w p i) o);
  contents = λ c h. (let n : content (row ts r) ≡ Some c = ap content e ∙ h in (k.contents r c n, inr (r, n)));
}

-- an arm that may take an item names a tag, and the item is any element
chosen_tag : (a b c : Bool) {t u : ℕ} → cond a takes (cond b (cond c passes (may_take u)) passes) ≡ may_take t → (a ≡ false) × (b ≡ true) × (u ≡ t)
chosen_tag true b c e = let z : ◌≡◌ {A = ℕ} 0 1 = cc in absurd (omega arith)
chosen_tag false false c e = let z : ◌≡◌ {A = ℕ} 0 1 = cc in absurd (omega arith)
chosen_tag false true true e = let z : ◌≡◌ {A = ℕ} 0 1 = cc in absurd (omega arith)
chosen_tag false true false e = (refl, refl, cc)

never : {A : Type 0} (a b : Bool) {t : ℕ} → cond a takes (cond b passes passes) ≡ may_take t → A
never true b e = let z : ◌≡◌ {A = ℕ} 0 1 = cc in absurd (omega arith)
never false true e = let z : ◌≡◌ {A = ℕ} 0 1 = cc in absurd (omega arith)
never false false e = let z : ◌≡◌ {A = ℕ} 0 1 = cc in absurd (omega arith)

has_content : (w : TypeRow) (u : ℕ) → covers w (Element u 0) ≡ false → overlaps w (Element u 0) ≡ true → (c : ℕ) × (content w ≡ Some c)
has_content EmptyChoice u a b = absurd (false≢true b)
has_content EmptySequence u a b = absurd (false≢true b)
has_content Integer u a b = absurd (false≢true b)
has_content String u a b = absurd (false≢true b)
has_content Boolean u a b = absurd (false≢true b)
has_content (Element t c) u a b = (c, refl)
has_content (AnyElement c) u a b = (c, refl)
has_content (Sequence x y) u a b = absurd (false≢true b)
has_content (Choice x y) u a b = absurd (false≢true b)
has_content (Repetition x) u a b = absurd (false≢true b)

-- what an arm may take has a content, and its tag is in range
pub may_be : (named : List ℕ) (w : TypeRow) (p : Pattern) {t : ℕ} → taking named w p ≡ may_take t → pattern_fits p ≡ true → (tag_lawful t ≡ true) × (c : ℕ) × (content w ≡ Some c)
may_be named w IntegerArm e f = never (covers w (taken_by IntegerArm)) (overlaps w (taken_by IntegerArm)) e
may_be named w StringArm e f = never (covers w (taken_by StringArm)) (overlaps w (taken_by StringArm)) e
may_be named w BooleanArm e f = never (covers w (taken_by BooleanArm)) (overlaps w (taken_by BooleanArm)) e
may_be named w (ElementArm u) e f =
    let h = chosen_tag (covers w (Element u 0)) (overlaps w (Element u 0)) (list_any (λ v. eqb v u) named) e in
    let k = has_content w u h.0 h.1 in
    (ap tag_lawful (sym h.2) ∙ f, k.0, k.1)
may_be named w AnyElementArm e f = never (covers w (taken_by AnyElementArm)) (overlaps w (taken_by AnyElementArm)) e

narrowed_is : (t : ℕ) (w : TypeRow) {c : ℕ} → content w ≡ Some c → narrowed t w ≡ Element t c
narrowed_is t w e = ap (λ o. Element t (unwrap_or o 0)) e

pub suits_narrowed : {ts : List TypeRow} {declared : ℕ} (r : ℕ) {t : ℕ} {c : ℕ} → Checked ts declared → tag_lawful t ≡ true → content (row ts r) ≡ Some c → Suits ts ts (narrowed t (row ts r))
suits_narrowed {ts} r {t} {c} k lawful e = subst (Suits ts ts) (sym (narrowed_is t (row ts r) e)) (record {
  fits = and_from (tag_lawful t) (ltb c 512) lawful (lt-ltb c 512 (content-small r c k.lawful e));
  once = refl;
  parts = λ p o. absurd (false≢true o);
  contents = λ d h. (let i : c ≡ d = cc in subst (λ z. Root ts z × ((length ts ≤ z) ⊎ Named ts z)) i (k.contents r c e, inr (r, e)));
})
