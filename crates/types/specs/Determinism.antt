-- Which items may come first, last and after one another in a type, and which types are one-way.
use Rattle.std.specs.Prelude.{◌≡◌, ℕ, Bool, true, false, List, Some, None, Option, ◌==◌}
use Rattle.rows.specs.declared.type_row.TypeRow.{TypeRow}
use Rattle.rows.specs.declared.type_row.TypeRow.TheVariants.{EmptyChoice, EmptySequence, Integer, String, Boolean, Element, AnyElement, Sequence, Choice, Repetition}
use Rattle.types.specs.Parts.{row, Within}

-- What an item row asks of an item: a kind of scalar, one tag, or any tag.
pub data Label : Type 0 where
  kind : ℕ → Label
  tag : ℕ → Label
  any_tag : Label

-- rows of kinds 3 to 7 are items
abbrev pub label : TypeRow → Option Label
label EmptyChoice = None
label EmptySequence = None
label Integer = Some (kind 3)
label String = Some (kind 4)
label Boolean = Some (kind 5)
label (Element t c) = Some (tag t)
label (AnyElement c) = Some any_tag
label (Sequence a b) = None
label (Choice a b) = None
label (Repetition a) = None

-- some item is asked for by both
abbrev pub meets : Label → Label → Bool
meets (kind x) (kind y) = x == y
meets (kind x) (tag u) = false
meets (kind x) any_tag = false
meets (tag t) (kind y) = false
meets (tag t) (tag u) = t == u
meets (tag t) any_tag = true
meets any_tag (kind y) = false
meets any_tag (tag u) = true
meets any_tag any_tag = true

abbrev pub both_meet : Option Label → Option Label → Bool
both_meet None y = false
both_meet (Some x) None = false
both_meet (Some x) (Some y) = meets x y

-- Two items overlap.
abbrev pub overlaps : TypeRow → TypeRow → Bool
overlaps x y = both_meet (label x) (label y)

-- The row may be nothing.
pub data Nullable (ts : List TypeRow) : ℕ → Type 0 where
  empty : {r : ℕ} → row ts r ≡ EmptySequence → Nullable ts r
  repeated : {r a : ℕ} → row ts r ≡ Repetition a → Nullable ts r
  both_parts : {r a b : ℕ} → row ts r ≡ Sequence a b → Nullable ts a → Nullable ts b → Nullable ts r
  first_part : {r a b : ℕ} → row ts r ≡ Choice a b → Nullable ts a → Nullable ts r
  second_part : {r a b : ℕ} → row ts r ≡ Choice a b → Nullable ts b → Nullable ts r

-- n is an item of r that may come first.
pub data First (ts : List TypeRow) : ℕ → ℕ → Type 0 where
  item : {r n : ℕ} {l : Label} → label (row ts r) ≡ Some l → n ≡ r → First ts r n
  of_left : {r a b n : ℕ} → row ts r ≡ Sequence a b → First ts a n → First ts r n
  past_left : {r a b n : ℕ} → row ts r ≡ Sequence a b → Nullable ts a → First ts b n → First ts r n
  of_first : {r a b n : ℕ} → row ts r ≡ Choice a b → First ts a n → First ts r n
  of_second : {r a b n : ℕ} → row ts r ≡ Choice a b → First ts b n → First ts r n
  of_part : {r a n : ℕ} → row ts r ≡ Repetition a → First ts a n → First ts r n

-- n is an item of r that may come last.
pub data Last (ts : List TypeRow) : ℕ → ℕ → Type 0 where
  item : {r n : ℕ} {l : Label} → label (row ts r) ≡ Some l → n ≡ r → Last ts r n
  of_right : {r a b n : ℕ} → row ts r ≡ Sequence a b → Last ts b n → Last ts r n
  before_right : {r a b n : ℕ} → row ts r ≡ Sequence a b → Nullable ts b → Last ts a n → Last ts r n
  of_first : {r a b n : ℕ} → row ts r ≡ Choice a b → Last ts a n → Last ts r n
  of_second : {r a b n : ℕ} → row ts r ≡ Choice a b → Last ts b n → Last ts r n
  of_part : {r a n : ℕ} → row ts r ≡ Repetition a → Last ts a n → Last ts r n

-- the items m and n meet at row s: the right firsts of a sequence follow its left lasts, a repetition's firsts its lasts
pub data MeetsAt (ts : List TypeRow) (s m n : ℕ) : Type 0 where
  in_sequence : {a b : ℕ} → row ts s ≡ Sequence a b → Last ts a m → First ts b n → MeetsAt ts s m n
  in_repetition : {a : ℕ} → row ts s ≡ Repetition a → Last ts a m → First ts a n → MeetsAt ts s m n

-- the item n may follow the item m
abbrev pub Follows : List TypeRow → ℕ → ℕ → Type 0
Follows ts m n = (s : ℕ) × MeetsAt ts s m n

-- A root is one-way: no two different overlapping items are both firsts of it, or both follow one item of it.
pub record Deterministic (ts : List TypeRow) (r : ℕ) : Type 0 where
  pub firsts : (m n : ℕ) → First ts r m → First ts r n → overlaps (row ts m) (row ts n) ≡ true → m ≡ n
  pub follows : (p m n : ℕ) → Within ts r p → Follows ts p m → Follows ts p n → overlaps (row ts m) (row ts n) ≡ true → m ≡ n
