-- How the tables of life are filled.
use Rattle.std.specs.Prelude.{◌≡◌, ℕ, suc, ◌<◌, ◌≤◌, Bool, true, false, cond, ◌&&◌, ◌||◌, T, List, [], ◌∷◌, ◌==◌, slice_index_or, slice_set}
use Rattle.rows.specs.declared.type_row.TypeRow.{TypeRow}
use Rattle.rows.specs.declared.type_row.TypeRow.TheVariants.{EmptyChoice, EmptySequence, Integer, String, Boolean, Element, AnyElement, Sequence, Choice, Repetition}
use Rattle.rows.specs.TypeRows.{owns}
use Rattle.types.specs.Parts.{row}
use Rattle.types.specs.Places.{Left, Inhabited, AllInhabited}
use Rattle.types.specs.Tables.{Exactly}
use Rattle.positions.specs.Below.{flag, FreeBelow}

-- the left part of a sequence is given x, every other part of the row y
abbrev pub given : {A : Type 0} → TypeRow → A → A → List A → List A
given EmptyChoice x y l = l
given EmptySequence x y l = l
given Integer x y l = l
given String x y l = l
given Boolean x y l = l
given (Element t c) x y l = l
given (AnyElement c) x y l = l
given (Sequence a b) x y l = slice_set (slice_set l a x) b y
given (Choice a b) x y l = slice_set (slice_set l a y) b y
given (Repetition a) x y l = slice_set l a y

-- what the part p is given
abbrev pub gift : {A : Type 0} → TypeRow → A → A → ℕ → A
gift EmptyChoice x y p = y
gift EmptySequence x y p = y
gift Integer x y p = y
gift String x y p = y
gift Boolean x y p = y
gift (Element t c) x y p = y
gift (AnyElement c) x y p = y
gift (Sequence a b) x y p = cond (p == a) x y
gift (Choice a b) x y p = y
gift (Repetition a) x y p = y

-- The rows below `end` and from k on have given their parts what they have: `first` of it to the left part of a sequence, itself to the others.
-- What no such row owns is as at the start.
pub record GivenDown {A : Type 0} (ts : List TypeRow) (end : ℕ) (none : A) (start : ℕ → A) (first : TypeRow → A → A) (l : List A) (k : ℕ) : Type 0 where
  pub starts : (r : ℕ) → r < 512 → ((s : ℕ) → k ≤ s → s < end → owns (row ts s) r ≡ false) → slice_index_or l r none ≡ start r
  pub parts : (s p : ℕ) → k ≤ s → s < end → owns (row ts s) p ≡ true → slice_index_or l p none ≡ gift (row ts s) (first (row ts s) (slice_index_or l s none)) (slice_index_or l s none) p

-- the row has a forest, the rows that it names being as the flags say
abbrev pub lives_by : List Bool → TypeRow → Bool
lives_by v EmptyChoice = false
lives_by v EmptySequence = true
lives_by v Integer = true
lives_by v String = true
lives_by v Boolean = true
lives_by v (Element t c) = flag v c
lives_by v (AnyElement c) = flag v c
lives_by v (Sequence a b) = flag v a && flag v b
lives_by v (Choice a b) = flag v a || flag v b
lives_by v (Repetition a) = true

-- what a row with the flag x gives to its left part
abbrev pub left_gift : List Bool → TypeRow → Bool → Bool
left_gift v EmptyChoice x = x
left_gift v EmptySequence x = x
left_gift v Integer x = x
left_gift v String x = x
left_gift v Boolean x = x
left_gift v (Element t c) x = x
left_gift v (AnyElement c) x = x
left_gift v (Sequence a b) x = x && flag v b
left_gift v (Choice a b) x = x
left_gift v (Repetition a) x = x

-- how many flags are false
abbrev pub falses : List Bool → ℕ
falses [] = 0
falses (true ∷ xs) = falses xs
falses (false ∷ xs) = suc (falses xs)

-- every marked row has a forest
abbrev pub Marked : List TypeRow → List Bool → Type 0
Marked ts v = (r : ℕ) → T (flag v r) → Inhabited ts r

-- the marked rows are those that have a forest
abbrev pub Alive : List TypeRow → List Bool → Type 0
Alive ts v = (r : ℕ) → Exactly (flag v r) (Inhabited ts r)

-- within the rows that nothing below `end` owns, the marked rows are those behind which all that is left has a forest
abbrev pub LiveBelow : List TypeRow → ℕ → List Bool → Type 0
LiveBelow ts end live = (c r : ℕ) (k : List ℕ) → c < end → FreeBelow ts end c → Left ts c r k → Exactly (flag live r) (AllInhabited ts k)

-- one pass of marking, up to row k
pub record Pass (ts : List TypeRow) (old v : List Bool) (k : ℕ) (changed : Bool) : Type 0 where
  pub marked : Marked ts old → Marked ts v
  pub fewer : falses v ≤ falses old
  pub less : changed ≡ true → falses v < falses old
  pub closed : changed ≡ false → (r : ℕ) → r < k → T (lives_by v (row ts r)) → T (flag v r)
