-- One step of filling the tables of items, and what a walk over next items finds.
use Rattle.std.specs.Prelude.{◌≡◌, ℕ, ◌+◌, ◌<◌, Bool, true, false, ◌&&◌, ◌||◌, ◌≢◌, List, length, ◌==◌, slice_index}
use Rattle.std.specs.List.{All}
use Rattle.rows.specs.declared.type_row.TypeRow.{TypeRow}
use Rattle.rows.specs.declared.type_row.TypeRow.TheVariants.{EmptyChoice, EmptySequence, Integer, String, Boolean, Element, AnyElement, Sequence, Choice, Repetition}
use Rattle.bits.specs.Bits.{related}
use Rattle.types.specs.Parts.{row}
use Rattle.types.specs.Determinism.{overlaps}
use Rattle.positions.specs.Below.{flag}

-- the row may be nothing, its parts being as the flags say
abbrev pub null_by : List Bool → TypeRow → Bool
null_by t EmptyChoice = false
null_by t EmptySequence = true
null_by t Integer = false
null_by t String = false
null_by t Boolean = false
null_by t (Element g c) = false
null_by t (AnyElement c) = false
null_by t (Sequence a b) = flag t a && flag t b
null_by t (Choice a b) = flag t a || flag t b
null_by t (Repetition a) = true

-- the row read from its end
abbrev pub turned : TypeRow → TypeRow
turned EmptyChoice = EmptyChoice
turned EmptySequence = EmptySequence
turned Integer = Integer
turned String = String
turned Boolean = Boolean
turned (Element g c) = Element g c
turned (AnyElement c) = AnyElement c
turned (Sequence a b) = Sequence b a
turned (Choice a b) = Choice a b
turned (Repetition a) = Repetition a

-- n may come first in row r, its parts being as the tables say
abbrev pub ends_by : List Bool → List ℕ → ℕ → TypeRow → ℕ → Bool
ends_by t ws r EmptyChoice n = false
ends_by t ws r EmptySequence n = false
ends_by t ws r Integer n = n == r
ends_by t ws r String n = n == r
ends_by t ws r Boolean n = n == r
ends_by t ws r (Element g c) n = n == r
ends_by t ws r (AnyElement c) n = n == r
ends_by t ws r (Sequence a b) n = related ws a n || (flag t a && related ws b n)
ends_by t ws r (Choice a b) n = related ws a n || related ws b n
ends_by t ws r (Repetition a) n = related ws a n

-- m and n meet at the row, its parts being as the tables of lasts and firsts say
abbrev pub meets_by : List ℕ → List ℕ → TypeRow → ℕ → ℕ → Bool
meets_by ls ws EmptyChoice m n = false
meets_by ls ws EmptySequence m n = false
meets_by ls ws Integer m n = false
meets_by ls ws String m n = false
meets_by ls ws Boolean m n = false
meets_by ls ws (Element g c) m n = false
meets_by ls ws (AnyElement c) m n = false
meets_by ls ws (Sequence a b) m n = related ls a m && related ws b n
meets_by ls ws (Choice a b) m n = false
meets_by ls ws (Repetition a) m n = related ls a m && related ws a n

-- one row has gained items, the others are kept
pub record Grown (old new : List ℕ) (place : ℕ) (more : ℕ → Bool) : Type 0 where
  pub others : (r n : ℕ) → r ≢ place → n < 512 → related new r n ≡ related old r n
  pub here : (n : ℕ) → n < 512 → related new place n ≡ (related old place n || more n)

-- the rows of items that follow have gained some, those of firsts are kept
pub record Followed (old new : List ℕ) (more : ℕ → ℕ → Bool) : Type 0 where
  pub firsts : (r n : ℕ) → r < 512 → n < 512 → related new r n ≡ related old r n
  pub follows : (x n : ℕ) → x < 512 → n < 512 → related new (512 + x) n ≡ (related old (512 + x) n || more x n)

-- the item m overlaps none of these but itself
abbrev pub Alone : List TypeRow → ℕ → List ℕ → Type 0
Alone ts m ns = All (λ n. overlaps (row ts m) (row ts n) ≡ true → n ≡ m) ns

-- no two different items of a row of the table overlap
abbrev pub Clear : List TypeRow → List ℕ → ℕ → Type 0
Clear ts ws place = (m n : ℕ) → m < 512 → n < 512 → related ws place m ≡ true → related ws place n ≡ true → overlaps (row ts m) (row ts n) ≡ true → m ≡ n

-- no two different items that follow an item of the root overlap
abbrev pub ClearItems : List TypeRow → List ℕ → List ℕ → ℕ → Type 0
ClearItems ts tops ws root = (p : ℕ) → p < length ts → slice_index tops p ≡ root → Clear ts ws (512 + p)
