-- Tables of type rows: parts, roots, contents, and the rules on parts.
use Rattle.std.specs.Prelude.{◌≡◌, ℕ, ◌<◌, ◌≤◌, true, false, List, length, Some, None, Option, slice_index_or}
use Rattle.rows.specs.declared.type_row.TypeRow.{TypeRow}
use Rattle.rows.specs.declared.type_row.TypeRow.TheVariants.{EmptyChoice, EmptySequence, Integer, String, Boolean, Element, AnyElement, Sequence, Choice, Repetition}
use Rattle.rows.specs.TypeRows.{type_fits, owns, twice}

-- row r; past the end of the table it is the empty choice, which has no forest
abbrev pub row : List TypeRow → ℕ → TypeRow
row ts r = slice_index_or ts r EmptyChoice

-- r is there, and is no row's part
pub record Root (ts : List TypeRow) (r : ℕ) : Type 0 where
  pub there : r < length ts
  pub unowned : (s : ℕ) → owns (row ts s) r ≡ false

-- the content of an element row
abbrev pub content : TypeRow → Option ℕ
content EmptyChoice = None
content EmptySequence = None
content Integer = None
content String = None
content Boolean = None
content (Element t c) = Some c
content (AnyElement c) = Some c
content (Sequence a b) = None
content (Choice a b) = None
content (Repetition a) = None

-- row n names no content, or one that is there and a root
abbrev pub Rooted : List TypeRow → ℕ → Type 0
Rooted ts n = (c : ℕ) → content (row ts n) ≡ Some c → Root ts c

-- What holds of every table of a session: parts are lower rows, each with one owner, which names it once, and fields are in range.
pub record Lawful (ts : List TypeRow) : Type 0 where
  pub few : length ts ≤ 512
  pub lower : (i p : ℕ) → owns (row ts i) p ≡ true → p < i
  pub one_owner : (i j p : ℕ) → owns (row ts i) p ≡ true → owns (row ts j) p ≡ true → i ≡ j
  pub once : (i : ℕ) → twice (row ts i) ≡ false
  pub fit : (i : ℕ) → type_fits i (row ts i) ≡ true

-- p is r, or a part of a row within r
pub data Within (ts : List TypeRow) (r : ℕ) : ℕ → Type 0 where
  itself : {p : ℕ} → p ≡ r → Within ts r p
  part : {s p : ℕ} → Within ts r s → owns (row ts s) p ≡ true → Within ts r p
