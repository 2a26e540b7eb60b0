-- When a table is lawful, and the trees that it means.
use Rattle.std.specs.Prelude.{◌≡◌, ℕ, ◌+◌, Bool, false, cond, ◌&&◌, List, [], ◌∷◌, ◌++◌, length, ℤ, pos, negsuc, Some, None, Ok, Err, Option, Result, ◌==◌, nat_le}
use Rattle.std.specs.Option.{option_to_list}
use Rattle.forest.specs.declared.fault.Fault.{Fault}
use Rattle.forest.specs.declared.fault.Reason.TheVariants.{UnlawfulTable}
use Rattle.forest.specs.declared.failure.Failure.{Failure}
use Rattle.forest.specs.declared.failure.Failure.TheVariants.{Refused, OutOfMemory}
use Rattle.forest.specs.Faults.{faulted}
use Rattle.forest.specs.Stores.{Meaning}
use Rattle.arena.specs.declared.row.Row.{Row}
use Rattle.arena.specs.declared.row.Row.TheVariants.{Boolean, Integer, String, Element}
use Rattle.arena.specs.declared.row.Span.{Span}
use Rattle.arena.specs.Rows.{row_sound, built}
use Rattle.table.specs.declared.row.NoRow.{NoRow}
use Rattle.table.specs.declared.row.RawRow.{RawRow}

abbrev pub span_of : RawRow → Span
span_of r = record { from = r.from; length = r.length }

-- a Boolean's value is 0 or 1
abbrev pub boolean_row : ℤ → Option Row
boolean_row (pos n) = cond (nat_le n 1) (Some (Boolean (nat_le 1 n))) None
boolean_row (negsuc n) = None

-- The row that a given row stands for, by its kind: 3 Integer, 4 String, 5 Boolean, 6 element. Another kind stands for none.
abbrev pub row_of : RawRow → Option Row
row_of r =
    cond (r.kind == 3) (Some (Integer r.value))
    (cond (r.kind == 4) (Some (String (span_of r)))
    (cond (r.kind == 5) (boolean_row r.value)
    (cond (r.kind == 6) (cond (nat_le r.tag 65535) (Some (Element r.tag (span_of r))) None)
    None)))

-- what turning a given row into a row answers
abbrev pub Converts : RawRow → Result Row NoRow → Type 0
Converts r (Ok q) = Some q ≡ row_of r
Converts r (Err e) = None ≡ row_of r

-- A given row is lawful as row n if it stands for one whose fields are in range and whose part is there, its children lower rows.
abbrev pub sound_if : ℕ → List ℕ → List ℕ → Option Row → Bool
sound_if n es bs None = false
sound_if n es bs (Some q) = row_sound n es bs q

abbrev pub row_lawful : ℕ → List ℕ → List ℕ → RawRow → Bool
row_lawful n es bs r = sound_if n es bs (row_of r)

-- the first unlawful row, the first of those given being row n
abbrev pub first_unlawful : ℕ → List ℕ → List ℕ → List RawRow → Option ℕ
first_unlawful n es bs [] = None
first_unlawful n es bs (r ∷ rs) = cond (row_lawful n es bs r) (first_unlawful (n + 1) es bs rs) (Some n)

abbrev pub rows_of : List RawRow → List Row
rows_of [] = []
rows_of (r ∷ rs) = option_to_list (row_of r) ++ rows_of rs

abbrev pub at_row : Option ℕ → Option Fault
at_row None = None
at_row (Some k) = Some (faulted UnlawfulTable 4 k)

-- Why a table is refused: it is past a limit of 65,535, else by its first unlawful row.
abbrev pub refusal : List RawRow → List ℕ → List ℕ → Option Fault
refusal rs es bs =
    cond (nat_le (length rs) 65535 && (nat_le (length es) 65535 && nat_le (length bs) 65535)) (at_row (first_unlawful 0 es bs rs)) (Some (faulted UnlawfulTable 4 0))

-- What a lawful table means: a tree for each row, and no space.
abbrev pub table_meaning : List RawRow → List ℕ → List ℕ → Meaning
table_meaning rs es bs = record { trees = built [] es bs (rows_of rs); space = record { trees = 0; children = 0; bytes = 0 } }

-- how loading fails
abbrev pub Fails : List RawRow → List ℕ → List ℕ → Failure → Type 0
Fails rs es bs (Refused f) = refusal rs es bs ≡ Some f
Fails rs es bs OutOfMemory = Unit {0}
