-- How the tables of a session stand to the progress of typing.
use Rattle.std.specs.Prelude.{◌≡◌, ℕ, ◌<◌, ◌≤◌, Bool, true, List, length, take, Ok, Err, Result}
use Rattle.forest.specs.declared.fault.Reason.TheVariants.{Unfit}
use Rattle.rows.specs.declared.type_row.TypeRow.{TypeRow}
use Rattle.rows.specs.TypeRows.{owns}
use Rattle.types.specs.Parts.{row, Root}
use Rattle.types.specs.Belonging.{Subtype}
use Rattle.typing.specs.Faults.{type_fault}
use Rattle.typing.specs.declared.fault.TypeFault.{TypeFault}
use Rattle.typing.specs.Outcomes.{Progress, Outcome, Ending, Gives, ending_of}
use Rattle.typing.specs.Typing.{Spot, made, walk}
use Rattle.session.specs.declared.counts.Counts.{Counts}
use Rattle.session.specs.declared.checking.spot.Spot.{Spot as SpotHere}

abbrev pub spot_of : SpotHere → Spot
spot_of s = record { at = s.at; function = s.function }

-- the type rows that are there
abbrev pub table_of : List TypeRow → Counts → List TypeRow
table_of rows c = take c.all rows

abbrev pub progress_of : List TypeRow → Counts → Bool → Progress
progress_of rows c error = record { types = table_of rows c; error = error }

-- The table only grows, and what is declared stays.
pub record Grows (rows : List TypeRow) (c : Counts) (after : List TypeRow) (d : Counts) : Type 0 where
  pub declared : d.declared ≡ c.declared
  pub more : c.all ≤ d.all
  pub same : take c.all after ≡ take c.all rows

-- rows up to r own lower rows
abbrev pub LowerTo : List TypeRow → ℕ → Type 0
LowerTo ts r = (i p : ℕ) → i ≤ r → owns (row ts i) p ≡ true → p < i

-- row r is there, and a walk over its type ends
pub record Walkable (rows : List TypeRow) (c : Counts) (r : ℕ) : Type 0 where
  pub there : r < c.all
  pub lower : LowerTo (table_of rows c) r

-- A walk goes over the type of row r of the table ts, while rows are made behind it: us.
pub record WalksOver (ts : List TypeRow) (r : ℕ) (us : List TypeRow) : Type 0 where
  pub there : r < length ts
  pub lower : (i p : ℕ) → owns (row ts i) p ≡ true → p < i
  pub long : length ts ≤ length us
  pub same : (i : ℕ) → i < length ts → row us i ≡ row ts i

-- A walk over the type of row r goes so, from p on, whichever table it began with.
pub record Walks (item : List TypeRow → ℕ → Progress → Outcome ℕ) (s : Spot) (r : ℕ) (p : Progress) (e : Ending ℕ) : Type 0 where
  pub gives : (ts : List TypeRow) → WalksOver ts r p.types → Gives (walk s (item ts) ts r p) e

-- an item of the table ts is copied
abbrev pub copied : Spot → List TypeRow → ℕ → Progress → Outcome ℕ
copied s ts i p = made s (row ts i) p

-- what a call has made of the table, and what it answers: as one type row more
pub record Makes (s : SpotHere) (t : TypeRow) (rows : List TypeRow) (c : Counts) (result : Result ℕ TypeFault) (after : List TypeRow) (d : Counts) : Type 0 where
  pub gives : (error : Bool) → Gives (made (spot_of s) t (progress_of rows c error)) (ending_of result (progress_of after d error))

-- as a copy of the type of row r
pub record Copies (s : SpotHere) (r : ℕ) (rows : List TypeRow) (c : Counts) (result : Result ℕ TypeFault) (after : List TypeRow) (d : Counts) : Type 0 where
  pub walks : (error : Bool) → Walks (copied (spot_of s)) (spot_of s) r (progress_of rows c error) (ending_of result (progress_of after d error))

-- row r is a root of the table, and declared
pub record DeclaredRoot (declared : ℕ) (ts : List TypeRow) (r : ℕ) : Type 0 where
  pub root : Root ts r
  pub low : r < declared

-- whether a row fits a root, or the refusal
abbrev pub Fits : SpotHere → List TypeRow → ℕ → ℕ → Result (Unit {0}) TypeFault → Type 0
Fits s ts x root (Ok u) = Subtype ts x root
Fits s ts x root (Err f) = (Subtype ts x root → ⊥) × (f ≡ type_fault Unfit s.at s.function)
