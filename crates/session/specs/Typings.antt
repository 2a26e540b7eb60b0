-- What the calls that type a program ask for, what they make of the session's tables, and what they answer.
use Rattle.std.specs.Prelude.{◌≡◌, ℕ, ◌+◌, ◌<◌, ◌≤◌, Bool, List, [], ◌∷◌, ◌++◌, length, Some, Option, Ok, Err, Result, slice_get}
use Rattle.rows.specs.declared.type_row.TypeRow.{TypeRow}
use Rattle.rows.specs.declared.expression.Expression.{Expression}
use Rattle.rows.specs.declared.expression.Expression.TheVariants.{As}
use Rattle.rows.specs.declared.function.Function.{Function}
use Rattle.rows.specs.Programs.{ProgramRows}
use Rattle.types.specs.Places.{Checked}
use Rattle.typing.specs.declared.fault.TypeFault.{TypeFault}
use Rattle.typing.specs.Outcomes.{Progress, Outcome, goes, stops, then, Gives, ending_of}
use Rattle.typing.specs.Typing.{Spot as SpotThere, expression_at, made, fitting, copy, joined, chosen, type_row, typed}
use Rattle.session.specs.declared.checking.spot.Spot.{Spot}
use Rattle.session.specs.declared.counts.Counts.{Counts}
use Rattle.session.specs.declared.checking.scope.State.{State}
use Rattle.session.specs.Progress.{spot_of, table_of, progress_of, DeclaredRoot, Grows}

-- Rows can be typed in a table of types: it is as a check found it or grew it, variables are rows that are there, and what functions and "as" rows name are declared roots.
pub record Typable (g : ProgramRows) (declared : ℕ) (vs : List ℕ) (ts : List TypeRow) : Type 0 where
  pub checked : Checked ts declared
  pub within : declared ≤ length ts
  pub variables : (i r : ℕ) → slice_get vs i ≡ Some r → r < length ts
  pub functions : (n : ℕ) (f : Function) → slice_get g.functions n ≡ Some f → DeclaredRoot declared ts f.parameter × DeclaredRoot declared ts f.result
  pub targets : (e a t : ℕ) → expression_at g e ≡ As a t → DeclaredRoot declared ts t

-- rows can be typed with the tables as they stand
pub record Standing (g : ProgramRows) (rows : List TypeRow) (c : Counts) (s : State) : Type 0 where
  pub long : length rows ≡ 512
  pub typable : Typable g c.declared s.variables.items (table_of rows c)

-- The table only grows, and the variables are as before.
pub record Stays (rows : List TypeRow) (c : Counts) (s : State) (after : List TypeRow) (d : Counts) (t : State) : Type 0 where
  pub grows : Grows rows c after d
  pub variables : t.variables.items ≡ s.variables.items

-- what has been made so far
abbrev pub now : List TypeRow → Counts → State → Progress
now rows c s = progress_of rows c s.error

-- a row is typed so
pub record Typing (g : ProgramRows) (f : Option ℕ) (vs : List ℕ) (e : ℕ) (p : Progress) (result : Result ℕ TypeFault) (q : Progress) : Type 0 where
  pub gives : Gives (typed g f vs e p) (ending_of result q)

-- an answer, and what is made with it, are what comes of an outcome
pub record Gave (o : Outcome ℕ) (result : Result ℕ TypeFault) (q : Progress) : Type 0 where
  pub gives : Gives o (ending_of result q)

-- the same of joined branches, whether or not typing came to an error row, which stays so
pub record Joins (s : Spot) (xs : List ℕ) (rows : List TypeRow) (c : Counts) (result : Result ℕ TypeFault) (after : List TypeRow) (d : Counts) : Type 0 where
  pub gives : (error : Bool) → Gives (joined (spot_of s) xs (progress_of rows c error)) (ending_of result (progress_of after d error))

-- and of the choices behind a first one
pub record Chooses (s : Spot) (x : ℕ) (xs : List ℕ) (rows : List TypeRow) (c : Counts) (result : Result ℕ TypeFault) (after : List TypeRow) (d : Counts) : Type 0 where
  pub gives : (error : Bool) → Gives (chosen (spot_of s) x xs (progress_of rows c error)) (ending_of result (progress_of after d error))

-- the list has got what comes of an outcome
abbrev pub Adds : Outcome (List ℕ) → Result (Unit {0}) TypeFault → List ℕ → List ℕ → Progress → Type 0
Adds o (Ok u) old new q = (bs : List ℕ) × Gives o (goes bs q) × (new ≡ old ++ bs)
Adds o (Err f) old new q = Gives o (stops f)

-- HOW ROWS ARE TYPED

abbrev pub spot_at : Option ℕ → ℕ → SpotThere
spot_at f e = record { at = e; function = f }

-- a row of this kind at place e
abbrev pub kind_typed : ProgramRows → Option ℕ → List ℕ → ℕ → Expression → Progress → Outcome ℕ
kind_typed g f vs e row p = type_row g (spot_at f e) (typed g f) vs row p

-- a part, and then a row that its type does not matter to
abbrev pub part_then : ProgramRows → Option ℕ → List ℕ → ℕ → ℕ → TypeRow → Progress → Outcome ℕ
part_then g f vs e a t p = then (typed g f vs a p) (λ x q. made (spot_at f e) t q)

-- a part that has to fit a root, and then a copy of another
abbrev pub part_fitted : ProgramRows → Option ℕ → List ℕ → ℕ → ℕ → ℕ → ℕ → Progress → Outcome ℕ
part_fitted g f vs e a root result p = then (typed g f vs a p) (λ x q. fitting (spot_at f e) x root q (copy (spot_at f e) result q))

-- items of a type, for each of which row b is typed
abbrev pub item_typed : ProgramRows → Option ℕ → List ℕ → ℕ → List TypeRow → ℕ → Progress → Outcome ℕ
item_typed g f vs b ts i p = typed g f (vs ++ (i ∷ [])) b p

-- there is an expression row at this place, and room for the variables of the rows below it
pub record Room (g : ProgramRows) (s : State) (e : ℕ) : Type 0 where
  pub there : e < length g.expressions
  pub variables : length s.variables.items + e ≤ 512
