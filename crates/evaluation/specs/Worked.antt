-- The worked query runs: over a capture of one off and one on event, and over an empty one.
use Rattle.std.specs.Prelude.{◌≡◌, ℕ, List, [], ◌∷◌, pos, None}
use Rattle.forest.specs.declared.fault.Reason.TheVariants.{SpaceShort}
use Rattle.forest.specs.Faults.{faulted}
use Rattle.forest.specs.Forests.{Forest, none, leaf, node, integer, Item, scalar}
use Rattle.rows.specs.declared.expression.Expression.TheVariants.{Integer}
use Rattle.rows.specs.Programs.{ProgramRows}
use Rattle.forest.specs.Stores.{Meaning}
use Rattle.types.specs.Worked.{WorkedTypes}
use Rattle.typing.specs.Worked.{every_off, WorkedCheck, MixedRefused}
use Rattle.evaluation.specs.Evaluation.{State, gives, stops, fuel_spent, store_refused, run}

abbrev pub field : ℕ → ℕ → Forest → Forest
field tag value f = node tag (leaf (integer (pos value)) none) f

-- an event's time, queue, note and velocity
abbrev pub event : ℕ → ℕ → ℕ → ℕ → ℕ → Forest → Forest
event tag time queue note velocity f = node tag (field 4 time (field 5 queue (field 6 note (field 7 velocity none)))) f

abbrev pub two_events : Forest
two_events = node 1 (event 3 1000 0 60 64 (event 2 1004 1 60 100 none)) none

abbrev pub no_events : Forest
no_events = node 1 none none

-- the store: its trees do not matter here, as the query makes none
abbrev pub over : Meaning
over = record { trees = []; space = record { trees = 0; children = 0; bytes = 0 } }

abbrev pub with_fuel : ℕ → State
with_fuel n = record { fuel = n; store = over }

pub record WorkedRuns : Type 0 where
  -- the off event, for 17 units
  pub off_event : run 6 every_off 6 (two_events ∷ []) (with_fuel 100) ≡ gives (event 3 1000 0 60 64 none) (with_fuel 83)
  -- one unit less is too little, and shows at the end of the last row
  pub one_unit_less : run 6 every_off 6 (two_events ∷ []) (with_fuel 16) ≡ stops fuel_spent 6 (with_fuel 0)
  -- an empty capture costs 4
  pub empty_capture : run 6 every_off 6 (no_events ∷ []) (with_fuel 100) ≡ gives none (with_fuel 96)

-- A constant makes a tree, and pays for it then: over a store with room for one tree.

abbrev pub one_constant : ProgramRows
one_constant = record { expressions = Integer (pos 5) ∷ []; arms = []; functions = []; text = []; query = None }

abbrev pub five : Forest
five = leaf (integer (pos 5)) none

-- so much fuel, these trees, and room for so many more
abbrev pub holding : ℕ → List Item → ℕ → State
holding fuel trees room = record { fuel = fuel; store = record { trees = trees; space = record { trees = room; children = 0; bytes = 0 } } }

pub record WorkedConstant : Type 0 where
  pub made : run 6 one_constant 0 [] (holding 2 [] 1) ≡ gives five (holding 0 (scalar (integer (pos 5)) ∷ []) 0)
  -- with one unit it begins and makes its tree, which stays, and cannot pay for it
  pub made_and_unpaid : run 6 one_constant 0 [] (holding 1 [] 1) ≡ stops fuel_spent 0 (holding 0 (scalar (integer (pos 5)) ∷ []) 0)
  -- without room it stops at its own row, with the store's fault
  pub no_room : run 6 one_constant 0 [] (holding 2 [] 0) ≡ stops (store_refused (faulted SpaceShort 6 0)) 0 (holding 1 [] 0)

-- THE WORKED CASES, ALL TOGETHER
pub record WorkedCases : Type 0 where
  -- Integer, Integer* is one-way, Integer*, Integer is not; an element whose content is itself fits Integer; element 6 of Integer fits any element of Integer, not the reverse
  pub types : WorkedTypes
  -- the worked query's check: type row 23, 11 rows made
  pub check : WorkedCheck
  -- Integer*, Integer is refused by 23
  pub mixed : MixedRefused
  -- the worked query's runs, and those of a constant
  pub runs : WorkedRuns
  pub constant : WorkedConstant
