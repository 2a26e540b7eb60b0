-- What holds of runs: of every one, and of those of an accepted query.
use Rattle.std.specs.Prelude.{◌≡◌, ℕ, ◌+◌, ◌≤◌, Bool, true, List, [], ◌∷◌, ◌++◌, Some}
use Rattle.forest.specs.declared.fault.Fault.{Fault}
use Rattle.forest.specs.declared.fault.Reason.TheVariants.{SpaceShort}
use Rattle.forest.specs.declared.space.Space.{Space}
use Rattle.forest.specs.Faults.{faulted}
use Rattle.forest.specs.Forests.{Forest, Item, bytes_lawful}
use Rattle.forest.specs.Stores.{Meaning}
use Rattle.rows.specs.declared.type_row.TypeRow.{TypeRow}
use Rattle.rows.specs.declared.function.Query.{Query}
use Rattle.rows.specs.Programs.{ProgramRows}
use Rattle.types.specs.Parts.{Lawful}
use Rattle.types.specs.Belonging.{Belongs}
use Rattle.typing.specs.declared.answer.QueryType.{QueryType}
use Rattle.typing.specs.Programs.{Orderly}
use Rattle.typing.specs.Accepted.{AcceptedBy}
use Rattle.evaluation.specs.Evaluation.{State, Why, fuel_spent, store_refused, sum_out_of_range, error_row, End, gives, stops, begin, run_to, run}

-- ONE END. A run is a function of its start, so it has one end. A row runs by its kind, its parts in the same way: how deep it goes does not show.

abbrev pub Unfolds : Type 0
Unfolds = (l : ℕ) (g : ProgramRows) (r : ℕ) (env : List Forest) (s : State) → run l g r env s ≡ begin l g (run l g) r env s

-- every depth of at least the fuel gives the same
abbrev pub DeepEnough : Type 0
DeepEnough = (l : ℕ) (g : ProgramRows) (r : ℕ) (env : List Forest) (s : State) (d : ℕ) → s.fuel ≤ d → run_to d l g r env s ≡ run l g r env s

-- FUEL AND TREES

-- how a run leaves things, however it ends
abbrev pub left_by : End → State
left_by (gives f s) = s
left_by (stops w r s) = s

-- from s to t no fuel came, and the trees that were made are still there, before those made since
pub record Onward (s t : State) : Type 0 where
  pub fuel : t.fuel ≤ s.fuel
  pub more : List Item
  pub trees : t.store.trees ≡ s.store.trees ++ more

abbrev pub RunsOnward : Type 0
RunsOnward = (l : ℕ) (g : ProgramRows) (r : ℕ) (env : List Forest) (s : State) → Onward s (left_by (run l g r env s))

-- if the run stopped because the store refused, the space was short
abbrev pub ShortOnly : ℕ → Why → Type 0
ShortOnly l fuel_spent = Unit {0}
ShortOnly l (store_refused why) = why ≡ faulted SpaceShort l 0
ShortOnly l sum_out_of_range = Unit {0}
ShortOnly l error_row = Unit {0}

abbrev pub RefusedForSpace : ℕ → End → Type 0
RefusedForSpace l (gives f s) = Unit {0}
RefusedForSpace l (stops w r s) = ShortOnly l w

abbrev pub RunsRefusedForSpace : Type 0
RunsRefusedForSpace = (l : ℕ) (g : ProgramRows) (r : ℕ) (env : List Forest) (s : State) → RefusedForSpace l (run l g r env s)

-- MORE FUEL AND SPACE

abbrev pub plus : Space → Space → Space
plus s x = record { trees = s.trees + x.trees; children = s.children + x.children; bytes = s.bytes + x.bytes }

-- the store with more space
abbrev pub wider : Space → Meaning → Meaning
wider x m = record { trees = m.trees; space = plus m.space x }

-- the same with n units of fuel more, and more space
abbrev pub richer : ℕ → Space → State → State
richer n x s = record { fuel = s.fuel + n; store = wider x s.store }

-- The second ends as the first: with the same forest or at the same stop, the fuel and space that it had more left over. If the first lacked fuel or space, nothing is said.
pub data Alike (n : ℕ) (x : Space) : End → End → Type 0 where
  gave : {f : Forest} {s : State} → Alike n x (gives f s) (gives f (richer n x s))
  stopped : {w : Why} {r : ℕ} {s : State} → Alike n x (stops w r s) (stops w r (richer n x s))
  lacked_fuel : {r : ℕ} {s : State} {o : End} → Alike n x (stops fuel_spent r s) o
  lacked_space : {why : Fault} {r : ℕ} {s : State} {o : End} → Alike n x (stops (store_refused why) r s) o

abbrev pub RunsAlike : Type 0
RunsAlike = (n : ℕ) (x : Space) (l : ℕ) (g : ProgramRows) (r : ℕ) (env : List Forest) (s : State) → Alike n x (run l g r env s) (run l g r env (richer n x s))

-- TYPES

-- A run of the type of row x: it ends with a forest of that type, or it stops; at an error row only if typing came to one.
pub data KeepsType (us : List TypeRow) (x : ℕ) (error : Bool) : End → Type 0 where
  in_type : {f : Forest} {s : State} → Belongs us x f → KeepsType us x error (gives f s)
  halted : {w : Why} {r : ℕ} {s : State} → (w ≡ error_row → error ≡ true) → KeepsType us x error (stops w r s)

-- An accepted query keeps the type that the check answered: on every forest of its input's type, with no more fuel than a count may be.
abbrev pub AcceptedRunsKeepType : Type 0
AcceptedRunsKeepType = (ts us : List TypeRow) (g : ProgramRows) (a : QueryType) (q : Query) → Lawful ts → Orderly g → bytes_lawful g.text ≡ true → AcceptedBy ts g a us → g.query ≡ Some q
    → (l : ℕ) (f : Forest) (s : State) → Belongs us q.input f → s.fuel ≤ 1000000000000 → KeepsType us a.row a.error (run l g q.row (f ∷ []) s)

-- What holds of every run of every program, over a store of any layer and meaning.
pub record RunLaws : Type 0 where
  -- a run is a function of its start, and its fuel is depth enough: so it has one end, and comes to it within the fuel
  pub unfolds : Unfolds
  pub deep_enough : DeepEnough
  pub onward : RunsOnward
  -- a store refuses a tree for want of space alone
  pub refused_for_space : RunsRefusedForSpace
  -- more fuel and more space change nothing but where either was lacking
  pub alike : RunsAlike
