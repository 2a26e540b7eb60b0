-- How typing goes: it gives something, or it ends at a fault; and what it demands on the way.
use Rattle.std.specs.Prelude.{ℕ, Bool, List, [], ◌∷◌, ◌++◌, Ok, Err, Result}
use Rattle.rows.specs.declared.type_row.TypeRow.{TypeRow}
use Rattle.types.specs.Belonging.{Subtype}
use Rattle.typing.specs.declared.fault.TypeFault.{TypeFault}

-- What typing has made so far: the table of type rows, and whether it came to an error row.
pub record Progress : Type 0 where
  pub types : List TypeRow
  pub error : Bool

-- A demand: in a table of types a row has to fit a root. If it does not, the check is refused so.
pub record Demand : Type 0 where
  pub types : List TypeRow
  pub row : ℕ
  pub root : ℕ
  pub refusal : TypeFault

abbrev pub Holds : Demand → Type 0
Holds d = Subtype d.types d.row d.root

-- Typing goes on with something, or it stops.
pub data Ending (A : Type 0) : Type 0 where
  goes : A → Progress → Ending A
  stops : TypeFault → Ending A

-- An outcome: the demands that were met, in order, and how typing ends if they all hold.
pub record Outcome (A : Type 0) : Type 0 where
  pub demands : List Demand
  pub ending : Ending A

abbrev pub given : {A : Type 0} → A → Progress → Outcome A
given x p = record { demands = []; ending = goes x p }

abbrev pub stopped : {A : Type 0} → TypeFault → Outcome A
stopped f = record { demands = []; ending = stops f }

-- one demand, before the rest
abbrev pub demanding : {A : Type 0} → Demand → Outcome A → Outcome A
demanding d o = record { demands = d ∷ o.demands; ending = o.ending }

-- one step, and then another
abbrev pub after : {A B : Type 0} → List Demand → Ending A → (A → Progress → Outcome B) → Outcome B
after ds (goes x p) k = record { demands = ds ++ (k x p).demands; ending = (k x p).ending }
after ds (stops f) k = record { demands = ds; ending = stops f }

abbrev pub then : {A B : Type 0} → Outcome A → (A → Progress → Outcome B) → Outcome B
then o k = after o.demands o.ending k

-- What is met first decides: the first demand that does not hold refuses; where all hold it ends as it ends.
pub data Met {A : Type 0} : List Demand → Ending A → Ending A → Type 0 where
  all_hold : {e : Ending A} → Met [] e e
  holds : {d : Demand} {ds : List Demand} {e r : Ending A} → Holds d → Met ds e r → Met (d ∷ ds) e r
  fails : {d : Demand} {ds : List Demand} {e : Ending A} → (Holds d → ⊥) → Met (d ∷ ds) e (stops d.refusal)

abbrev pub Gives : {A : Type 0} → Outcome A → Ending A → Type 0
Gives o r = Met o.demands o.ending r

-- what a call answers, and what it has made
abbrev pub ending_of : {A : Type 0} → Result A TypeFault → Progress → Ending A
ending_of (Ok x) p = goes x p
ending_of (Err f) p = stops f
