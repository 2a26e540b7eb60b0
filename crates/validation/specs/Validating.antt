-- Whether input belongs to a root of a table of types.
use Rattle.std.specs.Prelude.{◌≡◌, ℕ, ◌<◌, ◌≤◌, true, false, List, length, Ok, Err, Result}
use Rattle.forest.specs.Faults.{faulted}
use Rattle.forest.specs.Forests.{Item, depth, forest}
use Rattle.forest.specs.Stores.{all_below, picked}
use Rattle.forest.specs.declared.failure.Failure.{Failure}
use Rattle.forest.specs.declared.failure.Failure.TheVariants.{Refused, OutOfMemory}
use Rattle.forest.specs.declared.fault.Fault.{Fault}
use Rattle.forest.specs.declared.fault.Reason.TheVariants.{NoSuchHandle, NestedTooDeep, OutsideType}
use Rattle.rows.specs.declared.type_row.TypeRow.{TypeRow}
use Rattle.types.specs.Parts.{Root}
use Rattle.types.specs.Belonging.{Belongs}
use Rattle.types.specs.Asking.{Askable, Unaskable}

-- the input is there, no more than 64 elements stand inside one another, and it belongs to the root
pub record InputFits (ts : List TypeRow) (root : ℕ) (trees : List Item) (hs : List ℕ) : Type 0 where
  pub there : all_below (length trees) hs ≡ true
  pub shallow : depth (forest (picked trees hs)) ≤ 64
  pub belongs : Belongs ts root (forest (picked trees hs))

-- The input is refused: a handle is not there, else it is nested too deep, else it does not belong to the root.
pub data InputRefused (ts : List TypeRow) (root : ℕ) (trees : List Item) (hs : List ℕ) : Fault → Type 0 where
  no_handle : all_below (length trees) hs ≡ false → InputRefused ts root trees hs (faulted NoSuchHandle 3 0)
  too_deep : all_below (length trees) hs ≡ true → 64 < depth (forest (picked trees hs)) → InputRefused ts root trees hs (faulted NestedTooDeep 3 0)
  outside : all_below (length trees) hs ≡ true → depth (forest (picked trees hs)) ≤ 64 → (Belongs ts root (forest (picked trees hs)) → ⊥) → InputRefused ts root trees hs (faulted OutsideType 3 0)

-- the answer for input of a one-way root; memory may be short
abbrev pub Judged : List TypeRow → ℕ → List Item → List ℕ → Result (Unit {0}) Failure → Type 0
Judged ts root trees hs (Ok u) = InputFits ts root trees hs
Judged ts root trees hs (Err (Refused f)) = InputRefused ts root trees hs f
Judged ts root trees hs (Err OutOfMemory) = Unit {0}

-- The call is refused: the types cannot be asked about, or else the input is refused.
pub data CallRefused (ts : List TypeRow) (root : ℕ) (trees : List Item) (hs : List ℕ) (f : Fault) : Type 0 where
  by_types : Unaskable ts (Root ts root) f → CallRefused ts root trees hs f
  by_input : Askable ts (Root ts root) → InputRefused ts root trees hs f → CallRefused ts root trees hs f

-- Input is validated: the types can be asked about, and it fits; or the call is refused; or memory is short.
abbrev pub Validated : List TypeRow → ℕ → List Item → List ℕ → Result (Unit {0}) Failure → Type 0
Validated ts root trees hs (Ok u) = Askable ts (Root ts root) × InputFits ts root trees hs
Validated ts root trees hs (Err (Refused f)) = CallRefused ts root trees hs f
Validated ts root trees hs (Err OutOfMemory) = Unit {0}
