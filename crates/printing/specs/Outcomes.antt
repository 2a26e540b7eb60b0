-- What printing into a buffer answers, and what the buffer holds then.
use Rattle.std.specs.Prelude.{◌≡◌, ℕ, cond, List, ◌++◌, length, drop, Ok, Err, Result, nat_lt}
use Rattle.forest.specs.Faults.{faulted}
use Rattle.forest.specs.Forests.{Forest, Item, depth, forest}
use Rattle.forest.specs.Stores.{all_below, picked}
use Rattle.forest.specs.declared.failure.Failure.{Failure}
use Rattle.forest.specs.declared.failure.Failure.TheVariants.{Refused, OutOfMemory}
use Rattle.forest.specs.declared.fault.Reason.{Reason}
use Rattle.forest.specs.declared.fault.Reason.TheVariants.{NoSuchHandle, NestedTooDeep, BufferShort}
use Rattle.printing.specs.Printed.{printed}

pub record Outcome : Type 0 where
  pub answer : Result ℕ Failure
  pub buffer : List ℕ

-- the layer of runs and printing
abbrev pub layer : ℕ
layer = 3

abbrev pub refused : Reason → List ℕ → Outcome
refused why buffer = record { answer = Err (Refused (faulted why layer 0)); buffer = buffer }

-- a text in front of a buffer, if it has room for it
abbrev pub placed : List ℕ → List ℕ → Outcome
placed text buffer =
    cond (nat_lt (length buffer) (length text)) (refused BufferShort buffer) (record { answer = Ok (length text); buffer = text ++ drop (length text) buffer })

-- a forest printed, if it is not nested too deep
abbrev pub placed_forest : Forest → List ℕ → Outcome
placed_forest f buffer = cond (nat_lt 64 (depth f)) (refused NestedTooDeep buffer) (placed (printed f) buffer)

-- the trees that handles name printed, if all are there
abbrev pub printing : List Item → List ℕ → List ℕ → Outcome
printing ts hs buffer = cond (all_below (length ts) hs) (placed_forest (forest (picked ts hs)) buffer) (refused NoSuchHandle buffer)

-- Memory may be short, which leaves the buffer as it was; else the outcome is that of `printing`.
abbrev pub Prints : List Item → List ℕ → List ℕ → Result ℕ Failure → List ℕ → Type 0
Prints ts hs before (Ok n) after = record { answer = Ok n; buffer = after } ≡ printing ts hs before
Prints ts hs before (Err (Refused f)) after = record { answer = Err (Refused f); buffer = after } ≡ printing ts hs before
Prints ts hs before (Err OutOfMemory) after = after ≡ before
