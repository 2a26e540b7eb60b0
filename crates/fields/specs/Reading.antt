-- What a reader answers.
use Rattle.std.specs.Prelude.{◌≡◌, Some, None, Option, Ok, Err, Result}
use Rattle.fields.specs.declared.read_error.ReadError.{ReadError}
use Rattle.fields.specs.declared.read_error.ReadError.TheVariants.{Malformed, OutOfMemory}

-- The value that is written, or that none is. That memory is short says nothing of what is written.
abbrev pub Reads : {A B : Type 0} → (A → B) → Option B → Result A ReadError → Type 0
Reads view written (Ok x) = written ≡ Some (view x)
Reads view written (Err Malformed) = written ≡ None
Reads view written (Err (OutOfMemory short)) = Unit {0}
