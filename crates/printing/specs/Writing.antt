-- Writing a text that may have so many bytes.
use Rattle.std.specs.Prelude.{◌≡◌, List, ℕ, ◌<◌, ◌++◌, length, vec_items, Ok, Err, Result}
use Rattle.forest.specs.Faults.{faulted}
use Rattle.forest.specs.declared.failure.Failure.{Failure}
use Rattle.forest.specs.declared.failure.Failure.TheVariants as failure
use Rattle.forest.specs.declared.fault.Reason.TheVariants.{BufferShort}
use Rattle.printing.specs.Outcomes.{layer}
use Rattle.printing.specs.declared.stop.Stop.{Stop}
use Rattle.printing.specs.declared.stop.Stop.TheVariants.{TooLong, OutOfMemory}
use Rattle.printing.specs.declared.text.Text.{Text}

-- what a call answers where the text takes no more
abbrev pub failure_of : Stop → Failure
failure_of TooLong = failure.Refused (faulted BufferShort layer 0)
failure_of OutOfMemory = failure.OutOfMemory

-- A call adds more to a text; or it refuses since that would be too long; or memory is short.
abbrev pub Adds : {X : Type 0} → Result X Stop → Text → Text → List ℕ → Type 0
Adds (Ok x) before after more = (vec_items after.bytes ≡ vec_items before.bytes ++ more) × (after.limit ≡ before.limit)
Adds (Err TooLong) before after more = before.limit < length (vec_items before.bytes ++ more)
Adds (Err OutOfMemory) before after more = Unit {0}
