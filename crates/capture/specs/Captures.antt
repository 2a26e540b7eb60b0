-- What a capture means as a store, and what loading gives.
use Rattle.std.specs.Prelude.{◌≡◌, ℕ, List, Ok, Err, vec_items, Result}
use Rattle.forest.specs.Faults.{faulted}
use Rattle.forest.specs.Stores.{Meaning}
use Rattle.forest.specs.declared.failure.Failure.{Failure}
use Rattle.forest.specs.declared.failure.Failure.TheVariants.{Refused, OutOfMemory}
use Rattle.forest.specs.declared.fault.Reason.TheVariants.{UnlawfulCapture}
use Rattle.capture.specs.declared.capture.Capture.{Capture}
use Rattle.capture.specs.Events.{meaning_of}
use Rattle.capture.specs.Records.{AllLawful, FirstUnlawful, events_of}

-- what a capture means: the trees of its events
abbrev pub meaning : Capture → Meaning
meaning c = meaning_of (vec_items c.events)

-- Loading the bytes bs gives a capture of their events, if each record is lawful; else a refusal that names the first that is not.
-- Memory may be short in either case.
abbrev pub Loaded : List ℕ → Result Capture Failure → Type 0
Loaded bs (Ok c) = AllLawful bs × (meaning c ≡ meaning_of (events_of bs))
Loaded bs (Err (Refused f)) = (k : ℕ) × FirstUnlawful bs k × (f ≡ faulted UnlawfulCapture 5 k)
Loaded bs (Err OutOfMemory) = Unit {0}
