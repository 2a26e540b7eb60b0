-- What a call on a store is answered, and what the store means after it.
use Rattle.std.specs.Prelude.{◌≡◌, ℕ, List, length, take, replicate, vec_items, Ok, Err, Result, Vec}
use Rattle.forest.specs.declared.failure.Failure.{Failure}
use Rattle.forest.specs.declared.failure.Failure.TheVariants.{Refused, OutOfMemory}
use Rattle.forest.specs.declared.fault.Fault.{Fault}
use Rattle.forest.specs.declared.fault.Reason.TheVariants.{BufferShort}
use Rattle.forest.specs.Stores.{Meaning, make, asked_integer, asked_boolean, asked_string, asked_element}
use Rattle.printing.specs.Outcomes.{Outcome, printing}
use Rattle.answers.specs.Answers.{handle_or_fault, Said, done, text, refused, check_refused, malformed, unsupported, measured}
use Rattle.script.specs.Calls.{StoreAsked, capture, table, tray, space, integer, boolean, string, element, print}

-- the number of trees, then the three numbers of space
abbrev pub measures : Meaning → List ℕ
measures m = measured (length m.trees) m.space

abbrev pub making : Result ℕ Fault × Meaning → Said × Meaning
making r = (handle_or_fault r.0, r.1)

-- a text that was printed is answered as it stands in the buffer
abbrev pub text_or_fault : Result ℕ Failure → List ℕ → Said
text_or_fault (Ok n) buffer = text (take n buffer)
text_or_fault (Err (Refused f)) buffer = refused f
text_or_fault (Err OutOfMemory) buffer = unsupported

-- the same, by a text of its own
abbrev pub text_or_failure : {A : Type 0} → Result (Vec ℕ A) Failure → Said
text_or_failure (Ok bytes) = text (vec_items bytes)
text_or_failure (Err (Refused f)) = refused f
text_or_failure (Err OutOfMemory) = unsupported

abbrev pub printed_as : Outcome → Said
printed_as o = text_or_fault o.answer o.buffer

-- What a call on a store of layer l gives. Loading and opening are not calls on a store.
abbrev pub performed : ℕ → StoreAsked → Meaning → Said × Meaning
performed l (capture bs) m = (unsupported, m)
performed l (table rs es bs) m = (unsupported, m)
performed l (tray s) m = (unsupported, m)
performed l space m = (done (measures m), m)
performed l (integer z) m = making (make l (asked_integer z) m)
performed l (boolean n) m = making (make l (asked_boolean n) m)
performed l (string bs) m = making (make l (asked_string bs) m)
performed l (element t hs) m = making (make l (asked_element m.trees t hs) m)
performed l (print n hs) m = (printed_as (printing m.trees hs (replicate n 0)), m)

-- it was not refused for the buffer
abbrev pub NotShort : Said → Type 0
NotShort (refused f) = f.reason ≡ BufferShort → ⊥
NotShort (check_refused f function) = Unit {0}
NotShort (done ns) = Unit {0}
NotShort (text bs) = Unit {0}
NotShort malformed = Unit {0}
NotShort unsupported = Unit {0}

-- Of the calls on a store only printing needs memory. (Loading and opening are not calls on a store.)
abbrev pub MayLackMemory : StoreAsked → Type 0
MayLackMemory (capture bs) = Unit {0}
MayLackMemory (table rs es bs) = Unit {0}
MayLackMemory (tray s) = Unit {0}
MayLackMemory (print n hs) = Unit {0}
MayLackMemory space = ⊥
MayLackMemory (integer z) = ⊥
MayLackMemory (boolean n) = ⊥
MayLackMemory (string bs) = ⊥
MayLackMemory (element t hs) = ⊥

-- The call was performed; where memory is short the store is as it was.
abbrev pub Performs : ℕ → StoreAsked → Meaning → Said → Meaning → Type 0
Performs l a m (done ns) n = (done ns, n) ≡ performed l a m
Performs l a m (text bs) n = (text bs, n) ≡ performed l a m
Performs l a m (refused f) n = (refused f, n) ≡ performed l a m
Performs l a m (check_refused f function) n = ⊥
Performs l a m malformed n = ⊥
Performs l a m unsupported n = (n ≡ m) × MayLackMemory a
