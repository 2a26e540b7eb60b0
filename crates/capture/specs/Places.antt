-- Which place in a capture of n events a handle names.
use Rattle.std.specs.Prelude.{◌≡◌, ℕ, ◌+◌, ◌*◌, ◌<◌, ◌≤◌, Some, None, Option}
use Rattle.capture.specs.declared.event.Event.{Event as BusEvent}
use Rattle.capture.specs.declared.place.Part.{Part as PartName}
use Rattle.capture.specs.declared.place.Part.TheVariants.{Time, Queue, Note, Velocity}
use Rattle.capture.specs.declared.place.Place.{Place}
use Rattle.capture.specs.declared.place.Place.TheVariants.{Capture, Event, Part, Value}

-- the parts in their order
abbrev pub part_number : PartName → ℕ
part_number Time = 0
part_number Queue = 1
part_number Note = 2
part_number Velocity = 3

abbrev pub part_tag : PartName → ℕ
part_tag Time = 4
part_tag Queue = 5
part_tag Note = 6
part_tag Velocity = 7

-- the number that a part holds
abbrev pub part_value : BusEvent → PartName → ℕ
part_value e Time = e.time
part_value e Queue = e.queue
part_value e Note = e.note
part_value e Velocity = e.velocity

-- Event k's element stands at 1 + 9k; then come its parts, each followed by its Integer.
abbrev pub Placed : ℕ → ℕ → Option Place → Type 0
Placed n h None = 1 + 9 * n ≤ h
Placed n h (Some Capture) = h ≡ 0
Placed n h (Some (Event k)) = (k < n) × (h ≡ 1 + 9 * k)
Placed n h (Some (Part k p)) = (k < n) × (h ≡ 2 + 9 * k + 2 * part_number p)
Placed n h (Some (Value k p)) = (k < n) × (h ≡ 3 + 9 * k + 2 * part_number p)
