-- The bytes of a capture: records of eight bytes, one for each event, and when a record is lawful.
use Rattle.std.specs.Prelude.{◌≡◌, ℕ, zero, suc, ◌+◌, ◌*◌, ◌/◌, ◌<◌, ◌≤◌, Bool, true, cond, ◌&&◌, ◌||◌, List, [], ◌∷◌, ◌++◌, length, take, drop, nat_le, slice_index}
use Rattle.capture.specs.declared.event.Event.{Event}
use Rattle.capture.specs.declared.event.Switch.{Switch}
use Rattle.capture.specs.declared.event.Switch.TheVariants.{Off, On}

-- How many records there are. The last one may be short.
abbrev pub record_count : List ℕ → ℕ
record_count bs = (length bs + 7) / 8

-- the bytes of record k
abbrev pub record_at : List ℕ → ℕ → List ℕ
record_at bs k = take 8 (drop (8 * k) bs)

-- The fields of a record: four bytes of time, big end first, then queue, status, note and velocity.

abbrev pub time_of : List ℕ → ℕ
time_of r = slice_index r 0 * 0x1000000 + slice_index r 1 * 0x10000 + slice_index r 2 * 0x100 + slice_index r 3

abbrev pub queue_of : List ℕ → ℕ
queue_of r = slice_index r 4

abbrev pub status_of : List ℕ → ℕ
status_of r = slice_index r 5

abbrev pub note_of : List ℕ → ℕ
note_of r = slice_index r 6

abbrev pub velocity_of : List ℕ → ℕ
velocity_of r = slice_index r 7

-- Which status switches a note off, and which on.

abbrev pub says_off : ℕ → Bool
says_off s = nat_le 0x80 s && nat_le s 0x8F

abbrev pub says_on : ℕ → Bool
says_on s = nat_le 0x90 s && nat_le s 0x9F

abbrev pub status_lawful : ℕ → Bool
status_lawful s = says_off s || says_on s

abbrev pub switch_of : ℕ → Switch
switch_of s = cond (says_on s) On Off

-- A record is lawful after an event at the time `earliest`: it is whole, the time does not fall, and each field is in its range.
pub record LawfulRecord (earliest : ℕ) (r : List ℕ) : Type 0 where
  pub whole : length r ≡ 8
  pub time : earliest ≤ time_of r
  pub queue : queue_of r ≤ 1
  pub status : status_lawful (status_of r) ≡ true
  pub note : note_of r ≤ 127
  pub velocity : velocity_of r ≤ 127

-- the event of a lawful record
abbrev pub event_of : List ℕ → Event
event_of r =
    record {
      time = time_of r;
      queue = queue_of r;
      switch = switch_of (status_of r);
      note = note_of r;
      velocity = velocity_of r;
    }

-- the time that record k must not fall below: that of the record before it
abbrev pub time_before : List ℕ → ℕ → ℕ
time_before bs zero = 0
time_before bs (suc k) = time_of (record_at bs k)

-- Record k is lawful where it stands: among the first thousand, and after the record before it.
pub record LawfulAt (bs : List ℕ) (k : ℕ) : Type 0 where
  pub few : k < 1000
  pub legal : LawfulRecord (time_before bs k) (record_at bs k)

abbrev pub AllLawful : List ℕ → Type 0
AllLawful bs = (k : ℕ) → k < record_count bs → LawfulAt bs k

-- k is the first unlawful record.
pub record FirstUnlawful (bs : List ℕ) (k : ℕ) : Type 0 where
  pub there : k < record_count bs
  pub unlawful : LawfulAt bs k → ⊥
  pub before : (j : ℕ) → j < k → LawfulAt bs j

-- the events of the first n records
abbrev pub events_of_first : List ℕ → ℕ → List Event
events_of_first bs zero = []
events_of_first bs (suc n) = events_of_first bs n ++ (event_of (record_at bs n) ∷ [])

abbrev pub events_of : List ℕ → List Event
events_of bs = events_of_first bs (record_count bs)
