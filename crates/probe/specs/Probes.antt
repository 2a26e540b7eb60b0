-- What a probe holds, and how it answers each call.
use Rattle.std.specs.Prelude.{◌≡◌, ℕ, List, [], ◌∷◌, length, Some, None}
use Rattle.forest.specs.declared.fault.Reason.TheVariants.{UnlawfulCapture}
use Rattle.forest.specs.declared.space.Space.{Space}
use Rattle.forest.specs.Faults.{faulted}
use Rattle.forest.specs.Stores.{Meaning}
use Rattle.arena.specs.Arenas.{means_over}
use Rattle.table.specs.declared.row.RawRow.{RawRow}
use Rattle.table.specs.Tables.{refusal, table_meaning}
use Rattle.capture.specs.Captures.{meaning}
use Rattle.capture.specs.Events.{meaning_of}
use Rattle.capture.specs.Records.{AllLawful, FirstUnlawful, events_of}
use Rattle.overlay.specs.Overlays.{opened}
use Rattle.script.specs.Calls.{StoreAsked, capture, table, tray, space, integer, boolean, string, element, print}
use Rattle.probe.specs.declared.probe.Probe.{Probe}
use Rattle.probe.specs.declared.probe.Probe.TheVariants.{OfTable, OfCapture}
use Rattle.answers.specs.Answers.{Said, done, text, refused, check_refused, malformed, unsupported}
use Rattle.probe.specs.Performing.{measures, Performs}
use Rattle.probe.specs.Piles.{pile_meaning, pile_layer}

-- The current store, by the layer that it names and what it means.
pub record State : Type 0 where
  pub layer : ℕ
  pub meaning : Meaning

abbrev pub state : Probe → State
state (OfTable p) = record { layer = pile_layer 4 p; meaning = pile_meaning (λ t. means_over [] t.own) p }
state (OfCapture p) = record { layer = pile_layer 5 p; meaning = pile_meaning meaning p }

-- A load that succeeds makes a new store, and is answered by its number of trees.
pub record Loads (l : ℕ) (m : Meaning) (numbers : List ℕ) (after : State) : Type 0 where
  pub answer : numbers ≡ length m.trees ∷ []
  pub store : after ≡ record { layer = l; meaning = m }

-- A load that is refused, or finds no memory, keeps the store as it was.

abbrev pub LoadsCapture : List ℕ → State → Said → State → Type 0
LoadsCapture bs before (done ns) after = AllLawful bs × Loads 5 (meaning_of (events_of bs)) ns after
LoadsCapture bs before (refused f) after = ((k : ℕ) × FirstUnlawful bs k × (f ≡ faulted UnlawfulCapture 5 k)) × (after ≡ before)
LoadsCapture bs before unsupported after = after ≡ before
LoadsCapture bs before (text t) after = ⊥
LoadsCapture bs before (check_refused f function) after = ⊥
LoadsCapture bs before malformed after = ⊥

abbrev pub LoadsTable : List RawRow → List ℕ → List ℕ → State → Said → State → Type 0
LoadsTable rs es bs before (done ns) after = (refusal rs es bs ≡ None) × Loads 4 (table_meaning rs es bs) ns after
LoadsTable rs es bs before (refused f) after = (refusal rs es bs ≡ Some f) × (after ≡ before)
LoadsTable rs es bs before unsupported after = after ≡ before
LoadsTable rs es bs before (text t) after = ⊥
LoadsTable rs es bs before (check_refused f function) after = ⊥
LoadsTable rs es bs before malformed after = ⊥

-- An overlay has the trees of the store that it is opened over, and the space that it allows.
abbrev pub overlaid_by : Space → State → State
overlaid_by s x = record { layer = 6; meaning = record { trees = x.meaning.trees; space = opened (length x.meaning.trees) s } }

abbrev pub Opens : Space → State → Said → State → Type 0
Opens s before (done ns) after = (after ≡ overlaid_by s before) × (ns ≡ measures after.meaning)
Opens s before unsupported after = after ≡ before
Opens s before (refused f) after = ⊥
Opens s before (text t) after = ⊥
Opens s before (check_refused f function) after = ⊥
Opens s before malformed after = ⊥

abbrev pub OnStore : StoreAsked → State → Said → State → Type 0
OnStore a before s after = Performs before.layer a before.meaning s after.meaning × (after.layer ≡ before.layer)

-- How a call is answered, and what the store is then.
abbrev pub Obeys : StoreAsked → State → Said → State → Type 0
Obeys (capture bs) before s after = LoadsCapture bs before s after
Obeys (table rs es bs) before s after = LoadsTable rs es bs before s after
Obeys (tray limits) before s after = Opens limits before s after
Obeys space before s after = OnStore space before s after
Obeys (integer z) before s after = OnStore (integer z) before s after
Obeys (boolean n) before s after = OnStore (boolean n) before s after
Obeys (string bs) before s after = OnStore (string bs) before s after
Obeys (element t hs) before s after = OnStore (element t hs) before s after
Obeys (print n hs) before s after = OnStore (print n hs) before s after
