-- The trees that a list of events means, whatever it was read from.
use Rattle.std.specs.Prelude.{ℕ, List, [], ◌∷◌, map, pos}
use Rattle.std.specs.List.{flat_map}
use Rattle.forest.specs.Forests.{Item, integer, scalar, element, forest}
use Rattle.forest.specs.Stores.{Meaning}
use Rattle.forest.specs.declared.space.Space.{Space}
use Rattle.capture.specs.declared.event.Event.{Event}
use Rattle.capture.specs.declared.event.Switch.{Switch}
use Rattle.capture.specs.declared.event.Switch.TheVariants.{Off, On}

abbrev pub switch_tag : Switch → ℕ
switch_tag On = 2
switch_tag Off = 3

abbrev pub number : ℕ → Item
number n = scalar (integer (pos n))

-- an element of one Integer
abbrev pub holding : ℕ → ℕ → Item
holding tag n = element tag (forest (number n ∷ []))

-- An event's element: on or off, of its time, queue, note and velocity.
abbrev pub event_tree : Event → Item
event_tree e =
    element (switch_tag e.switch) (forest (holding 4 e.time ∷ holding 5 e.queue ∷ holding 6 e.note ∷ holding 7 e.velocity ∷ []))

-- The trees of one event: its element, then the four parts, each followed by its Integer.
abbrev pub event_trees : Event → List Item
event_trees e =
    event_tree e
    ∷ holding 4 e.time ∷ number e.time
    ∷ holding 5 e.queue ∷ number e.queue
    ∷ holding 6 e.note ∷ number e.note
    ∷ holding 7 e.velocity ∷ number e.velocity
    ∷ []

-- The element of a capture, whose content is its events.
abbrev pub capture_tree : List Event → Item
capture_tree es = element 1 (forest (map event_tree es))

-- All trees: the capture's element, then those of each event. So event k's element stands at 1 + 9k.
abbrev pub capture_trees : List Event → List Item
capture_trees es = capture_tree es ∷ flat_map event_trees es

-- nothing can be made in a store of events
abbrev pub no_space : Space
no_space = record { trees = 0; children = 0; bytes = 0 }

-- what a store of these events means
abbrev pub meaning_of : List Event → Meaning
meaning_of es = record { trees = capture_trees es; space = no_space }
