-- The trees of events whose numbers are in range are lawful.
use Rattle.std.proofs.Common.{◌≡◌, ◌≤◌, true, leb, List, [], ◌∷◌, ◌++◌, map, refl}
use Rattle.std.specs.List.{flat_map}
use Rattle.std.proofs.lemmas.Bool.{le-leb}
use Rattle.forest.specs.Forests.{tag_lawful, forest, lawful}
use Rattle.capture.specs.declared.event.Event.{Event}
use Rattle.capture.specs.declared.event.Switch.{Switch}
use Rattle.capture.specs.declared.event.Switch.TheVariants.{Off, On}
use Rattle.capture.specs.Events.{switch_tag, event_tree, event_trees, capture_trees}

pub record InRange (e : Event) : Type 0 where
  pub time : e.time ≤ 1000000000000
  pub queue : e.queue ≤ 1000000000000
  pub note : e.note ≤ 1000000000000
  pub velocity : e.velocity ≤ 1000000000000

pub data Ranged : List Event → Type 0 where
  none : Ranged []
  more : {es : List Event} {e : Event} → InRange e → Ranged es → Ranged (e ∷ es)

pub ranged_push : {es : List Event} {e : Event} → Ranged es → InRange e → Ranged (es ++ (e ∷ []))
ranged_push none r = more r none
ranged_push (more q rs) r = more q (ranged_push rs r)

switch_legal : (s : Switch) → tag_lawful (switch_tag s) ≡ true
switch_legal On = refl
switch_legal Off = refl

module _ {e : Event} (r : InRange e) where
  time-legal : leb e.time 1000000000000 ≡ true
  time-legal = le-leb _ _ r.time

  queue-legal : leb e.queue 1000000000000 ≡ true
  queue-legal = le-leb _ _ r.queue

  note-legal : leb e.note 1000000000000 ≡ true
  note-legal = le-leb _ _ r.note

  velocity-legal : leb e.velocity 1000000000000 ≡ true
  velocity-legal = le-leb _ _ r.velocity

elements_legal : {es : List Event} → Ranged es → lawful (forest (map event_tree es)) ≡ true
elements_legal none = refl
elements_legal (more r rs) = simp (switch_legal, time-legal r, queue-legal r, note-legal r, velocity-legal r, elements_legal rs)

all-legal : {es : List Event} → Ranged es → lawful (forest (flat_map event_trees es)) ≡ true
all-legal none = refl
all-legal (more r rs) = simp (switch_legal, time-legal r, queue-legal r, note-legal r, velocity-legal r, all-legal rs)

pub legal : (es : List Event) → Ranged es → lawful (forest (capture_trees es)) ≡ true
legal es rs = simp (elements_legal rs, all-legal rs)
