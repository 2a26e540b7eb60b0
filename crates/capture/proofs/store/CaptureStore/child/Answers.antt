use Rattle.std.proofs.Common.{◌≡◌, ℕ, Some, vec_items, subst, rules}
use Rattle.capture.specs.declared.place.Place.{Place}
use Rattle.capture.specs.declared.place.Place.TheVariants.{Capture, Event, Part, Value}
use Rattle.capture.specs.Places.{Placed}
use Rattle.capture.proofs.Children.{event_count, how_many, no_child, child_of_capture, child_of_event, child_of_part}
use Rattle.capture.proofs.store.CaptureStore.child.Goals as goal

-- the place by its case
at_case : (n h : ℕ) (p q : Place) → p ≡ q → Placed n h (Some p) → Placed n h (Some q)
at_case n h p q same at = subst (λ (x : Place). Placed n h (Some x)) same at

pub returns-in-Capture : goal.returns-in-Capture
returns-in-Capture c = child_of_capture _ _ _ _ (at_case _ _ _ Capture c.in-Capture.is c.in-Some.ensures) (search rules) (search rules)

pub returns-in-Event : goal.returns-in-Event
returns-in-Event c =
    let at = at_case _ _ _ (Event c.in-Event.field-0) c.in-Event.is c.in-Some.ensures in
    child_of_event _ _ _ c.in-Event.field-0 _ at (search rules) (search rules)

pub returns-in-Part : goal.returns-in-Part
returns-in-Part c =
    let at = at_case _ _ _ (Part c.in-Part.field-0 c.in-Part.field-1) c.in-Part.is c.in-Some.ensures in
    child_of_part _ _ _ c.in-Part.field-0 _ c.in-Part.field-1 at (search rules) (search rules)

pub returns-in_default : goal.returns-in_default
returns-in_default c =
    let n = how_many (vec_items c.args.self.now.events) c.args.handle c.place.result c.place.ensures in
    no_child _ _ _ (search rules)

pub returns-in_default-place : goal.returns-in_default-place
returns-in_default-place c =
    let es = vec_items c.args.self.now.events in
    let n = how_many es c.args.handle (Some Capture) (at_case _ _ _ Capture c.in-Capture.is c.in-Some.ensures) in
    let m = event_count es in
    no_child _ _ _ (search rules)

pub returns-in_default-place-2 : goal.returns-in_default-place-2
returns-in_default-place-2 c =
    let at = at_case _ _ _ (Event c.in-Event.field-0) c.in-Event.is c.in-Some.ensures in
    let n = how_many (vec_items c.args.self.now.events) c.args.handle (Some (Event c.in-Event.field-0)) at in
    no_child _ _ _ (search rules)

pub returns-in_default-place-3 : goal.returns-in_default-place-3
returns-in_default-place-3 c =
    let at = at_case _ _ _ (Part c.in-Part.field-0 c.in-Part.field-1) c.in-Part.is c.in-Some.ensures in
    let n = how_many (vec_items c.args.self.now.events) c.args.handle (Some (Part c.in-Part.field-0 c.in-Part.field-1)) at in
    no_child _ _ _ (search rules)

pub returns-in_default-place-4 : goal.returns-in_default-place-4
returns-in_default-place-4 c =
    let at = at_case _ _ _ (Value c.in_default-place.field-0 c.in_default-place.field-1) c.in_default-place.is c.in-Some.ensures in
    let n = how_many (vec_items c.args.self.now.events) c.args.handle (Some (Value c.in_default-place.field-0 c.in_default-place.field-1)) at in
    no_child _ _ _ (search rules)
