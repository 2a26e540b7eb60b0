-- Which tree of a capture stands at each place.
use Rattle.std.proofs.Common.{◌≡◌, ℕ, zero, suc, ◌+◌, ◌-◌, ◌*◌, ◌<◌, ◌≤◌, List, [], ◌∷◌, ◌++◌, map, length, get_or, Some, None, Option, slice_get, refl, ap, ◌∙◌, le_of_suc-le-suc, not-suc-le-zero, arith, length-append}
use lib.ListN.{length-map}
use Rattle.std.specs.List.{flat_map}
use Rattle.std.proofs.lemmas.List.{get_or_append_left, get_or-append_right, get_or-map, get_or_past}
use Rattle.std.proofs.lemmas.Option.{slice_get-get_or, slice_get_past}
use Rattle.forest.specs.Forests.{Item}
use Rattle.forest.specs.Stores.{item_text, text_at}
use Rattle.capture.specs.declared.event.Event.{Event as BusEvent}
use Rattle.capture.specs.declared.event.Switch.TheVariants.{Off}
use Rattle.capture.specs.declared.place.Part.{Part as PartName}
use Rattle.capture.specs.declared.place.Part.TheVariants.{Time, Queue, Note, Velocity}
use Rattle.capture.specs.declared.place.Place.{Place}
use Rattle.capture.specs.declared.place.Place.TheVariants.{Capture, Event, Part, Value}
use Rattle.capture.specs.Events.{number, holding, event_tree, event_trees, capture_tree, capture_trees}
use Rattle.capture.specs.Places.{part_number, part_tag, part_value, Placed}

joined-long : (es : List BusEvent) → length (flat_map event_trees es) ≡ 9 * length es
joined-long [] = refl
joined-long (x ∷ es) = omega (arith, length-append (event_trees x) (flat_map event_trees es), joined-long es)

pub long : (es : List BusEvent) → length (capture_trees es) ≡ 1 + 9 * length es
long es = omega (arith, joined-long es)

joined_at : (es : List BusEvent) (k w i : ℕ) (e : BusEvent) (d : Item) → k < length es → w < 9 → i ≡ 9 * k + w → get_or (flat_map event_trees es) i d ≡ get_or (event_trees (get_or es k e)) w d
joined_at [] k w i e d lt few at = absurd (not-suc-le-zero lt)
joined_at (x ∷ es) zero w i e d lt few at =
    let here : i ≡ w = omega arith in
    ap (λ n. get_or (event_trees x ++ flat_map event_trees es) n d) here
    ∙ get_or_append_left (event_trees x) (flat_map event_trees es) d w few
joined_at (x ∷ es) (suc k) w i e d lt few at =
    get_or-append_right (event_trees x) (flat_map event_trees es) 9 i d refl (omega arith)
    ∙ joined_at es k w (i - 9) e d (le_of_suc-le-suc lt) few (omega arith)

-- tree w of event k
tree-at : (es : List BusEvent) (k w h : ℕ) (e : BusEvent) (d : Item) → k < length es → w < 9 → h ≡ 1 + 9 * k + w → get_or (capture_trees es) h d ≡ get_or (event_trees (get_or es k e)) w d
tree-at es k w h e d lt few at =
    get_or-append_right (capture_tree es ∷ []) (flat_map event_trees es) 1 h d refl (omega arith)
    ∙ joined_at es k w (h - 1) e d lt few (omega arith)

module _ (es : List BusEvent) (k h : ℕ) (e : BusEvent) (d : Item) (lt : k < length es) where
  pub at_event : h ≡ 1 + 9 * k → get_or (capture_trees es) h d ≡ event_tree (get_or es k e)
  at_event at = tree-at es k 0 h e d lt (omega arith) (omega arith)

  pub at_part : (p : PartName) → h ≡ 2 + 9 * k + 2 * part_number p → get_or (capture_trees es) h d ≡ holding (part_tag p) (part_value (get_or es k e) p)
  at_part Time at = tree-at es k 1 h e d lt (omega arith) (omega arith)
  at_part Queue at = tree-at es k 3 h e d lt (omega arith) (omega arith)
  at_part Note at = tree-at es k 5 h e d lt (omega arith) (omega arith)
  at_part Velocity at = tree-at es k 7 h e d lt (omega arith) (omega arith)

  pub at_value : (p : PartName) → h ≡ 3 + 9 * k + 2 * part_number p → get_or (capture_trees es) h d ≡ number (part_value (get_or es k e) p)
  at_value Time at = tree-at es k 2 h e d lt (omega arith) (omega arith)
  at_value Queue at = tree-at es k 4 h e d lt (omega arith) (omega arith)
  at_value Note at = tree-at es k 6 h e d lt (omega arith) (omega arith)
  at_value Velocity at = tree-at es k 8 h e d lt (omega arith) (omega arith)

-- stands in where no event is read
abbrev pub blank : BusEvent
blank = record { time = 0; queue = 0; switch = Off; note = 0; velocity = 0 }

-- what a place reads, by any function of a tree
abbrev pub read : {Y : Type 0} (f : Item → Y) (y : Y) → List BusEvent → BusEvent → Option Place → Y
read f y es e None = y
read f y es e (Some Capture) = f (capture_tree es)
read f y es e (Some (Event k)) = f (event_tree (get_or es k e))
read f y es e (Some (Part k p)) = f (holding (part_tag p) (part_value (get_or es k e) p))
read f y es e (Some (Value k p)) = f (number (part_value (get_or es k e) p))

pub few-parts : (p : PartName) → part_number p ≤ 3
few-parts Time = omega arith
few-parts Queue = omega arith
few-parts Note = omega arith
few-parts Velocity = omega arith

module _ {Y : Type 0} (f : Item → Y) (y : Y) (es : List BusEvent) (h : ℕ) (e : BusEvent) where
  mapped : h < 1 + 9 * length es → get_or (map f (capture_trees es)) h y ≡ f (get_or (capture_trees es) h (capture_tree es))
  mapped lt = get_or-map f (capture_trees es) h (capture_tree es) y (omega (arith, long es))

  pub reads : (p : Option Place) → Placed (length es) h p → get_or (map f (capture_trees es)) h y ≡ read f y es e p
  reads None at = get_or_past (map f (capture_trees es)) h y (omega (arith, long es, length-map (capture_trees es) f))
  reads (Some Capture) at = ap (λ n. get_or (map f (capture_trees es)) n y) at
  reads (Some (Event k)) at = mapped (omega arith) ∙ ap f (at_event es k h e _ at.0 at.1)
  reads (Some (Part k p)) at = mapped (omega (arith, few-parts p)) ∙ ap f (at_part es k h e _ at.0 p at.1)
  reads (Some (Value k p)) at = mapped (omega (arith, few-parts p)) ∙ ap f (at_value es k h e _ at.0 p at.1)

  there : h < 1 + 9 * length es → slice_get (map f (capture_trees es)) h ≡ Some (get_or (map f (capture_trees es)) h y)
  there lt = slice_get-get_or (map f (capture_trees es)) h y (omega (arith, long es, length-map (capture_trees es) f))

  -- the same, or that there is none
  pub found : (p : Option Place) → Placed (length es) h p → slice_get (map f (capture_trees es)) h ≡ read (λ i. Some (f i)) None es e p
  found None at = slice_get_past (map f (capture_trees es)) h (omega (arith, long es, length-map (capture_trees es) f))
  found (Some Capture) at = there (omega arith) ∙ ap Some (reads (Some Capture) at)
  found (Some (Event k)) at = there (omega arith) ∙ ap Some (reads (Some (Event k)) at)
  found (Some (Part k p)) at = there (omega (arith, few-parts p)) ∙ ap Some (reads (Some (Part k p)) at)
  found (Some (Value k p)) at = there (omega (arith, few-parts p)) ∙ ap Some (reads (Some (Value k p)) at)

-- no tree of a capture is a String

Textless : List Item → Type 0
Textless [] = Unit {0}
Textless (i ∷ is) = (item_text i ≡ []) × Textless is

text_of : (is : List Item) (h : ℕ) → Textless is → text_at is h ≡ []
unfolding Textless
text_of [] h t = refl
text_of (i ∷ is) zero t = t.0
text_of (i ∷ is) (suc h) t = text_of is h t.1

textless : (es : List BusEvent) → Textless (flat_map event_trees es)
unfolding Textless
textless [] = tt
textless (x ∷ es) = (refl, (refl, (refl, (refl, (refl, (refl, (refl, (refl, (refl, textless es)))))))))

pub no_text : (es : List BusEvent) (h : ℕ) → text_at (capture_trees es) h ≡ []
unfolding Textless
no_text es h = text_of (capture_trees es) h (refl, textless es)

-- how many trees there are, and that none has text
pub ruleset trees = (long, no_text)
