-- Where the children of a capture's trees stand.
use Rattle.std.proofs.Common.{◌≡◌, ℕ, zero, suc, ◌+◌, ◌*◌, ◌<◌, ◌≤◌, List, [], map, length, get_or, Some, Option, sym, refl, ap, ◌∙◌, arith}
use lib.ListN.{length-map}
use Rattle.std.proofs.lemmas.List.{get_or-map}
use Rattle.forest.proofs.Items.{items-forest}
use Rattle.forest.specs.Forests.{Item, items, forest}
use Rattle.forest.specs.Stores.{item_children, children_at, Child}
use Rattle.capture.specs.declared.event.Event.{Event as BusEvent}
use Rattle.capture.specs.declared.place.Part.{Part as PartName}
use Rattle.capture.specs.declared.place.Part.TheVariants.{Time, Queue, Note, Velocity}
use Rattle.capture.specs.declared.place.Place.{Place}
use Rattle.capture.specs.declared.place.Place.TheVariants.{Capture, Event, Part}
use Rattle.capture.specs.Events.{event_tree, capture_trees}
use Rattle.capture.specs.Places.{Placed}
use Rattle.capture.proofs.Standing.{blank, read, reads, long, few-parts, at_event, at_part, at_value}

pub event_count : (es : List BusEvent) → length (items (forest (map event_tree es))) ≡ length es
event_count es = ap length (items-forest (map event_tree es)) ∙ length-map es event_tree

pub no_child : (ts : List Item) (h j : ℕ) → length (children_at ts h) ≤ j → Child ts h j 0
no_child ts h j past = record { there = λ lt. absurd (omega arith); tree = λ d lt. absurd (omega arith); absent = λ _. refl }

-- r is a handle of child j, where cs are the children
a_child : (ts cs : List Item) (h j r : ℕ) → children_at ts h ≡ cs → j < length cs → r < length ts → ((d : Item) → get_or ts r d ≡ get_or cs j d) → Child ts h j r
a_child ts cs h j r are lt there is =
    record {
      there = λ _. there;
      tree = λ d _. is d ∙ sym (ap (λ xs. get_or xs j d) are);
      absent = λ past. absurd (omega (arith, ap length are));
    }

part_of_event : (es : List BusEvent) (h k j r : ℕ) → Placed (length es) h (Some (Event k)) → j < 4 → r ≡ h + 1 + 2 * j → (d : Item) → get_or (capture_trees es) r d ≡ get_or (item_children (event_tree (get_or es k blank))) j d
part_of_event es h k zero r at lt is d = at_part es k r blank d at.0 Time (omega arith)
part_of_event es h k (suc zero) r at lt is d = at_part es k r blank d at.0 Queue (omega arith)
part_of_event es h k (suc (suc zero)) r at lt is d = at_part es k r blank d at.0 Note (omega arith)
part_of_event es h k (suc (suc (suc zero))) r at lt is d = at_part es k r blank d at.0 Velocity (omega arith)
part_of_event es h k (suc (suc (suc (suc j)))) r at lt is d = absurd (omega arith)

module _ (es : List BusEvent) (h : ℕ) where
  abbrev children-of : Option Place → List Item
  children-of = read item_children [] es blank

  children : (p : Option Place) → Placed (length es) h p → children_at (capture_trees es) h ≡ children-of p
  children = reads item_children [] es h blank

  pub how_many : (p : Option Place) → Placed (length es) h p → length (children_at (capture_trees es) h) ≡ length (children-of p)
  how_many p at = ap length (children p at)

  pub child_of_capture : (j r : ℕ) → Placed (length es) h (Some Capture) → j < length es → r ≡ 1 + 9 * j → Child (capture_trees es) h j r
  child_of_capture j r at lt is =
      a_child (capture_trees es) (children-of (Some Capture)) h j r (children (Some Capture) at) (omega (arith, event_count es)) (omega (arith, long es))
      (λ d. at_event es j r blank d lt is ∙ sym (get_or-map event_tree es j blank d lt) ∙ sym (ap (λ xs. get_or xs j d) (items-forest (map event_tree es))))

  pub child_of_event : (j k r : ℕ) → Placed (length es) h (Some (Event k)) → j < 4 → r ≡ h + 1 + 2 * j → Child (capture_trees es) h j r
  child_of_event j k r at lt is =
      a_child (capture_trees es) (children-of (Some (Event k))) h j r (children (Some (Event k)) at) lt (omega (arith, long es)) (part_of_event es h k j r at lt is)

  pub child_of_part : (j k r : ℕ) (p : PartName) → Placed (length es) h (Some (Part k p)) → j < 1 → r ≡ h + 1 → Child (capture_trees es) h j r
  child_of_part j k r p at lt is =
      let first : j ≡ 0 = omega arith in
      a_child (capture_trees es) (children-of (Some (Part k p))) h j r (children (Some (Part k p)) at) lt (omega (arith, long es, few-parts p))
      (λ d. at_value es k r blank d at.0 p (omega arith) ∙ sym (ap (λ n. get_or (children-of (Some (Part k p))) n d) first))
