-- A walk along a forest, from place to place of a one-way root, by the tables of positions.
use Rattle.std.proofs.Common.{◌≡◌, ℕ, ◌+◌, ◌<◌, ◌≤◌, true, List, [], ◌∷◌, length, get_or, drop, Some, None, sym, refl, ap, ◌∙◌, subst, arith}
use Rattle.std.proofs.lemmas.List.{drop_more, drop_all}
use Rattle.forest.specs.Forests.{Forest, none, Item, scalar, element, before, forest}
use Rattle.forest.specs.Stores.{nothing}
use Rattle.forest.proofs.Legal.{legal}
use Rattle.types.specs.Parts.{row, content, Root, Lawful}
use Rattle.types.specs.Belonging.{Belongs}
use Rattle.types.specs.Places.{Place, start, behind, type_of, Next}
use Rattle.types.specs.Tables.{Exactly}
use Rattle.types.proofs.OfTable.{table-lawful}
use Rattle.types.proofs.Owed.{Takes, Owed, to_owed, from_owed}
use Rattle.types.proofs.Standing.{Stands, on-start}
use Rattle.types.proofs.Complete.{Heads, Declared, takes_heads}
use Rattle.types.proofs.Walked.{past, one-heads, leaf-refused, node-refused, ends-owed, owed_ends}
use Rattle.positions.specs.declared.tables.Positions.{Positions}
use Rattle.positions.specs.Below.{FreeBelow}
use Rattle.positions.specs.Built.{types_of, Built, ends_at}
use Rattle.positions.proofs.Closing.{ends_is}
use Rattle.positions.proofs.Reading.{At, at_start, at_item, next-within, next_small, read_next, next-read}
use Rattle.validation.specs.Walking.{OneWayTypes, SuitsItem, Stepped, over, no_row, outside}
use Rattle.validation.proofs.Heading.{heads, headed, takes, inside}

-- a walk along the forest `whole` has come to a place, and `rest` is left: it belongs there exactly if the whole belongs to the root
pub record Walking (p : Positions) (root : ℕ) (whole rest : Forest) (place : ℕ) : Type 0 where
  pub q : Place
  pub at : At (types_of p) root q place
  pub left : List ℕ
  pub stands : Stands (types_of p) q left
  pub there : Belongs (types_of p) root whole → Owed (types_of p) left rest
  pub back : Owed (types_of p) left rest → Belongs (types_of p) root whole

pub walk_start : (p : Positions) (root : ℕ) (f : Forest) → Walking p root f f root
walk_start p root f = record { q = start root; at = at_start; left = root ∷ []; stands = on-start; there = λ b. to_owed b; back = λ d. from_owed d }

pub root_small : (p : Positions) (root : ℕ) → Root (types_of p) root → root < 512
root_small p root r = let f = (table-lawful p.types).few in let t = r.there in omega arith

-- the next item of a list, and the rest
pub walk_next : {p : Positions} {root place : ℕ} {w : Forest} (is : List Item) (n : ℕ) (x : Item) → n < length is → x ≡ get_or is n nothing → Walking p root w (forest (drop n is)) place → Walking p root w (before x (forest (drop (n + 1) is))) place
walk_next {p} {root} {place} {w} is n x lt e k = subst (λ f. Walking p root w f place) (ap forest (drop_more is n nothing lt) ∙ ap (λ y. before y (forest (drop (n + 1) is))) (sym e)) k

module _ (p : Positions) (one_way : OneWayTypes p) (root : ℕ) (r : Root (types_of p) root) where
  law : Lawful (types_of p)
  law = table-lawful p.types

  built : Built p
  built = one_way.built

  small : root < 512
  small = root_small p root r

  free : FreeBelow (types_of p) (length (types_of p)) root
  free s lt = r.unowned s

  at_type : {q : Place} {at : ℕ} → At (types_of p) root q at → type_of q ≡ root
  at_type at_start = refl
  at_type (at_item w) = refl

  good : {q : Place} {at : ℕ} → At (types_of p) root q at → Declared (types_of p) (length (types_of p)) (type_of q)
  good at_start = record { low = r.there; root = r }
  good (at_item w) = record { low = r.there; root = r }

  next_of : {q : Place} {at m : ℕ} (i : Item) → At (types_of p) root q at → SuitsItem p at i m → Next (types_of p) q m
  next_of i t s = read_next law built.whole r.there small free t s.inside s.next

  suits_of : {q : Place} {at m : ℕ} (i : Item) (f : Forest) → At (types_of p) root q at → Next (types_of p) q m → Heads (types_of p) m (before i f) → SuitsItem p at i m
  suits_of i f t x h = record { inside = next_small law built.whole r.there small free t x; next = next-read law built.whole r.there small free t x; fits = headed i f h }

  -- one item on
  pub walk_on : {w : Forest} {at next : ℕ} (i : Item) (f : Forest) → legal i ≡ true → Walking p root w (before i f) at → Stepped p at i (Some next) → Walking p root w f next
  walk_on {w} i f l k (over {m} e s b) =
      let x = next_of i k.at s in
      let z = past one_way.checked (good k.at) k.stands x (takes i f l (heads i f s.fits) b) in
      subst (Walking p root w f) (sym e)
      record {
        q = behind root m;
        at = at_item (next-within law built.whole r.there small free k.at x);
        left = z.left;
        stands = subst (λ c. Stands (types_of p) (behind c m) z.left) (at_type k.at) z.stands;
        there = λ y. z.rest (k.there y);
        back = λ d. k.back (z.whole d);
      }

  -- no item row takes the next item
  refused : {q : Place} {left : List ℕ} (i : Item) (f : Forest) → Stands (types_of p) q left → ((m : ℕ) → Next (types_of p) q m → Takes (types_of p) m (before i f) f → ⊥) → Owed (types_of p) left (before i f) → ⊥
  refused (scalar s) f st no_one d = leaf-refused one_way.checked st no_one d
  refused (element t x) f st no_one d = node-refused one_way.checked st no_one d

  pub walk_stuck : {w : Forest} {at : ℕ} (i : Item) (f : Forest) → Walking p root w (before i f) at → Stepped p at i None → Belongs (types_of p) root w → ⊥
  walk_stuck i f k (no_row no_one) y = refused i f k.stands (λ m x t. no_one m (suits_of i f k.at x (takes_heads t))) (k.there y)
  walk_stuck i f k (outside {m} {c} s e not_inside) y =
      refused i f k.stands
      (λ n x t.
      let same = one-heads one_way.checked (good k.at) k.stands (next_of i k.at s) x (heads i f s.fits) (takes_heads t) in
      not_inside (inside i f t (sym (ap (λ z. content (row (types_of p) z)) same) ∙ e)))
      (k.there y)

  walk_end : {w : Forest} {at : ℕ} → Walking p root w none at → Exactly (ends_at p root at) (Belongs (types_of p) root w)
  walk_end k = (λ t. k.back (ends-owed one_way.checked k.stands ((ends_is p built small k.at).0 t)), λ y. (ends_is p built small k.at).1 (owed_ends one_way.checked k.stands (k.there y)))

  -- nothing of a list is left
  pub walk_over : {w : Forest} {at : ℕ} (is : List Item) (n : ℕ) → length is ≤ n → Walking p root w (forest (drop n is)) at → Exactly (ends_at p root at) (Belongs (types_of p) root w)
  walk_over {w} {at} is n past k = walk_end (subst (λ f. Walking p root w f at) (ap forest (drop_all n is past)) k)
