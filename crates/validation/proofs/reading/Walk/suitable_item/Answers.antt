use Rattle.std.proofs.Common.{◌≡◌, ℕ, ◌<◌, true, false, List, length, Some, None, Option, subst, rules, arith}
use borrow.Author.Tests.{tests}
use Rattle.std.specs.Option.{MatchOption}
use Rattle.std.specs.List.{AllWithin, HoldsAt}
use Rattle.std.proofs.lemmas.Bool.{both_ways}
use Rattle.std.proofs.lemmas.Iterator.{first_from_find}
use Rattle.std.proofs.lemmas.Iterator.Consumers.{YieldsList-from_first}
use Rattle.forest.specs.Stores.{kind_number}
use Rattle.forest.specs.declared.kind.Kind.{Kind}
use Rattle.bits.specs.Bits.{related, row_items}
use Rattle.bits.specs.Items.{items_left}
use Rattle.bits.proofs.RowItems.{each_item, some_item}
use Rattle.types.specs.Parts.{row}
use Rattle.types.specs.Determinism.{label}
use Rattle.positions.specs.declared.tables.Positions.{Positions}
use Rattle.positions.specs.Built.{types_of}
use Rattle.validation.specs.Matching.{suits}
use Rattle.validation.specs.Walking.{Suits}
use Rattle.validation.proofs.reading.Walk.suitable_item.Goals as goal

module _ (p : Positions) (place : ℕ) (k : Kind) (t : ℕ) where
  abbrev Yes : ℕ → Type 0
  Yes m = suits (label (row (types_of p) m)) (kind_number k) t ≡ true

  abbrev No : ℕ → Type 0
  No m = suits (label (row (types_of p) m)) (kind_number k) t ≡ false

  abbrev all : List ℕ
  all = row_items p.whole.next.words place 0

  answered : (r : Option ℕ) → MatchOption r (AllWithin No all 0 (length all)) (λ x. Yes x × (i : ℕ) × (i < length all) × HoldsAt (λ y. y ≡ x) all i × AllWithin No all 0 i)
      → MatchOption r ((m : ℕ) → Suits p place k t m → ⊥) (Suits p place k t)
  answered None h = λ m a. both_ways _ (each_item p.whole.next.words place 0 No h m (omega arith) a.inside a.next) a.fits
  answered (Some x) h =
      let s = some_item p.whole.next.words place 0 (λ y. y ≡ x) (h.1, (h.2, h.3)) in
      let below : x < 512 = subst (λ z. z < 512) s.1.3 s.1.1 in
      record { inside = below; next = subst (λ z. related p.whole.next.words place z ≡ true) s.1.3 s.1.2; fits = h.0 }

pub returns : goal.returns
returns g c =
    let p = c.args.self.now.positions.now in
    let place = c.args.place in
    answered p place c.args.kind c.args.tag c.find.result
    (first_from_find c.find.new.self _ c.find.result (Yes p place c.args.kind c.args.tag) (No p place c.args.kind c.args.tag) c.find.ensures.ran
    (YieldsList-from_first (λ x. x) items_left (row_items p.whole.next.words place 0) c.items.ensures) (λ x q k. search (rules, tests)) (λ x q k. search (rules, tests)))
