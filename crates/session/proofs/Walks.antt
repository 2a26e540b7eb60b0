-- How a walk over a type goes on, row by row.
use Rattle.std.proofs.Common.{◌≡◌, ℕ, ◌<◌, true, List, length, sym, refl, ap, ◌∙◌, subst, arith}
use Rattle.rows.specs.declared.type_row.TypeRow.{TypeRow}
use Rattle.rows.specs.declared.type_row.TypeRow.TheVariants.{EmptyChoice, EmptySequence, Integer, String, Boolean, Element, AnyElement, Sequence, Choice, Repetition}
use Rattle.rows.specs.TypeRows.{owns}
use Rattle.types.specs.Parts.{row}
use Rattle.types.proofs.Contexts.{PartOf, owns-part, left, right, first, second, repeats}
use Rattle.types.proofs.Longer.{Longer}
use Rattle.typing.specs.declared.fault.TypeFault.{TypeFault}
use Rattle.typing.specs.Kinds.{is_item}
use Rattle.typing.specs.Outcomes.{Progress, Outcome, Ending, goes, stops, Gives}
use Rattle.typing.specs.Typing.{Spot, made, walk, walk_row}
use Rattle.typing.proofs.Steps.{then_goes, then_stops}
use Rattle.typing.proofs.Unfolding.{walk-unfolds}
use Rattle.session.specs.Progress.{WalksOver, Walks}

over_more : {ts us vs : List TypeRow} {r : ℕ} → Longer us vs → WalksOver ts r us → WalksOver ts r vs
over_more {ts} {us} {vs} more over =
    let a = over.long in
    let b = more.long in
    record { there = over.there; lower = over.lower; long = omega arith; same = λ i lt. (let h : i < length us = omega arith in more.same i h) ∙ over.same i lt }

part_over : {ts us : List TypeRow} {r a : ℕ} {w : TypeRow} → WalksOver ts r us → row us r ≡ w → PartOf a w → WalksOver ts a us
part_over {ts} {us} {r} {a} over is own =
    let low = over.lower r a (ap (λ t. owns t a) (sym (over.same r over.there) ∙ is) ∙ owns-part own) in
    let lt = over.there in
    record { there = omega arith; lower = over.lower; long = over.long; same = over.same }

-- an item is walked as an item
by_item : (item : ℕ → Progress → Outcome ℕ) (s : Spot) (part : ℕ → Progress → Outcome ℕ) (r : ℕ) (w : TypeRow) (p : Progress) {e : Ending ℕ} → is_item w ≡ true → Gives (item r p) e → Gives (walk_row s item part r w p) e
by_item item s part r EmptyChoice p i h = cc
by_item item s part r EmptySequence p i h = cc
by_item item s part r Integer p i h = h
by_item item s part r String p i h = h
by_item item s part r Boolean p i h = h
by_item item s part r (Element t c) p i h = h
by_item item s part r (AnyElement c) p i h = h
by_item item s part r (Sequence a b) p i h = cc
by_item item s part r (Choice a b) p i h = cc
by_item item s part r (Repetition a) p i h = cc

-- a row with no parts is walked as an item, or it stays as it is
by_end : (item : ℕ → Progress → Outcome ℕ) (s : Spot) (part : ℕ → Progress → Outcome ℕ) (r : ℕ) (w : TypeRow) (p : Progress) {e : Ending ℕ} → ((a : ℕ) → owns w a ≡ true → ⊥) → Gives (item r p) e → Gives (made s w p) e
    → Gives (walk_row s item part r w p) e
by_end item s part r EmptyChoice p n h m = m
by_end item s part r EmptySequence p n h m = m
by_end item s part r Integer p n h m = h
by_end item s part r String p n h m = h
by_end item s part r Boolean p n h m = h
by_end item s part r (Element t c) p n h m = h
by_end item s part r (AnyElement c) p n h m = h
by_end item s part r (Sequence a b) p n h m = absurd (n a (owns-part (left {a = a} {b = b} refl)))
by_end item s part r (Choice a b) p n h m = absurd (n a (owns-part (first {a = a} {b = b} refl)))
by_end item s part r (Repetition a) p n h m = absurd (n a (owns-part (repeats {a = a} refl)))

module _ {item : List TypeRow → ℕ → Progress → Outcome ℕ} {s : Spot} {r : ℕ} where
  by_kind : {w : TypeRow} {p : Progress} {e : Ending ℕ} → row p.types r ≡ w
      → ((ts : List TypeRow) → WalksOver ts r p.types → Gives (walk_row s (item ts) (walk s (item ts) ts) r w p) e) → Walks item s r p e
  by_kind {w} {p} {e} is h = record {
    gives = λ ts over. (
        let at : row ts r ≡ w = sym (over.same r over.there) ∙ is in
        let unfolds = walk-unfolds s (item ts) {ts = ts} (record { lower = over.lower }) r p ∙ ap (λ t. walk_row s (item ts) (walk s (item ts) ts) r t p) at in
        subst (λ o. Gives o e) (sym unfolds) (h ts over));
  }

  pub both_left : {a b : ℕ} {p : Progress} {f : TypeFault} → row p.types r ≡ Sequence a b → Walks item s a p (stops f) → Walks item s r p (stops f)
  both_left {a} {p = p} is h = by_kind is (λ ts over. then_stops (walk s (item ts) ts a p) _ (h.gives ts (part_over over is (left refl))))

  pub both_right : {a b x : ℕ} {p q : Progress} {f : TypeFault} → row p.types r ≡ Sequence a b → Walks item s a p (goes x q) → Longer p.types q.types → Walks item s b q (stops f) → Walks item s r p (stops f)
  both_right {a} {b} {p = p} {q} is h more k = by_kind is (λ ts over.
      then_goes (walk s (item ts) ts a p) _ (h.gives ts (part_over over is (left refl)))
      (then_stops (walk s (item ts) ts b q) _ (k.gives ts (over_more more (part_over over is (right refl))))))

  pub both_made : {a b x y : ℕ} {p q o : Progress} {e : Ending ℕ} → row p.types r ≡ Sequence a b → Walks item s a p (goes x q) → Longer p.types q.types → Walks item s b q (goes y o) → Gives (made s (Sequence x y) o) e → Walks item s r p e
  both_made {a} {b} {p = p} {q} is h more k m = by_kind is (λ ts over.
      then_goes (walk s (item ts) ts a p) _ (h.gives ts (part_over over is (left refl)))
      (then_goes (walk s (item ts) ts b q) _ (k.gives ts (over_more more (part_over over is (right refl)))) m))

  pub either_left : {a b : ℕ} {p : Progress} {f : TypeFault} → row p.types r ≡ Choice a b → Walks item s a p (stops f) → Walks item s r p (stops f)
  either_left {a} {p = p} is h = by_kind is (λ ts over. then_stops (walk s (item ts) ts a p) _ (h.gives ts (part_over over is (first refl))))

  pub either_right : {a b x : ℕ} {p q : Progress} {f : TypeFault} → row p.types r ≡ Choice a b → Walks item s a p (goes x q) → Longer p.types q.types → Walks item s b q (stops f) → Walks item s r p (stops f)
  either_right {a} {b} {p = p} {q} is h more k = by_kind is (λ ts over.
      then_goes (walk s (item ts) ts a p) _ (h.gives ts (part_over over is (first refl)))
      (then_stops (walk s (item ts) ts b q) _ (k.gives ts (over_more more (part_over over is (second refl))))))

  pub either_made : {a b x y : ℕ} {p q o : Progress} {e : Ending ℕ} → row p.types r ≡ Choice a b → Walks item s a p (goes x q) → Longer p.types q.types → Walks item s b q (goes y o) → Gives (made s (Choice x y) o) e → Walks item s r p e
  either_made {a} {b} {p = p} {q} is h more k m = by_kind is (λ ts over.
      then_goes (walk s (item ts) ts a p) _ (h.gives ts (part_over over is (first refl)))
      (then_goes (walk s (item ts) ts b q) _ (k.gives ts (over_more more (part_over over is (second refl)))) m))

  pub repeated_stops : {a : ℕ} {p : Progress} {f : TypeFault} → row p.types r ≡ Repetition a → Walks item s a p (stops f) → Walks item s r p (stops f)
  repeated_stops {a} {p} is h = by_kind is (λ ts over. then_stops (walk s (item ts) ts a p) _ (h.gives ts (part_over over is (repeats refl))))

  pub repeated_made : {a x : ℕ} {p q : Progress} {e : Ending ℕ} → row p.types r ≡ Repetition a → Walks item s a p (goes x q) → Gives (made s (Repetition x) q) e → Walks item s r p e
  repeated_made {a} {p = p} is h m = by_kind is (λ ts over. then_goes (walk s (item ts) ts a p) _ (h.gives ts (part_over over is (repeats refl))) m)

  pub item_walked : {w : TypeRow} {p : Progress} {e : Ending ℕ} → row p.types r ≡ w → is_item w ≡ true → ((ts : List TypeRow) → WalksOver ts r p.types → Gives (item ts r p) e) → Walks item s r p e
  item_walked {w} {p} is i h = by_kind is (λ ts over. by_item (item ts) s (walk s (item ts) ts) r w p i (h ts over))

  pub end_walked : {w : TypeRow} {p : Progress} {e : Ending ℕ} → row p.types r ≡ w → ((a : ℕ) → owns w a ≡ true → ⊥) → ((ts : List TypeRow) → WalksOver ts r p.types → Gives (item ts r p) e) → Gives (made s w p) e → Walks item s r p e
  end_walked {w} {p} is n h m = by_kind is (λ ts over. by_end (item ts) s (walk s (item ts) ts) r w p n (h ts over) m)

  pub empty_choice_walked : {p : Progress} {e : Ending ℕ} → row p.types r ≡ EmptyChoice → Gives (made s EmptyChoice p) e → Walks item s r p e
  empty_choice_walked is m = by_kind is (λ ts over. m)

  pub empty_sequence_walked : {p : Progress} {e : Ending ℕ} → row p.types r ≡ EmptySequence → Gives (made s EmptySequence p) e → Walks item s r p e
  empty_sequence_walked is m = by_kind is (λ ts over. m)

-- a row that is of none of the other kinds is an item
pub item_of : (w : TypeRow) → (w ≡ EmptyChoice → ⊥) → (w ≡ EmptySequence → ⊥) → ((a b : ℕ) → w ≡ Sequence a b → ⊥) → ((a b : ℕ) → w ≡ Choice a b → ⊥) → ((a : ℕ) → w ≡ Repetition a → ⊥) → is_item w ≡ true
item_of EmptyChoice n m s k l = absurd (n refl)
item_of EmptySequence n m s k l = absurd (m refl)
item_of Integer n m s k l = refl
item_of String n m s k l = refl
item_of Boolean n m s k l = refl
item_of (Element t c) n m s k l = refl
item_of (AnyElement c) n m s k l = refl
item_of (Sequence a b) n m s k l = absurd (s a b refl)
item_of (Choice a b) n m s k l = absurd (k a b refl)
item_of (Repetition a) n m s k l = absurd (l a refl)
