-- How a copy of a type goes on, row by row.
use Rattle.std.proofs.Common.{◌≡◌, ℕ, ◌<◌, true, List, length, get_or, Ok, Err, Result, sym, refl, ap, ◌∙◌, subst, arith}
use Rattle.std.proofs.lemmas.List.{get_or-take}
use Rattle.std.proofs.lemmas.Bool.{false≢true}
use Rattle.rows.specs.declared.type_row.TypeRow.{TypeRow}
use Rattle.rows.specs.declared.type_row.TypeRow.TheVariants.{EmptyChoice, EmptySequence, Integer, String, Boolean, Element, AnyElement, Sequence, Choice, Repetition}
use Rattle.rows.specs.TypeRows.{owns}
use Rattle.types.specs.Parts.{row}
use Rattle.types.proofs.Contexts.{PartOf, owns-part}
use Rattle.types.proofs.Longer.{Longer}
use Rattle.typing.specs.declared.fault.TypeFault.{TypeFault}
use Rattle.typing.specs.Outcomes.{Gives, ending_of}
use Rattle.typing.specs.Typing.{made}
use Rattle.session.specs.declared.counts.Counts.{Counts}
use Rattle.session.specs.declared.checking.spot.Spot.{Spot as SpotHere}
use Rattle.session.specs.Progress.{spot_of, table_of, progress_of, Grows, Walkable, Makes, Copies}
use Rattle.session.proofs.Making.{table-long, row-same}
use Rattle.session.proofs.Walks.{both_left, both_right, both_made, either_left, either_right, either_made, repeated_stops, repeated_made, end_walked}

-- WHAT IS THERE STAYS

pub longer : {rows after : List TypeRow} {c d : Counts} → length rows ≡ 512 → length after ≡ 512 → Grows rows c after d → Longer (table_of rows c) (table_of after d)
longer {rows} {after} {c} {d} l m h =
    let a = table-long rows c l in
    let b = table-long after d m in
    let n = h.more in
    record { long = omega arith; same = λ i lt. row-same h i (omega arith) }

-- what is read at a place of the array is the row of the table
pub reads : (rows : List TypeRow) (c : Counts) (r : ℕ) {w : TypeRow} → r < c.all → get_or rows r EmptyChoice ≡ w → row (table_of rows c) r ≡ w
reads rows c r lt e = get_or-take c.all rows r EmptyChoice lt ∙ e

-- a part of a row that can be walked can be walked
pub part_walkable : {rows : List TypeRow} {c : Counts} {r a : ℕ} {w : TypeRow} → Walkable rows c r → row (table_of rows c) r ≡ w → PartOf a w → Walkable rows c a × (a < r)
part_walkable {rows} {c} {r} {a} h is own =
    let low : a < r = h.lower r a (omega arith) (ap (λ t. owns t a) is ∙ owns-part own) in
    let there = h.there in
    (record { there = omega arith; lower = λ i p le o. h.lower i p (omega arith) o }, low)

pub walkable_on : {rows after : List TypeRow} {c d : Counts} {r : ℕ} → Grows rows c after d → Walkable rows c r → Walkable after d r
walkable_on {rows} {after} {c} {d} {r} g h =
    let n = g.more in
    let there = h.there in
    record { there = omega arith; lower = λ i p le o. h.lower i p le (ap (λ t. owns t p) (sym (row-same g i (omega arith))) ∙ o) }

-- a row that is of none of the kinds with parts owns none
pub no_parts : (w : TypeRow) → ((a b : ℕ) → w ≡ Sequence a b → ⊥) → ((a b : ℕ) → w ≡ Choice a b → ⊥) → ((a : ℕ) → w ≡ Repetition a → ⊥) → (p : ℕ) → owns w p ≡ true → ⊥
no_parts EmptyChoice s k m p e = false≢true e
no_parts EmptySequence s k m p e = false≢true e
no_parts Integer s k m p e = false≢true e
no_parts String s k m p e = false≢true e
no_parts Boolean s k m p e = false≢true e
no_parts (Element t c) s k m p e = false≢true e
no_parts (AnyElement c) s k m p e = false≢true e
no_parts (Sequence a b) s k m p e = s a b refl
no_parts (Choice a b) s k m p e = k a b refl
no_parts (Repetition a) s k m p e = m a refl

-- COPIES

module _ {s : SpotHere} {r : ℕ} {rows after : List TypeRow} {c d : Counts} {result : Result ℕ TypeFault} where
  pub both_not : {a b : ℕ} {f : TypeFault} → row (table_of rows c) r ≡ Sequence a b → Copies s a rows c (Err f) after d → result ≡ Err f → Copies s r rows c result after d
  both_not is h e = subst (λ z. Copies s r rows c z after d) (sym e) (record { walks = λ error. both_left is (h.walks error) })

  pub both_half : {mid : List TypeRow} {m : Counts} {a b x : ℕ} {f : TypeFault} → row (table_of rows c) r ≡ Sequence a b → Copies s a rows c (Ok x) mid m → Longer (table_of rows c) (table_of mid m)
      → Copies s b mid m (Err f) after d → result ≡ Err f → Copies s r rows c result after d
  both_half is h more k e = subst (λ z. Copies s r rows c z after d) (sym e) (record { walks = λ error. both_right is (h.walks error) more (k.walks error) })

  pub both_copied : {mid last : List TypeRow} {m n : Counts} {a b x y : ℕ} → row (table_of rows c) r ≡ Sequence a b → Copies s a rows c (Ok x) mid m → Longer (table_of rows c) (table_of mid m)
      → Copies s b mid m (Ok y) last n → Makes s (Sequence x y) last n result after d → Copies s r rows c result after d
  both_copied is h more k l = record { walks = λ error. both_made is (h.walks error) more (k.walks error) (l.gives error) }

  pub either_not : {a b : ℕ} {f : TypeFault} → row (table_of rows c) r ≡ Choice a b → Copies s a rows c (Err f) after d → result ≡ Err f → Copies s r rows c result after d
  either_not is h e = subst (λ z. Copies s r rows c z after d) (sym e) (record { walks = λ error. either_left is (h.walks error) })

  pub either_half : {mid : List TypeRow} {m : Counts} {a b x : ℕ} {f : TypeFault} → row (table_of rows c) r ≡ Choice a b → Copies s a rows c (Ok x) mid m → Longer (table_of rows c) (table_of mid m)
      → Copies s b mid m (Err f) after d → result ≡ Err f → Copies s r rows c result after d
  either_half is h more k e = subst (λ z. Copies s r rows c z after d) (sym e) (record { walks = λ error. either_right is (h.walks error) more (k.walks error) })

  pub either_copied : {mid last : List TypeRow} {m n : Counts} {a b x y : ℕ} → row (table_of rows c) r ≡ Choice a b → Copies s a rows c (Ok x) mid m → Longer (table_of rows c) (table_of mid m)
      → Copies s b mid m (Ok y) last n → Makes s (Choice x y) last n result after d → Copies s r rows c result after d
  either_copied is h more k l = record { walks = λ error. either_made is (h.walks error) more (k.walks error) (l.gives error) }

  pub repeated_not : {a : ℕ} {f : TypeFault} → row (table_of rows c) r ≡ Repetition a → Copies s a rows c (Err f) after d → result ≡ Err f → Copies s r rows c result after d
  repeated_not is h e = subst (λ z. Copies s r rows c z after d) (sym e) (record { walks = λ error. repeated_stops is (h.walks error) })

  pub repeated_copied : {mid : List TypeRow} {m : Counts} {a x : ℕ} → row (table_of rows c) r ≡ Repetition a → Copies s a rows c (Ok x) mid m → Makes s (Repetition x) mid m result after d → Copies s r rows c result after d
  repeated_copied is h l = record { walks = λ error. repeated_made is (h.walks error) (l.gives error) }

  -- a row with no parts
  pub single_copied : {w : TypeRow} → row (table_of rows c) r ≡ w → ((a : ℕ) → owns w a ≡ true → ⊥) → Makes s w rows c result after d → Copies s r rows c result after d
  single_copied {w} is none l = record { walks = λ error. end_walked is none (λ ts over. subst (λ t. Gives (made (spot_of s) t (progress_of rows c error)) (ending_of result (progress_of after d error))) (sym is ∙ over.same r over.there) (l.gives error)) (l.gives error) }
