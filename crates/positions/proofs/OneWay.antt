-- A root is one-way exactly if the items at each of its places are clear.
use Rattle.std.proofs.Common.{◌≡◌, ℕ, ◌+◌, ◌<◌, ◌≤◌, true, List, length, refl, ap, ◌∙◌, subst, arith}
use Rattle.rows.specs.declared.type_row.TypeRow.{TypeRow}
use Rattle.types.specs.Parts.{row, Root, Within, itself}
use Rattle.types.specs.Determinism.{label, First, Last, MeetsAt, in_sequence, in_repetition, Follows, Deterministic}
use Rattle.types.specs.Determinism.Last.{item, of_right, before_right, of_first, of_second, of_part}
use Rattle.types.proofs.OfTable.{table-lawful}
use Rattle.types.proofs.Standing.{first-label, meets-first}
use Rattle.positions.specs.declared.tables.Positions.{Positions}
use Rattle.bits.specs.Bits.{related}
use Rattle.positions.specs.Below.{MeetsBelow}
use Rattle.positions.specs.Built.{Built, types_of, top}
use Rattle.positions.specs.Filling.{Clear, ClearItems}
use Rattle.types.proofs.Exact.{known, shown}
use Rattle.positions.proofs.Reading.{item-there, one-root}
use Rattle.positions.proofs.Items.{there}

-- ITEMS ARE ROWS OF THE TABLE

first-in : {ts : List TypeRow} {r n : ℕ} → First ts r n → n < length ts
first-in {ts} {n = n} h = item-there ts n (first-label h).1

last_in : {ts : List TypeRow} {r n : ℕ} → Last ts r n → n < length ts
last_in {ts} {n = n} (item {l = l} e i) = item-there ts n {l = l} (ap (λ x. label (row ts x)) i ∙ e)
last_in (of_right e h) = last_in h
last_in (before_right e z h) = last_in h
last_in (of_first e h) = last_in h
last_in (of_second e h) = last_in h
last_in (of_part e h) = last_in h

meets-there : {ts : List TypeRow} {s m n : ℕ} → MeetsAt ts s m n → s < length ts
meets-there {ts} {s} (in_sequence e l f) = there ts s (λ i. let z : ◌≡◌ {A = ℕ} 0 1 = cc in omega arith)
meets-there {ts} {s} (in_repetition e l f) = there ts s (λ i. let z : ◌≡◌ {A = ℕ} 0 1 = cc in omega arith)

meets-from : {ts : List TypeRow} {s m n : ℕ} → MeetsAt ts s m n → m < length ts
meets-from (in_sequence e l f) = last_in l
meets-from (in_repetition e l f) = last_in l

follows-below : {ts : List TypeRow} {m n : ℕ} → Follows ts m n → MeetsBelow ts (length ts) m n
follows-below h = (h.0, (meets-there h.1, h.1))

-- THE TABLES

module _ (p : Positions) (b : Built p) where
  abbrev ts : List TypeRow
  ts = types_of p

  abbrev next : List ℕ
  next = p.whole.next.words

  few : length (types_of p) ≤ 512
  few = (table-lawful p.types).few

  -- the top of a row is the root that it is within
  pub is-top : (r q : ℕ) → q < length ts → Root ts r → Within ts r q → top p q ≡ r
  is-top r q l x w = one-root (table-lawful p.types) (b.top_root q l) x (b.top_within q l) w

  pub of_top : (r q : ℕ) → q < length ts → top p q ≡ r → Within ts r q
  of_top r q l e = subst (λ z. Within ts z q) e (b.top_within q l)

  pub root_of : (r : ℕ) → r < length ts → top p r ≡ r → Root ts r
  root_of r l e = subst (Root ts) e (b.top_root r l)

  -- a root is its own top
  pub at_itself : (r : ℕ) → Root ts r → top p r ≡ r
  at_itself r x = is-top r r x.there x (itself refl)

  first_bit : (r n : ℕ) → r < length ts → First ts r n → related next r n ≡ true
  first_bit r n l h = let a = few in let i = first-in h in shown (b.whole.firsts r n (omega arith) (omega arith)) h

  follow_bit : (m n : ℕ) → Follows ts m n → related next (512 + m) n ≡ true
  follow_bit m n h = let a = few in let i = first-in (meets-first h.1).1 in let j = meets-from h.1 in shown (b.whole.follows m n (omega arith) (omega arith)) (follows-below h)

  bit-follow : (m n : ℕ) → m < length ts → n < 512 → related next (512 + m) n ≡ true → Follows ts m n
  bit-follow m n l i e = let a = few in let h = known (b.whole.follows m n (omega arith) i) e in (h.0, h.1.1)

  pub one_way_of : (r : ℕ) → Root ts r → Clear ts next r → ClearItems ts p.tops next r → Deterministic ts r
  one_way_of r x c d = let a = few in record {
    firsts = λ m n f g. (let i = first-in f in let j = first-in g in c m n (omega arith) (omega arith) (first_bit r m x.there f) (first_bit r n x.there g));
    follows = λ q m n w f g. (
        let l = meets-from f.1 in
        let i = first-in (meets-first f.1).1 in
        let j = first-in (meets-first g.1).1 in
        d q l (is-top r q l x w) m n (omega arith) (omega arith) (follow_bit q m f) (follow_bit q n g));
  }

  pub firsts-of : (r : ℕ) → Root ts r → Deterministic ts r → Clear ts next r
  firsts-of r x h m n l k e f = let a = few in let i = x.there in h.firsts m n (known (b.whole.firsts r m (omega arith) l) e) (known (b.whole.firsts r n (omega arith) k) f)

  pub items_of : (r : ℕ) → Deterministic ts r → ClearItems ts p.tops next r
  items_of r h q l e m n i j x y = h.follows q m n (of_top r q l e) (bit-follow q m l i x) (bit-follow q n l j y)
