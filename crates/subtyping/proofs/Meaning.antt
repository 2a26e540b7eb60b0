-- What a search over pairs of numbers says of two types.
use Rattle.std.proofs.Common.{◌≡◌, ℕ, ◌+◌, ◌*◌, ◌/◌, ◌%◌, ◌<◌, ◌≤◌, Bool, true, false, cond, T, ltb, List, length, sym, refl, ap, ◌∙◌, subst, arith}
use Rattle.std.proofs.lemmas.Bool.{lt-ltb, le-ltb}
use Rattle.rows.specs.declared.type_row.TypeRow.{TypeRow}
use Rattle.rows.specs.TypeRows.{owns}
use Rattle.types.specs.Parts.{row, Root, Lawful, Within, itself}
use Rattle.types.specs.Belonging.{Subtype}
use Rattle.types.specs.Places.{Place, start, behind, type_of, Next, Ends, Useful, covers, Reach, r_start, r_on, r_in, Checked}
use Rattle.types.specs.Tables.{Exactly}
use Rattle.types.proofs.Exact.{known, shown}
use Rattle.types.proofs.OfTable.{table-lawful}
use Rattle.types.proofs.Labels.{covers-overlaps}
use Rattle.types.proofs.Sound.{Answer, closed-subtype}
use Rattle.types.proofs.Complete.{subtype_simulates}
use Rattle.positions.specs.declared.tables.Positions.{Positions}
use Rattle.positions.specs.declared.moves.Moves.{Moves}
use Rattle.positions.specs.Below.{FreeBelow}
use Rattle.positions.specs.Built.{types_of, top, ends_at, Built}
use Rattle.positions.specs.Tables.{MovesBelow}
use Rattle.positions.proofs.Closing.{ends_is}
use Rattle.positions.proofs.Reading.{within_low, one-root, At, at_start, at_item, next-within, next_small, read_next, next-read, read_useful, useful-live, useful-alive}
use Rattle.subtyping.specs.declared.pairs.Pairs.{Pairs}
use Rattle.subtyping.specs.Worklist.{pair, Visited}
use Rattle.subtyping.specs.Comparison.{behind_item, moves_at, right_place, ends_left, ends_right, ends_alike, Goes, Answers, Leads, on, into, Steps, step, Passes, Fails, no_end, no_answer, Reached, first, more, Verdict, alike, unlike}

-- numbers of pairs

quotient : (x left right : ℕ) → right < 512 → x ≡ pair left right → x / 512 ≡ left
quotient x left right lt e = omega arith

remainder : (x left right : ℕ) → right < 512 → x ≡ pair left right → x % 512 ≡ right
remainder x left right lt e = omega arith

row-start : (a : ℕ) → a < 512 → (1024 + a) % 1024 < 512
row-start a lt = omega arith

item-place : (left n : ℕ) → n < 512 → 512 ≤ behind_item left n % 1024
item-place left n lt = omega arith

not-true : {b : Bool} → b ≡ false → T b → ⊥
not-true e t = subst T e t

-- a type on the left: any root in the whole table, or the row asked about by itself
data Context (ts : List TypeRow) (a : ℕ) : ℕ → ℕ → Type 0 where
  in_whole : {base c : ℕ} → base ≡ 0 → Root ts c → Context ts a base c
  in_row : {base c : ℕ} → base ≡ 1024 → c ≡ a → Context ts a base c

-- the place of a number on the left
data LeftAt (ts : List TypeRow) (a left : ℕ) : Place → Type 0 where
  left_at : {base c at : ℕ} {q : Place} → Context ts a base c → At ts c q at → left ≡ base + at → LeftAt ts a left q

-- the place of a row on the right
data RightAt (ts : List TypeRow) (left right : ℕ) : Place → Type 0 where
  right_start : Root ts right → left % 1024 < 512 → RightAt ts left right (start right)
  right_item : {c : ℕ} → Root ts c → Within ts c right → 512 ≤ left % 1024 → RightAt ts left right (behind c right)

at_type : {ts : List TypeRow} {c at : ℕ} {q : Place} → At ts c q at → type_of q ≡ c
at_type at_start = refl
at_type (at_item w) = refl

module _ (p : Positions) (l : Moves) (a : ℕ) (built : Built p) (local : MovesBelow (types_of p) (a + 1) l) (there : a < length (types_of p)) where
  law : Lawful (types_of p)
  law = table-lawful p.types

  root_small : {c : ℕ} → Root (types_of p) c → c < 512
  root_small r = let f = law.few in let t = r.there in omega arith

  root_free : {c : ℕ} → Root (types_of p) c → FreeBelow (types_of p) (length (types_of p)) c
  root_free r s lt = r.unowned s

  row-free : FreeBelow (types_of p) (a + 1) a
  row-free s lt = go (owns (row (types_of p) s) a) refl
    where
      go : (b : Bool) → owns (row (types_of p) s) a ≡ b → b ≡ false
      go false e = refl
      go true e = let k = law.lower s a e in absurd (omega arith)

  at_small : {c at : ℕ} {q : Place} → At (types_of p) c q at → c < 512 → at < 1024
  at_small at_start lt = omega arith
  at_small (at_item w) lt = let k = within_low law w in omega arith

  -- the table of moves that a type on the left is read in
  record Readable (base c : ℕ) : Type 0 where
    m : Moves
    end : ℕ
    below : MovesBelow (types_of p) end m
    low : c < end
    small : c < 512
    free : FreeBelow (types_of p) end c
    moves : (at : ℕ) → at < 1024 → moves_at p l (base + at) ≡ m
    rest : (at : ℕ) → at < 1024 → (base + at) % 1024 ≡ at

  readable : {base c : ℕ} → Context (types_of p) a base c → Readable base c
  readable {base} {c} (in_whole b r) = record {
    m = p.whole;
    end = length (types_of p);
    below = built.whole;
    low = r.there;
    small = root_small r;
    free = root_free r;
    moves = λ at lt. ap (λ (t : Bool). cond t p.whole l) (lt-ltb (base + at) 1024 (omega arith));
    rest = λ at lt. omega arith;
  }
  readable {base} {c} (in_row b h) = record {
    m = l;
    end = a + 1;
    below = local;
    low = omega arith;
    small = (let f = law.few in omega arith);
    free = subst (FreeBelow (types_of p) (a + 1)) (sym h) row-free;
    moves = λ at lt. ap (λ (t : Bool). cond t p.whole l) (le-ltb (base + at) 1024 (omega arith));
    rest = λ at lt. omega arith;
  }

  -- ITEMS ON THE LEFT

  goes_next : {left n : ℕ} {q : Place} → LeftAt (types_of p) a left q → Goes p (moves_at p l left) (left % 1024) n → Next (types_of p) q n × Useful (types_of p) (type_of q) n
  goes_next {left} {n} {q} (left_at {base} {c} {at} k t e) g =
      let r = readable k in
      let s = at_small t r.small in
      let h = subst (λ z. Goes p z at n) (ap (moves_at p l) e ∙ r.moves at s) (subst (λ z. Goes p (moves_at p l left) z n) (ap (λ z. z % 1024) e ∙ r.rest at s) g) in
      let x = read_next law r.below r.low r.small r.free t h.inside h.next in
      let w = next-within law r.below r.low r.small r.free t x in
      let u = read_useful law r.below r.low r.small r.free w (known (built.alive n) h.alive) h.live in
      (x, subst (λ z. Useful (types_of p) z n) (sym (at_type t)) u)

  next-goes : {left n : ℕ} {q : Place} → LeftAt (types_of p) a left q → Next (types_of p) q n → Useful (types_of p) (type_of q) n → Goes p (moves_at p l left) (left % 1024) n
  next-goes {left} {n} {q} (left_at {base} {c} {at} k t e) x u =
      let r = readable k in
      let s = at_small t r.small in
      let v = subst (λ z. Useful (types_of p) z n) (at_type t) u in
      let h : Goes p r.m at n = record {
        inside = next_small law r.below r.low r.small r.free t x;
        next = next-read law r.below r.low r.small r.free t x;
        live = useful-live law r.below r.low r.small r.free v;
        alive = shown (built.alive n) (useful-alive v);
      } in
      subst (λ z. Goes p (moves_at p l left) z n) (sym (ap (λ z. z % 1024) e ∙ r.rest at s)) (subst (λ z. Goes p z at n) (sym (ap (moves_at p l) e ∙ r.moves at s)) h)

  -- the place behind an item
  left_on : {left n : ℕ} {q : Place} → LeftAt (types_of p) a left q → Next (types_of p) q n → LeftAt (types_of p) a (behind_item left n) (behind (type_of q) n)
  left_on {left} {n} {q} (left_at {base} {c} {at} k t e) x =
      let r = readable k in
      let s = at_small t r.small in
      let w = next-within law r.below r.low r.small r.free t x in
      subst (λ z. LeftAt (types_of p) a (behind_item left n) (behind z n)) (sym (at_type t)) (left_at k (at_item w) (ap (λ z. z + (512 + n)) (base-of k)))
    where
      base-of : Context (types_of p) a base c → left / 1024 * 1024 ≡ base
      base-of (in_whole b r) = let s = at_small t (root_small r) in omega arith
      base-of (in_row b h) = let f = law.few in let s = at_small t (omega arith) in omega arith

  -- ITEMS ON THE RIGHT

  right_read : {left right : ℕ} {q : Place} → RightAt (types_of p) left right q → (c : ℕ) × (Root (types_of p) c × At (types_of p) c q (right_place left right))
  right_read {left} {right} (right_start r lt) = (right, (r, subst (At (types_of p) right (start right)) (sym (ap (λ (b : Bool). cond b right (512 + right)) (lt-ltb (left % 1024) 512 lt))) at_start))
  right_read {left} {right} (right_item {c} r w le) = (c, (r, subst (At (types_of p) c (behind c right)) (sym (ap (λ (b : Bool). cond b right (512 + right)) (le-ltb (left % 1024) 512 le))) (at_item w)))

  answers_next : {left right n m : ℕ} {q : Place} → RightAt (types_of p) left right q → Answers p (right_place left right) n m → Next (types_of p) q m
  answers_next h g = let r = right_read h in let c = r.1.0 in read_next law built.whole c.there (root_small c) (root_free c) r.1.1 g.inside g.next

  next-answers : {left right n m : ℕ} {q : Place} → RightAt (types_of p) left right q → Next (types_of p) q m → covers (row (types_of p) n) (row (types_of p) m) ≡ true → Answers p (right_place left right) n m
  next-answers h x v =
      let r = right_read h in
      let c = r.1.0 in
      record { inside = next_small law built.whole c.there (root_small c) (root_free c) r.1.1 x; next = next-read law built.whole c.there (root_small c) (root_free c) r.1.1 x; cover = v }

  right_on : {left right next m : ℕ} {q : Place} → 512 ≤ next % 1024 → RightAt (types_of p) left right q → Next (types_of p) q m → RightAt (types_of p) next m (behind (type_of q) m)
  right_on {next = next} {m} le h x =
      let r = right_read h in
      let c = r.1.0 in
      let w = next-within law built.whole c.there (root_small c) (root_free c) r.1.1 x in
      subst (λ z. RightAt (types_of p) next m (behind z m)) (sym (at_type r.1.1)) (right_item c w le)

  -- ENDS

  -- the root of a row within one
  top_of : {c x : ℕ} → Root (types_of p) c → Within (types_of p) c x → top p x ≡ c
  top_of {c} {x} r w = let k = within_low law w in let t = r.there in let lt : x < length (types_of p) = omega arith in one-root law (built.top_root x lt) r (built.top_within x lt) w

  -- the row that an item or a start is numbered by
  row_of : {c at : ℕ} {q : Place} → c < 512 → At (types_of p) c q at → Within (types_of p) c (at % 512)
  row_of {c} lt at_start = let i : c % 512 ≡ c = omega arith in itself i
  row_of {c} lt (at_item {x} w) = let k = within_low law w in let i : (512 + x) % 512 ≡ x = omega arith in subst (Within (types_of p) c) (sym i) w

  left_inside : {base c at : ℕ} {q : Place} → Context (types_of p) a base c → At (types_of p) c q at → cond (ltb (base + at) 1024) (top p ((base + at) % 512)) a ≡ c
  left_inside {base} {c} {at} (in_whole b r) t =
      let s = at_small t (root_small r) in
      let i : (base + at) % 512 ≡ at % 512 = omega arith in
      ap (λ (z : Bool). cond z (top p ((base + at) % 512)) a) (lt-ltb (base + at) 1024 (omega arith)) ∙ ap (top p) i ∙ top_of r (row_of (root_small r) t)
  left_inside {base} {c} {at} (in_row b h) t = ap (λ (z : Bool). cond z (top p ((base + at) % 512)) a) (le-ltb (base + at) 1024 (omega arith)) ∙ sym h

  ends_left-is : {left : ℕ} {q : Place} → LeftAt (types_of p) a left q → Exactly (ends_left p a left) (Ends (types_of p) q)
  ends_left-is {left} {q} (left_at {base} {c} {at} k t e) =
      let r = readable k in
      let s = at_small t r.small in
      let i : ends_left p a left ≡ ends_at p c at = ap (ends_left p a) e ∙ ap (λ z. ends_at p z ((base + at) % 1024)) (left_inside k t) ∙ ap (ends_at p c) (r.rest at s) in
      subst (λ (z : Bool). Exactly z (Ends (types_of p) q)) (sym i) (ends_is p built r.small t)

  top_right : {left right : ℕ} {q : Place} → (h : RightAt (types_of p) left right q) → top p right ≡ (right_read h).0
  unfolding right_read
  top_right (right_start r lt) = top_of r (itself refl)
  top_right (right_item r w le) = top_of r w

  ends_right-is : {left right : ℕ} {q : Place} → RightAt (types_of p) left right q → Exactly (ends_right p left right) (Ends (types_of p) q)
  ends_right-is {left} {right} {q} h =
      let r = right_read h in
      subst (λ (z : ℕ). Exactly (ends_at p z (right_place left right)) (Ends (types_of p) q)) (sym (top_right h)) (ends_is p built (root_small r.1.0) r.1.1)

  ends_alike-is : {left right : ℕ} {q s : Place} → LeftAt (types_of p) a left q → RightAt (types_of p) left right s → Exactly (ends_alike p a left right) (Ends (types_of p) q → Ends (types_of p) s)
  ends_alike-is {left} {right} {q} {s} x y = go (ends_left p a left) (ends_left-is x)
    where
      go : (b : Bool) → Exactly b (Ends (types_of p) q) → Exactly (cond b (ends_right p left right) true) (Ends (types_of p) q → Ends (types_of p) s)
      go true h = (λ t e. (ends_right-is y).0 t, λ f. (ends_right-is y).1 (f (h.0 tt)))
      go false h = (λ t e. absurd (h.1 e), λ f. tt)

  -- THE PAIRS OF PLACES

  -- the pair of places of a number
  record Denotes (x : ℕ) (q s : Place) : Type 0 where
    left : LeftAt (types_of p) a (x / 512) q
    right : RightAt (types_of p) (x / 512) (x % 512) s

  start_right : {left right b : ℕ} → right ≡ b → Root (types_of p) b → left % 1024 < 512 → RightAt (types_of p) left right (start b)
  start_right {left} {right} {b} j r lt = subst (λ z. RightAt (types_of p) left z (start b)) (sym j) (right_start r lt)

  item-right : {left right m : ℕ} {q : Place} → right ≡ m → RightAt (types_of p) left m q → RightAt (types_of p) left right q
  item-right {left} {q = q} j h = subst (λ z. RightAt (types_of p) left z q) (sym j) h

  first-denotes : {b x : ℕ} → Root (types_of p) b → x ≡ pair (1024 + a) b → Denotes x (start a) (start b)
  first-denotes {b} {x} r e =
      let s = root_small r in
      let f = law.few in
      let small : a < 512 = omega arith in
      let i = quotient x (1024 + a) b s e in
      let lt : (x / 512) % 1024 < 512 = subst (λ z. z % 1024 < 512) (sym i) (row-start a small) in
      let j = remainder x (1024 + a) b s e in
      record { left = left_at (in_row {c = a} refl refl) at_start i; right = start_right j r lt }

  right_small : {left right m : ℕ} {q : Place} → RightAt (types_of p) left right q → Next (types_of p) q m → m < 512
  right_small h x = let r = right_read h in let c = r.1.0 in next_small law built.whole c.there (root_small c) (root_free c) r.1.1 x

  left_small : {left n : ℕ} {q : Place} → LeftAt (types_of p) a left q → Next (types_of p) q n → n < 512
  left_small (left_at k t e) x = let r = readable k in next_small law r.below r.low r.small r.free t x

  on-denotes : {x y n m : ℕ} {q s : Place} → Denotes x q s → Next (types_of p) q n → Next (types_of p) s m → y ≡ pair (behind_item (x / 512) n) m → Denotes y (behind (type_of q) n) (behind (type_of s) m)
  on-denotes {x} {y} {n} {m} {q} {s} d u v e =
      let h = right_small d.right v in
      let k = left_small d.left u in
      let i = quotient y (behind_item (x / 512) n) m h e in
      let j = remainder y (behind_item (x / 512) n) m h e in
      let le : 512 ≤ (y / 512) % 1024 = subst (λ z. 512 ≤ z % 1024) (sym i) (item-place (x / 512) n k) in
      record { left = subst (λ z. LeftAt (types_of p) a z (behind (type_of q) n)) (sym i) (left_on d.left u); right = item-right j (right_on le d.right v) }

  in_denotes : {c d y : ℕ} → Root (types_of p) c → Root (types_of p) d → y ≡ pair c d → Denotes y (start c) (start d)
  in_denotes {c} {d} {y} r s e =
      let f = root_small r in
      let g = root_small s in
      let i = quotient y c d g e in
      let j = remainder y c d g e in
      let z : y / 512 ≡ 0 + c = omega arith in
      let lt : (y / 512) % 1024 < 512 = omega arith in
      record { left = left_at (in_whole {base = 0} refl r) at_start z; right = start_right j s lt }

  module _ (b declared : ℕ) (checked : Checked (types_of p) declared) (low : b < declared) (root : Root (types_of p) b) where
    -- the pairs that pass are closed
    pub alike-subtype : (q : Pairs) → Visited q (pair (1024 + a) b) → ((x : ℕ) → Visited q x → Passes p l a (Visited q) (x / 512) (x % 512)) → Subtype (types_of p) a b
    alike-subtype q begin passes = closed-subtype law {V = V} (record { ends = ends; steps = steps }) (pair (1024 + a) b, (begin, first-denotes root refl))
      where
        V : Place → Place → Type 0
        V s t = (x : ℕ) × (Visited q x × Denotes x s t)

        ends : (s t : Place) → V s t → Ends (types_of p) s → Ends (types_of p) t
        ends s t (x, (v, d)) = known (ends_alike-is d.left d.right) (passes x v).ends

        steps : (s t : Place) (n : ℕ) → V s t → Next (types_of p) s n → Useful (types_of p) (type_of s) n → Answer (types_of p) V s t n
        steps s t n (x, (v, d)) y u =
            let g = next-goes d.left y u in
            let w = (passes x v).steps n g.inside g in
            let z = answers_next d.right w.answers in
            record {
              m = w.by;
              next = z;
              cover = w.answers.cover;
              on = (pair (behind_item (x / 512) n) w.by, (w.leads _ (on refl), on-denotes d y z refl));
              into = λ c e i j. (pair c e, (w.leads _ (into i j refl), in_denotes (checked.contents n c i) (checked.contents w.by e j) refl));
            }

    record Came (x : ℕ) : Type 0 where
      s : Place
      t : Place
      reach : Reach (types_of p) a b s t
      denotes : Denotes x s t

    came_on : {x y n m : ℕ} → Came x → Goes p (moves_at p l (x / 512)) ((x / 512) % 1024) n → Answers p (right_place (x / 512) (x % 512)) n m → Leads p (x / 512) n m y → Came y
    came_on {n = n} {m} k g w (on e) =
        let d = k.denotes in
        let u = goes_next d.left g in
        let z = answers_next d.right w in
        let o = covers-overlaps (row (types_of p) n) (row (types_of p) m) w.cover in
        record { s = behind (type_of k.s) n; t = behind (type_of k.t) m; reach = r_on k.reach u.0 u.1 z o; denotes = on-denotes d u.0 z e }
    came_on {n = n} {m} k g w (into {c = c} {d = e} i j h) =
        let d = k.denotes in
        let u = goes_next d.left g in
        let z = answers_next d.right w in
        let o = covers-overlaps (row (types_of p) n) (row (types_of p) m) w.cover in
        record { s = start c; t = start e; reach = r_in k.reach u.0 u.1 z o i j; denotes = in_denotes (checked.contents n c i) (checked.contents m e j) h }

    came_step : {x y : ℕ} → Came x → Steps p (moves_at p l (x / 512)) (x / 512) (x % 512) 512 y → Came y
    came_step k (step lt g w h) = came_on k g w h

    came : {x : ℕ} → Reached p l a b x → Came x
    came (first e) = record { s = start a; t = start b; reach = r_start; denotes = first-denotes root e }
    came (more r h) = came_step (came r) h

    fails-unlike : {x : ℕ} → Came x → Fails p l a (x / 512) (x % 512) → Subtype (types_of p) a b → ⊥
    fails-unlike k (no_end e) f =
        let d = k.denotes in
        let sim = subtype_simulates checked (record { low = low; root = root }) f in
        not-true e ((ends_alike-is d.left d.right).1 (sim.ends k.s k.t k.reach))
    fails-unlike k (no_answer (n, (g, none))) f =
        let d = k.denotes in
        let sim = subtype_simulates checked (record { low = low; root = root }) f in
        let u = goes_next d.left g in
        let w = sim.steps k.s k.t n k.reach u.0 u.1 in
        none w.0 (next-answers d.right w.1.0 w.1.1)

    -- THE VERDICT IS EXACT
    pub verdict_exact : {r : Bool} → Verdict p l a b r → Exactly r (Subtype (types_of p) a b)
    verdict_exact (alike q begin passes) = (λ t. alike-subtype q begin passes, λ f. tt)
    verdict_exact (unlike r h) = (λ t. absurd t, λ f. fails-unlike (came r) h f)
