-- A subtype of a one-way type simulates in it: one forest shows each item that is needed, and determinism makes every other forest go the same way.
use Rattle.std.proofs.Common.{◌≡◌, ℕ, ◌<◌, true, List, [], ◌∷◌, Some, None, sym, refl, ap, ◌∙◌, subst, arith}
use Rattle.forest.specs.Forests.{Scalar, integer, string, boolean, Forest, none, leaf, node, scalar_lawful, tag_lawful}
use Rattle.rows.specs.declared.type_row.TypeRow.{TypeRow}
use Rattle.rows.specs.declared.type_row.TypeRow.TheVariants.{Element, AnyElement}
use Rattle.types.specs.Parts.{row, content, Root}
use Rattle.types.specs.Belonging.{scalar_row, Belongs, nothing, one_scalar, one_element, any_element, both, by_first, by_second, no_more, one_more, Subtype}
use Rattle.types.specs.Determinism.{Label, label, overlaps, Deterministic}
use Rattle.types.specs.Places.{Place, start, behind, type_of, Next, next_first, next_follow, Ends, Left, Inhabited, AllInhabited, Useful, useful, covers, Reach, r_start, r_on, r_in, Covered, Simulates, Checked}
use Rattle.types.proofs.Owed.{Takes, t_scalar, t_element, t_any, Owed, to_owed, from_owed}
use Rattle.types.proofs.Steps.{Step, Start, ended, went, stepped, none-owed, all-null}
use Rattle.types.proofs.Steps.{start as begin}
use Rattle.types.proofs.Contexts.{low, unique, left_within}
use Rattle.types.proofs.Standing.{Stands, on-start, on-behind, goes, step_of, ends_of, nulls_of, next-label}
use Rattle.types.proofs.Living.{lives_owed}
use Rattle.types.proofs.Labels.{covers-overlaps, overlaps-over, scalar-covers, tag_meets}
use Rattle.types.proofs.Spare.{Spare, spare}

-- ITEMS THAT A ROW ASKS FOR

-- an item of a row: what it asks for
data Sample (ts : List TypeRow) (n : ℕ) : Type 0 where
  s_scalar : (s : Scalar) → row ts n ≡ scalar_row s → scalar_lawful s ≡ true → Sample ts n
  s_element : {t c : ℕ} {x : Forest} → row ts n ≡ Element t c → tag_lawful t ≡ true → Belongs ts c x → Sample ts n
  s_any : {c : ℕ} {x : Forest} → row ts n ≡ AnyElement c → Belongs ts c x → Sample ts n

no_label : {A : Type 0} {l : Label} {v w : TypeRow} → label v ≡ Some l → v ≡ w → label w ≡ None → A
no_label e i j = let z : ◌≡◌ {A = ℕ} 0 1 = cc (ap label i) in absurd (omega arith)

sample : {ts : List TypeRow} {n : ℕ} {l : Label} {f : Forest} → label (row ts n) ≡ Some l → Belongs ts n f → Sample ts n
sample i (nothing e) = no_label i e refl
sample i (one_scalar {s = s} e l) = s_scalar s e l
sample i (one_element e l b) = s_element e l b
sample i (any_element e l b) = s_any e b
sample i (both e p q) = no_label i e refl
sample i (by_first e p) = no_label i e refl
sample i (by_second e p) = no_label i e refl
sample i (no_more e) = no_label i e refl
sample i (one_more e p q) = no_label i e refl

-- the label of m admits the first item of a forest, whatever its content
pub data Heads (ts : List TypeRow) (m : ℕ) : Forest → Type 0 where
  h_scalar : {s : Scalar} {f : Forest} → row ts m ≡ scalar_row s → Heads ts m (leaf s f)
  h_element : {t c : ℕ} {x f : Forest} → row ts m ≡ Element t c → Heads ts m (node t x f)
  h_any : {t c : ℕ} {x f : Forest} → row ts m ≡ AnyElement c → Heads ts m (node t x f)

pub takes_heads : {ts : List TypeRow} {m : ℕ} {f g : Forest} → Takes ts m f g → Heads ts m f
takes_heads (t_scalar e l) = h_scalar e
takes_heads (t_element e l b) = h_element e
takes_heads (t_any e l b) = h_any e

overlap_by : {v w x y : TypeRow} → v ≡ x → w ≡ y → overlaps x y ≡ true → overlaps v w ≡ true
overlap_by {v} {w} {x} {y} e i h = ap (λ z. overlaps z w) e ∙ ap (overlaps x) i ∙ h

pub heads_overlap : {ts : List TypeRow} {m n : ℕ} {f : Forest} → Heads ts m f → Heads ts n f → overlaps (row ts m) (row ts n) ≡ true
heads_overlap (h_scalar {s = s} e) (h_scalar i) = overlap_by e i (covers-overlaps (scalar_row s) (scalar_row s) (scalar-covers s))
heads_overlap (h_element {t = t} e) (h_element i) = overlap_by e i (tag_meets t)
heads_overlap (h_element e) (h_any i) = overlap_by e i refl
heads_overlap (h_any e) (h_element i) = overlap_by e i refl
heads_overlap (h_any e) (h_any i) = overlap_by e i refl

-- ONE WAY TO GO ON

pub record OneWay (ts : List TypeRow) (l : List ℕ) : Type 0 where
  pub only : (m n : ℕ) (u v : List ℕ) → Step ts l m u → Step ts l n v → overlaps (row ts m) (row ts n) ≡ true → (m ≡ n) × (u ≡ v)

pub record Rest (ts : List TypeRow) (m : ℕ) (u : List ℕ) (f : Forest) : Type 0 where
  pub left : Forest
  pub taken : Takes ts m f left
  pub owed : Owed ts u left

rest_of : {ts : List TypeRow} {l u : List ℕ} {m : ℕ} {f : Forest} → OneWay ts l → Step ts l m u → Heads ts m f → Start ts l f → Rest ts m u f
rest_of w h d (ended z) = elim d [ ]
rest_of {ts} {u = u} {m} {f} w h d (went {n} {s} {g = g} j t o) =
    let e = w.only n m s u j h (heads_overlap (takes_heads t) d) in
    record { left = g; taken = subst (λ x. Takes ts x f g) e.0 t; owed = subst (λ x. Owed ts x g) e.1 o }

pub rest : {ts : List TypeRow} {l u : List ℕ} {m : ℕ} {f : Forest} → OneWay ts l → Step ts l m u → Heads ts m f → Owed ts l f → Rest ts m u f
rest w h d o = rest_of w h d (begin o)

after-leaf : {ts : List TypeRow} {m : ℕ} {u : List ℕ} {s : Scalar} {f g : Forest} → Takes ts m (leaf s f) g → Owed ts u g → Owed ts u f
after-leaf (t_scalar e l) d = d

after-node : {ts : List TypeRow} {m t : ℕ} {u : List ℕ} {x f g : Forest} → Takes ts m (node t x f) g → Owed ts u g → Owed ts u f
after-node (t_element e l b) d = d
after-node (t_any e l b) d = d

inside : {ts : List TypeRow} {m t d : ℕ} {x f g : Forest} → content (row ts m) ≡ Some d → Takes ts m (node t x f) g → Belongs ts d x
inside {ts} {d = d} {x} i (t_element {c = c} e l b) = let h : c ≡ d = cc (ap content e) in subst (λ y. Belongs ts y x) h b
inside {ts} {d = d} {x} i (t_any {c = c} e l b) = let h : c ≡ d = cc (ap content e) in subst (λ y. Belongs ts y x) h b

-- ANSWERS

abbrev Fits : List TypeRow → List ℕ → List ℕ → Type 0
Fits ts k l = (f : Forest) → Owed ts k f → Owed ts l f

-- l answers the item n, behind which s is left
record Answer (ts : List TypeRow) (n : ℕ) (s l : List ℕ) : Type 0 where
  m : ℕ
  u : List ℕ
  step : Step ts l m u
  cover : covers (row ts n) (row ts m) ≡ true
  contents : (c d : ℕ) → content (row ts n) ≡ Some c → content (row ts m) ≡ Some d → Subtype ts c d
  fits : Fits ts s u

cover-by : {v w x y : TypeRow} → v ≡ x → w ≡ y → covers x y ≡ true → covers v w ≡ true
cover-by {v} {w} {x} {y} e i h = ap (λ z. covers z w) e ∙ ap (covers x) i ∙ h

scalar-content : (s : Scalar) {c : ℕ} {A : Type 0} → content (scalar_row s) ≡ Some c → A
scalar-content (integer z) e = let h : ◌≡◌ {A = ℕ} 0 1 = cc in absurd (omega arith)
scalar-content (string bs) e = let h : ◌≡◌ {A = ℕ} 0 1 = cc in absurd (omega arith)
scalar-content (boolean b) e = let h : ◌≡◌ {A = ℕ} 0 1 = cc in absurd (omega arith)

module _ {ts : List TypeRow} {k l : List ℕ} (w : OneWay ts l) (fits : Fits ts k l) where
  scalar-answer : {s : List ℕ} {n : ℕ} {v : Scalar} {f : Forest} → row ts n ≡ scalar_row v → scalar_lawful v ≡ true → Step ts k n s → Owed ts s f → Start ts l (leaf v f) → Answer ts n s l
  scalar-answer {s} {n} {v} {f} e i h d (went {n = m} {s = u} j (t_scalar {s = x} y z) o) =
      record {
        m = m;
        u = u;
        step = j;
        cover = cover-by e y (scalar-covers v);
        contents = λ c b p q. scalar-content v (sym (ap content e) ∙ p);
        fits = λ r dr. let a = rest w j (h_scalar y) (fits (leaf v r) (stepped h (t_scalar e i) dr)) in after-leaf a.taken a.owed;
      }

  node-answer : {s : List ℕ} {n t : ℕ} {x f : Forest} → ((m : ℕ) → Heads ts m (node t x f) → covers (row ts n) (row ts m) ≡ true)
      → ((y r : Forest) (c : ℕ) → content (row ts n) ≡ Some c → Belongs ts c y → Takes ts n (node t y r) r) → (c : ℕ) → content (row ts n) ≡ Some c → Belongs ts c x → Step ts k n s → Owed ts s f → Start ts l (node t x f) → Answer ts n s l
  node-answer {s} {n} {t} {x} {f} cov put c i b h d (went {n = m} {s = u} j y o) =
      record {
        m = m;
        u = u;
        step = j;
        cover = cov m (takes_heads y);
        contents = λ a e p q g dg. let z = rest w j (again (takes_heads y)) (fits (node t g f) (stepped h (put g f a p dg) d)) in inside q z.taken;
        fits = λ r dr. let z = rest w j (again (takes_heads y)) (fits (node t x r) (stepped h (put x r c i b) dr)) in after-node z.taken z.owed;
      }
    where
      again : {m t : ℕ} {x f y g : Forest} → Heads ts m (node t x f) → Heads ts m (node t y g)
      again (h_element e) = h_element e
      again (h_any e) = h_any e

  element-cover : (n : ℕ) {t c m : ℕ} {x f : Forest} → row ts n ≡ Element t c → Heads ts m (node t x f) → covers (row ts n) (row ts m) ≡ true
  element-cover n {t} e (h_element i) = cover-by e i (tag_meets t)
  element-cover n e (h_any i) = cover-by e i refl

  any_cover : (n : ℕ) {c m t : ℕ} {x f : Forest} → row ts n ≡ AnyElement c → ((r d : ℕ) → row ts r ≡ Element t d → ⊥) → Heads ts m (node t x f) → covers (row ts n) (row ts m) ≡ true
  any_cover n {m = m} e no_row (h_element {c = d} i) = absurd (no_row m d i)
  any_cover n e no_row (h_any i) = cover-by e i refl

  element-put : {n t c : ℕ} → row ts n ≡ Element t c → tag_lawful t ≡ true → (y r : Forest) (d : ℕ) → content (row ts n) ≡ Some d → Belongs ts d y → Takes ts n (node t y r) r
  element-put {c = c} e l y r d i b = let h : d ≡ c = cc (ap content e) in t_element e l (subst (λ z. Belongs ts z y) h b)

  any_put : {n c : ℕ} (t : ℕ) → row ts n ≡ AnyElement c → tag_lawful t ≡ true → (y r : Forest) (d : ℕ) → content (row ts n) ≡ Some d → Belongs ts d y → Takes ts n (node t y r) r
  any_put {c = c} t e l y r d i b = let h : d ≡ c = cc (ap content e) in t_any e l (subst (λ z. Belongs ts z y) h b)

  answer-by : {s : List ℕ} {n : ℕ} {f : Forest} → Spare ts → Sample ts n → Step ts k n s → Owed ts s f → Answer ts n s l
  answer-by {f = f} sp (s_scalar v e i) h d = scalar-answer e i h d (begin (fits (leaf v f) (stepped h (t_scalar e i) d)))
  answer-by {n = n} {f} sp (s_element {t} {c} {x} e i b) h d =
      node-answer {x = x} (λ m. element-cover n e) (element-put e i) c (ap content e) b h d (begin (fits (node t x f) (stepped h (t_element e i b) d)))
  answer-by {n = n} {f} sp (s_any {c} {x} e b) h d =
      node-answer {x = x} (λ m. any_cover n e sp.unnamed) (any_put sp.tag e sp.lawful) c (ap content e) b h d (begin (fits (node sp.tag x f) (stepped h (t_any e sp.lawful b) d)))

  answer : {s : List ℕ} {n : ℕ} {i : Label} → Spare ts → label (row ts n) ≡ Some i → Inhabited ts n → AllInhabited ts s → Step ts k n s → Answer ts n s l
  answer sp e v a h = let d = lives_owed a in answer-by sp (sample e v.1) h d.1

-- THE PAIRS THAT ARE REACHED

-- a declared root
pub record Declared (ts : List TypeRow) (declared r : ℕ) : Type 0 where
  pub low : r < declared
  pub root : Root ts r

record Reached (ts : List TypeRow) (declared : ℕ) (p q : Place) : Type 0 where
  k : List ℕ
  l : List ℕ
  left : Stands ts p k
  right : Stands ts q l
  fits : Fits ts k l
  good : Declared ts declared (type_of q)

module _ {ts : List TypeRow} {declared : ℕ} (c : Checked ts declared) where
  pub same_next : {q : Place} {l : List ℕ} {m n : ℕ} → Deterministic ts (type_of q) → Stands ts q l → Next ts q m → Next ts q n → overlaps (row ts m) (row ts n) ≡ true → m ≡ n
  same_next {m = m} {n} d on-start (next_first f) (next_first g) o = d.firsts m n f g o
  same_next {m = m} {n} d (on-behind {n = p} e h) (next_follow f) (next_follow g) o = d.follows p m n (left_within c.lawful h) (f.0, f.1.1) (g.0, g.1.1) o

  pub one_way_at : {q : Place} {l : List ℕ} → Declared ts declared (type_of q) → Stands ts q l → OneWay ts l
  one_way_at {q} good st = record {
    only = λ m n u v g h o.
        let x = goes c.lawful st g in
        let y = goes c.lawful st h in
        let e = same_next (c.one_way (type_of q) good.low good.root) st x.next y.next o in
        (e, unique c.lawful (subst (λ z. Left ts (type_of q) z u) e x.left) y.left);
  }

  -- a useful next item, and its answer
  record Answered (p q : Place) (n : ℕ) (k l : List ℕ) : Type 0 where
    s : List ℕ
    step : Step ts k n s
    answered : Answer ts n s l

  answered-at : {p q : Place} {n : ℕ} (r : Reached ts declared p q) → Next ts p n → Useful ts (type_of p) n → Answered p q n r.k r.l
  answered-at {p} {q} {n} r x (useful v h a) =
      let g = step_of c.lawful r.left x in
      let e = unique c.lawful h (goes c.lawful r.left g.1).left in
      record { s = g.0; step = g.1; answered = answer (one_way_at r.good r.right) r.fits (spare ts c.lawful.few) (next-label x).1 v (subst (AllInhabited ts) e a) g.1 }

  reached_on : {p q : Place} {n m : ℕ} → Reached ts declared p q → Next ts p n → Useful ts (type_of p) n → Next ts q m → overlaps (row ts n) (row ts m) ≡ true → Reached ts declared (behind (type_of p) n) (behind (type_of q) m)
  reached_on {p} {q} {n} {m} r x us y o =
      let a = answered-at r x us in
      let b = a.answered in
      let g = step_of c.lawful r.right y in
      let e = (one_way_at r.good r.right).only b.m m b.u g.0 b.step g.1 (overlaps-over (row ts n) (row ts b.m) (row ts m) b.cover o) in
      record { k = a.s; l = g.0; left = (goes c.lawful r.left a.step).stands; right = (goes c.lawful r.right g.1).stands; fits = subst (Fits ts a.s) e.1 b.fits; good = r.good }

  reached_in : {p q : Place} {n m i j : ℕ} → Reached ts declared p q → Next ts p n → Useful ts (type_of p) n → Next ts q m → overlaps (row ts n) (row ts m) ≡ true
      → content (row ts n) ≡ Some i → content (row ts m) ≡ Some j → Reached ts declared (start i) (start j)
  reached_in {p} {q} {n} {m} {i} {j} r x us y o ci cj =
      let a = answered-at r x us in
      let b = a.answered in
      let g = step_of c.lawful r.right y in
      let e = (one_way_at r.good r.right).only b.m m b.u g.0 b.step g.1 (overlaps-over (row ts n) (row ts b.m) (row ts m) b.cover o) in
      let f = b.contents i j ci (ap (λ z. content (row ts z)) e.0 ∙ cj) in
      let h = low c.lawful (goes c.lawful r.right g.1).left in
      let d = r.good.low in
      record { k = i ∷ []; l = j ∷ []; left = on-start; right = on-start; fits = λ z dz. to_owed (f z (from_owed dz)); good = record { low = c.declared_contents m j (omega arith) cj; root = c.contents m j cj } }

  reached : {a b : ℕ} {p q : Place} → Declared ts declared b → Subtype ts a b → Reach ts a b p q → Reached ts declared p q
  reached {a} {b} d f r_start = record { k = a ∷ []; l = b ∷ []; left = on-start; right = on-start; fits = λ z dz. to_owed (f z (from_owed dz)); good = d }
  reached d f (r_on r x us y o) = reached_on (reached d f r) x us y o
  reached d f (r_in r x us y o i j) = reached_in (reached d f r) x us y o i j

  reached_ends : {p q : Place} → Reached ts declared p q → Ends ts p → Ends ts q
  reached_ends r e = ends_of c.lawful r.right (all-null (r.fits none (none-owed (nulls_of c.lawful r.left e))))

  reached_steps : {p q : Place} {n : ℕ} → Reached ts declared p q → Next ts p n → Useful ts (type_of p) n → Covered ts q n
  reached_steps r x us = let b = (answered-at r x us).answered in (b.m, ((goes c.lawful r.right b.step).next, b.cover))

  pub subtype_simulates : {a b : ℕ} → Declared ts declared b → Subtype ts a b → Simulates ts a b
  subtype_simulates d f = record { ends = λ p q r. reached_ends (reached d f r); steps = λ p q n r. reached_steps (reached d f r) }
