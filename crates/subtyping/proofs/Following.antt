-- What looking at one pair puts, and what it shows.
use Rattle.std.proofs.Common.{◌≡◌, ℕ, ◌+◌, ◌/◌, ◌%◌, ◌<◌, ◌≤◌, Bool, true, false, ◌&&◌, List, [], ◌∷◌, Some, sym, refl, ap, ◌∙◌, subst, inl, inr, arith}
use native.Mathlib.Decide.{ℕ_discrete}
use Rattle.bits.proofs.RowItems.{row_front, row_empty}
use Rattle.std.proofs.lemmas.Bool.{and_from, and_parts, cases_lt, cases_order, false_from_ne_true, false≢true}
use Rattle.types.specs.Parts.{row, content}
use Rattle.positions.specs.declared.tables.Positions.{Positions}
use Rattle.positions.specs.declared.moves.Moves.{Moves}
use Rattle.positions.specs.Below.{flag}
use Rattle.positions.specs.Built.{types_of}
use Rattle.subtyping.specs.declared.pairs.Pair.{Pair}
use Rattle.subtyping.specs.declared.pairs.Pairs.{Pairs}
use Rattle.bits.specs.Bits.{bit, row_items}
use Rattle.subtyping.specs.Worklist.{pair, number, Visited, Waiting, Fresh, Grown, Put, Taken, Popped, load}
use Rattle.subtyping.specs.Comparison.{behind_item, right_place, Goes, Answers, Leads, on, into, Steps, step, Answered, AllAnswered, Expanded, all_answered, one_unanswered, moves_at, ends_alike, Passes, no_answer, Looked, passed, failed, Reached, first, more, Verdict, alike, unlike}
use Rattle.subtyping.proofs.Growing.{grown-twice, grown-within, unchanged}

-- an item and its answer, both with contents
pub leads-both : (p : Positions) (left n m c d : ℕ) {old q new : Pairs} → content (row (types_of p) n) ≡ Some c → content (row (types_of p) m) ≡ Some d
    → Put old q (λ x. x ≡ pair (behind_item left n) m) → Put q new (λ x. x ≡ pair c d) → Put old new (Leads p left n m)
leads-both p left n m c d {old} {q} {new} i j g h = record { grown = grown-twice g.grown h.grown (λ x e. on e) (λ x e. into i j e); all = put }
  where
    put : (x : ℕ) → Leads p left n m x → Visited new x
    put x (on e) = h.grown.still x (g.all x e)
    put x (into {c = a} {d = b} k l e) = let y : a ≡ c = cc in let z : b ≡ d = cc in h.all x (e ∙ ap (λ w. pair w b) y ∙ ap (pair c) z)

-- THE ITEMS OF ONE PAIR

-- the items that are left are those from `at` on, and those before that go are answered
pub record Along (p : Positions) (moves : Moves) (left right : ℕ) (old q : Pairs) (ahead : List ℕ) : Type 0 where
  pub at : ℕ
  pub rest : ahead ≡ row_items moves.next.words (left % 1024) at
  pub within : at ≤ 512
  pub grown : Grown old q (Steps p moves left right at)
  pub answered : AllAnswered p moves (Visited q) left right at

still-answered : {p : Positions} {left right n : ℕ} {old q : Pairs} {P : ℕ → Type 0} → Grown old q P → Answered p (Visited old) left right n → Answered p (Visited q) left right n
still-answered g a = record { by = a.by; answers = a.answers; leads = λ x l. g.still x (a.leads x l) }

module _ {p : Positions} {moves : Moves} {left right : ℕ} where
  pub along_start : {old : Pairs} {ahead : List ℕ} → ahead ≡ row_items moves.next.words (left % 1024) 0 → Along p moves left right old old ahead
  along_start {old} e = record { at = 0; rest = e; within = omega arith; grown = unchanged old (Steps p moves left right 0); answered = λ n lt g. absurd (omega arith) }

  later : {end item : ℕ} → end ≤ item → (x : ℕ) → Steps p moves left right end x → Steps p moves left right item x
  later le x (step lt g a l) = step (omega arith) g a l

  pub along_item : {old q : Pairs} {ahead rest : List ℕ} {item : ℕ} → Along p moves left right old q ahead → ahead ≡ item ∷ rest → item < 512
  along_item {rest = rest} {item} a e = let f = row_front moves.next.words (left % 1024) a.at item rest (sym a.rest ∙ e) in f.0.below

  goes : {old q : Pairs} {ahead rest : List ℕ} {item : ℕ} → Along p moves left right old q ahead → ahead ≡ item ∷ rest → flag moves.live.marks item && flag p.alive.marks item ≡ true → Goes p moves (left % 1024) item
  goes {rest = rest} {item} a e t =
      let f = row_front moves.next.words (left % 1024) a.at item rest (sym a.rest ∙ e) in
      let o = and_parts (flag moves.live.marks item) (flag p.alive.marks item) t in
      record { inside = f.0.below; next = f.0.here; live = o.0; alive = o.1 }

  -- an item that goes and is answered
  pub along_on : {old q new : Pairs} {ahead rest : List ℕ} {item m : ℕ} → Along p moves left right old q ahead → ahead ≡ item ∷ rest → flag moves.live.marks item && flag p.alive.marks item ≡ true
      → Answers p (right_place left right) item m → Put q new (Leads p left item m) → Along p moves left right old new rest
  along_on {old} {q} {new} {rest = rest} {item} {m} a e t w g =
      let f = row_front moves.next.words (left % 1024) a.at item rest (sym a.rest ∙ e) in
      let low = f.0.low in
      let below = f.0.below in
      let y = goes a e t in
      record {
        at = item + 1;
        rest = f.1;
        within = omega arith;
        grown = grown-twice a.grown g.grown (later (omega (arith, low))) (λ x l. step (omega arith) y w l);
        answered = λ n h z. elim (cases_order n item) [
          | inl i ↦ subst (λ k. Answered p (Visited new) left right k) (sym i) (record { by = m; answers = w; leads = λ x l. g.all x l })
          | inr (inl less) ↦ elim (cases_lt n a.at) [ inl i ↦ still-answered g.grown (a.answered n i z) | inr i ↦ absurd (f.0.before n i less z.next) ]
          | inr (inr above) ↦ absurd (omega arith)
        ];
      }

  -- an item that cannot occur
  pub along_past : {old q : Pairs} {ahead rest : List ℕ} {item : ℕ} → Along p moves left right old q ahead → ahead ≡ item ∷ rest → flag moves.live.marks item && flag p.alive.marks item ≡ false → Along p moves left right old q rest
  along_past {old} {q} {rest = rest} {item} a e t =
      let f = row_front moves.next.words (left % 1024) a.at item rest (sym a.rest ∙ e) in
      let low = f.0.low in
      let below = f.0.below in
      record {
        at = item + 1;
        rest = f.1;
        within = omega arith;
        grown = grown-within a.grown (later (omega (arith, low)));
        answered = λ n h z. elim (cases_order n item) [
          | inl i ↦ absurd (false≢true (sym t ∙ and_from (flag moves.live.marks item) (flag p.alive.marks item) (ap (flag moves.live.marks) (sym i) ∙ z.live) (ap (flag p.alive.marks) (sym i) ∙ z.alive)))
          | inr (inl less) ↦ elim (cases_lt n a.at) [ inl i ↦ a.answered n i z | inr i ↦ absurd (f.0.before n i less z.next) ]
          | inr (inr above) ↦ absurd (omega arith)
        ];
      }

  pub along_end : {old q : Pairs} {ahead : List ℕ} → Along p moves left right old q ahead → ahead ≡ [] → Expanded p moves left right old q true
  along_end a e = all_answered (grown-within a.grown (later a.within))
      (λ n h z. elim (cases_lt n a.at) [ inl i ↦ a.answered n i z | inr i ↦ absurd (row_empty moves.next.words (left % 1024) a.at (sym a.rest ∙ e) n i h z.next) ])

  pub along_stop : {old q new : Pairs} {ahead rest : List ℕ} {item : ℕ} → Along p moves left right old q ahead → ahead ≡ item ∷ rest → flag moves.live.marks item && flag p.alive.marks item ≡ true
      → ((m : ℕ) → Answers p (right_place left right) item m → ⊥) → Expanded p moves left right old new false
  along_stop {item = item} a e t none = one_unanswered (item, (goes a e t, none))

-- ONE PAIR

pub looked : {p : Positions} {l : Moves} {a left right : ℕ} {old q : Pairs} {r : Bool} → ends_alike p a left right ≡ true → Expanded p (moves_at p l left) left right old q r → Looked p l a left right old q r
looked e (all_answered g h) = passed g (record { ends = e; steps = h })
looked e (one_unanswered u) = failed (no_answer u)

-- a pair that is looked at by its number
by_number : {p : Positions} {l : Moves} {a : ℕ} {old q : Pairs} {r : Bool} (x : Pair) → Looked p l a x.left x.right old q r → Looked p l a (number x / 512) (number x % 512) old q r
by_number {p} {l} {a} {old} {q} {r} x h =
    let low = x.right_low in
    let i : x.left ≡ number x / 512 = omega arith in
    let j : x.right ≡ number x % 512 = omega arith in
    subst (λ y. Looked p l a (number x / 512) y old q r) j (subst (λ y. Looked p l a y x.right old q r) i h)

-- THE WHOLE SEARCH

pub record Searching (p : Positions) (l : Moves) (a b : ℕ) (q : Pairs) : Type 0 where
  pub begin : Visited q (pair (1024 + a) b)
  pub reached : (x : ℕ) → Visited q x → Reached p l a b x
  pub passes : (x : ℕ) → Visited q x → bit q.waiting.words x ≡ false → Passes p l a (Visited q) (x / 512) (x % 512)

still-passes : {p : Positions} {l : Moves} {a left right : ℕ} {old q : Pairs} {P : ℕ → Type 0} → Grown old q P → Passes p l a (Visited old) left right → Passes p l a (Visited q) left right
still-passes g h = record { ends = h.ends; steps = λ n lt y. still-answered g (h.steps n lt y) }

module _ {p : Positions} {l : Moves} {a b : ℕ} where
  pub search_start : {old q : Pairs} → Fresh old → Put old q (λ x. x ≡ pair (1024 + a) b) → Searching p l a b q
  search_start {old} {q} f g = record {
    begin = g.all (pair (1024 + a) b) refl;
    reached = λ x s. elim (g.grown.only x s) [ inl o ↦ absurd (f x o) | inr e ↦ first e ];
    passes = λ x s idle. absurd (false≢true (sym idle ∙ g.grown.new x s (λ o. f x o)));
  }

  -- a pair that waited was taken, and passed
  went_on : {old mid new : Pairs} {x : ℕ} → Searching p l a b old → Visited old x → Taken old mid x → Looked p l a (x / 512) (x % 512) mid new true → Searching p l a b new
  went_on {old} {mid} {new} {x} s v t (passed g h) = record {
    begin = g.still _ (kept _ s.begin);
    reached = λ y w. elim (g.only y w) [ inl m ↦ s.reached y (was y m) | inr z ↦ more (s.reached x v) z ];
    passes = λ y w idle. settled y w idle (bit mid.visited.words y) refl;
  }
    where
      kept : (y : ℕ) → Visited old y → Visited mid y
      kept y w = ap (λ z. bit z y) t.visited ∙ w

      was : (y : ℕ) → Visited mid y → Visited old y
      was y w = sym (ap (λ z. bit z y) t.visited) ∙ w

      earlier : (y : ℕ) → Visited mid y → bit new.waiting.words y ≡ false → Dec (y ≡ x) → Passes p l a (Visited new) (y / 512) (y % 512)
      earlier y m idle (yes e) = subst (λ z. Passes p l a (Visited new) (z / 512) (z % 512)) (sym e) h
      earlier y m idle (no n) = still-passes g (carried (s.passes y (was y m) (sym (t.others y n) ∙ (sym (g.done y m) ∙ idle))))
        where
          carried : Passes p l a (Visited old) (y / 512) (y % 512) → Passes p l a (Visited mid) (y / 512) (y % 512)
          carried z = subst (λ v. Passes p l a (λ w. bit v w ≡ true) (y / 512) (y % 512)) (sym t.visited) z

      settled : (y : ℕ) → Visited new y → bit new.waiting.words y ≡ false → (b : Bool) → bit mid.visited.words y ≡ b → Passes p l a (Visited new) (y / 512) (y % 512)
      settled y w idle true e = earlier y e idle (ℕ_discrete y x)
      settled y w idle false e = absurd (false≢true (sym idle ∙ g.new y w (λ m. absurd (false≢true (sym e ∙ m)))))

  pub search_on : {old mid new : Pairs} (x : Pair) → Searching p l a b old → Popped old mid (Some x) → Looked p l a x.left x.right mid new true → Searching p l a b new
  search_on {old} x s w h = went_on s (old.held (number x) w.0) w.1 (by_number x h)

  failed-at : {old mid new : Pairs} (x : ℕ) → Searching p l a b old → Visited old x → Looked p l a (x / 512) (x % 512) mid new false → Verdict p l a b false
  failed-at x s v (failed f) = unlike (s.reached x v) f

  pub search_fails : {old mid new : Pairs} (x : Pair) → Searching p l a b old → Popped old mid (Some x) → Looked p l a x.left x.right mid new false → Verdict p l a b false
  search_fails {old} x s w h = failed-at (number x) s (old.held (number x) w.0) (by_number x h)

  pub search_ends : {old : Pairs} → Searching p l a b old → ((x : ℕ) → Waiting old x → ⊥) → Verdict p l a b true
  search_ends {old} s none = alike old s.begin (λ x v. s.passes x v (false_from_ne_true (bit old.waiting.words x) (none x)))

-- each turn leaves less to do
pub lighter : {p : Positions} {l : Moves} {a : ℕ} {old mid new : Pairs} (x : Pair) → Popped old mid (Some x) → Looked p l a x.left x.right mid new true → load new < load old
lighter x w (passed g h) = let a = w.1.lighter in let b = g.lighter in omega arith
