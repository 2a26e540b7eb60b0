-- The items that follow one another, row by row.
use Rattle.std.proofs.Common.{◌≡◌, ℕ, ◌+◌, ◌<◌, ◌≤◌, Bool, true, false, ◌&&◌, ◌||◌, List, [], ◌∷◌, length, sym, refl, ap, ◌∙◌, subst, inl, inr, arith}
use Rattle.std.proofs.lemmas.Bool.{cases_eq, cases_lt, and_parts, and_from, or_cases, or_left, or_right, false≢true}
use Rattle.rows.specs.declared.type_row.TypeRow.{TypeRow}
use Rattle.rows.specs.declared.type_row.TypeRow.TheVariants.{EmptyChoice, EmptySequence, Integer, String, Boolean, Element, AnyElement, Sequence, Choice, Repetition}
use Rattle.bits.specs.Bits.{related, row_items, United}
use Rattle.bits.proofs.RowItems.{row_front, row_empty}
use Rattle.types.specs.Parts.{row, Lawful}
use Rattle.types.specs.Determinism.{First, Last, MeetsAt, in_sequence, in_repetition}
use Rattle.types.specs.Tables.{Exactly}
use Rattle.types.proofs.Contexts.{PartOf, left, right, repeats}
use Rattle.positions.specs.Below.{MeetsBelow}
use Rattle.positions.specs.Filling.{meets_by, Followed}
use Rattle.std.proofs.Math.Bool.{or-false}
use Rattle.types.proofs.Exact.{exactly, exactly_same, exactly_none, known, shown}
use Rattle.positions.proofs.Growing.{grown-unite}
use Rattle.positions.proofs.Items.{part_low}

-- ONE PAIR OF ROWS

-- the firsts of b follow the lasts of a that stand before `at`
pub record Partly (ls old new : List ℕ) (a b at : ℕ) : Type 0 where
  pub firsts : (r n : ℕ) → r < 512 → n < 512 → related new r n ≡ related old r n
  pub done : (x n : ℕ) → x < 512 → n < 512 → x < at → related new (512 + x) n ≡ (related old (512 + x) n || (related ls a x && related old b n))
  pub ahead : (x n : ℕ) → x < 512 → n < 512 → at ≤ x → related new (512 + x) n ≡ related old (512 + x) n

-- no last there, nothing gained
nothing : (o f l : Bool) → (l ≡ true → ⊥) → o ≡ (o || (l && f))
nothing o f true h = absurd (h refl)
nothing o f false h = sym (or-false o)

-- the lasts of a that are left are those from `at` on
pub record Adding (ls old new : List ℕ) (a b : ℕ) (left : List ℕ) : Type 0 where
  pub at : ℕ
  pub rest : left ≡ row_items ls a at
  pub partly : Partly ls old new a b at

pub adding_start : (ls ws : List ℕ) (a b : ℕ) {left : List ℕ} → left ≡ row_items ls a 0 → Adding ls ws ws a b left
adding_start ls ws a b e = record {
  at = 0;
  rest = e;
  partly = record { firsts = λ r n l m. refl; done = λ x n l m lt. absurd (omega arith); ahead = λ x n l m le. refl };
}

pub adding_item : {ls old new left rest : List ℕ} {a b y : ℕ} → Adding ls old new a b left → left ≡ y ∷ rest → y < 512
adding_item {ls} {rest = rest} {a} {y = y} h e = let f = row_front ls a h.at y rest (sym h.rest ∙ e) in f.0.below

pub adding_more : (ls old new vs : List ℕ) (a b y : ℕ) {left rest : List ℕ} → b < 512 → length new ≡ 8192 → Adding ls old new a b left → left ≡ y ∷ rest → United new vs (512 + y) b → Adding ls old vs a b rest
adding_more ls old new vs a b y {left} {rest} lb long h e u =
    let f = row_front ls a h.at y rest (sym h.rest ∙ e) in
    let low = f.0.low in
    let below = f.0.below in
    let p = h.partly in
    let g = grown-unite new vs (512 + y) b (omega arith) (omega arith) u in
    record {
      at = y + 1;
      rest = f.1;
      partly = record {
        firsts = λ r n l q. g.others r n (omega arith) q ∙ p.firsts r n l q;
        done = λ x n l q lt. elim (cases_eq x y) [
          | inl i ↦ subst (λ z. related vs (512 + z) n ≡ (related old (512 + z) n || (related ls a z && related old b n))) (sym i)
              (g.here n q ∙ ap (λ z. z || related new b n) (p.ahead y n below q low) ∙ ap (λ z. related old (512 + y) n || z) (p.firsts b n lb q)
              ∙ ap (λ z. related old (512 + y) n || (z && related old b n)) (sym f.0.here))
          | inr i ↦ g.others (512 + x) n (omega arith) q ∙ elim (cases_lt x h.at) [
            | inl m ↦ p.done x n l q m
            | inr m ↦ p.ahead x n l q m ∙ nothing (related old (512 + x) n) (related old b n) (related ls a x) (f.0.before x m (omega arith))
          ]
        ];
        ahead = λ x n l q le. g.others (512 + x) n (omega arith) q ∙ p.ahead x n l q (omega arith);
      };
    }

pub adding_all : (ls old new : List ℕ) (a b : ℕ) {left : List ℕ} → Adding ls old new a b left → left ≡ [] → Followed old new (λ x n. related ls a x && related old b n)
adding_all ls old new a b h e = record {
  firsts = h.partly.firsts;
  follows = λ x n i m. elim (cases_lt x h.at) [
    | inl l ↦ h.partly.done x n i m l
    | inr l ↦ h.partly.ahead x n i m l ∙ nothing (related old (512 + x) n) (related old b n) (related ls a x) (row_empty ls a h.at (sym h.rest ∙ e) x l i)
  ];
}

-- ONE ROW

pub followed_row : (ls : List ℕ) {ws vs : List ℕ} {r w : TypeRow} {f : ℕ → ℕ → Bool} → r ≡ w → ((x n : ℕ) → f x n ≡ meets_by ls ws w x n) → Followed ws vs f → Followed ws vs (meets_by ls ws r)
followed_row ls {ws} e h g = record { firsts = g.firsts; follows = λ x n l m. g.follows x n l m ∙ ap (λ z. related ws (512 + x) n || z) (h x n ∙ ap (λ w. meets_by ls ws w x n) (sym e)) }

-- ROW BY ROW

-- the firsts are right, and so are the pairs that meet below k
pub record Met (ts : List TypeRow) (ws : List ℕ) (k : ℕ) : Type 0 where
  pub firsts : (r n : ℕ) → r < 512 → n < 512 → Exactly (related ws r n) (First ts r n)
  pub follows : (x n : ℕ) → x < 512 → n < 512 → Exactly (related ws (512 + x) n) (MeetsBelow ts k x n)

pub met_none : (ts : List TypeRow) (ws : List ℕ) → ((r n : ℕ) → r < 512 → n < 512 → Exactly (related ws r n) (First ts r n)) → ((r n : ℕ) → 512 ≤ r → n < 512 → related ws r n ≡ false) → Met ts ws 0
met_none ts ws f e = record { firsts = f; follows = λ x n l m. exactly_none (e (512 + x) n (omega arith) m) (λ p. let z = p.1.0 in omega arith) }

module _ {ts : List TypeRow} (law : Lawful ts) (ls : List ℕ) (lasts : (r n : ℕ) → r < 512 → n < 512 → Exactly (related ls r n) (Last ts r n)) (ws : List ℕ) (k : ℕ) (lt : k < length ts) (firsts : (r n : ℕ) → r < 512 → n < 512 → Exactly (related ws r n) (First ts r n)) (x n : ℕ) (lx : x < 512) (ln : n < 512) where
  few : {p : ℕ} {w : TypeRow} → row ts k ≡ w → PartOf p w → p < 512
  few e i = let a = law.few in let b = part_low law k e i in omega arith

  last_at : {p : ℕ} {w : TypeRow} → row ts k ≡ w → PartOf p w → Exactly (related ls p x) (Last ts p x)
  last_at {p} e i = lasts p x (few e i) lx

  first-at : {p : ℕ} {w : TypeRow} → row ts k ≡ w → PartOf p w → Exactly (related ws p n) (First ts p n)
  first-at {p} e i = firsts p n (few e i) ln

  pub meets-of : (w : TypeRow) → row ts k ≡ w → meets_by ls ws w x n ≡ true → MeetsAt ts k x n
  meets-of EmptyChoice e y = absurd (false≢true y)
  meets-of EmptySequence e y = absurd (false≢true y)
  meets-of Integer e y = absurd (false≢true y)
  meets-of String e y = absurd (false≢true y)
  meets-of Boolean e y = absurd (false≢true y)
  meets-of (Element g c) e y = absurd (false≢true y)
  meets-of (AnyElement c) e y = absurd (false≢true y)
  meets-of (Sequence a b) e y = let z = and_parts (related ls a x) (related ws b n) y in in_sequence e (known (last_at e (left refl)) z.0) (known (first-at e (right refl)) z.1)
  meets-of (Choice a b) e y = absurd (false≢true y)
  meets-of (Repetition a) e y = let z = and_parts (related ls a x) (related ws a n) y in in_repetition e (known (last_at e (repeats refl)) z.0) (known (first-at e (repeats refl)) z.1)

  pub of_meets : MeetsAt ts k x n → meets_by ls ws (row ts k) x n ≡ true
  of_meets (in_sequence {a} {b} e l f) = ap (λ w. meets_by ls ws w x n) e ∙ and_from (related ls a x) (related ws b n) (shown (last_at e (left refl)) l) (shown (first-at e (right refl)) f)
  of_meets (in_repetition {a} e l f) = ap (λ w. meets_by ls ws w x n) e ∙ and_from (related ls a x) (related ws a n) (shown (last_at e (repeats refl)) l) (shown (first-at e (repeats refl)) f)

  below_more : Exactly (related ws (512 + x) n) (MeetsBelow ts k x n) → Exactly (related ws (512 + x) n || meets_by ls ws (row ts k) x n) (MeetsBelow ts (k + 1) x n)
  below_more follows =
      let old = related ws (512 + x) n in
      let new = meets_by ls ws (row ts k) x n in
      exactly
      (λ y. elim (or_cases old new y) [
        | inl z ↦ (let p = known follows z in (p.0, (let q = p.1.0 in omega arith, p.1.1)))
        | inr z ↦ (k, (omega arith, meets-of (row ts k) refl z))
      ])
      (λ p. elim (cases_eq p.0 k) [
        | inl e ↦ or_right old new (of_meets (subst (λ s. MeetsAt ts s x n) e p.1.1))
        | inr e ↦ or_left old new (shown follows (p.0, (let q = p.1.0 in omega arith, p.1.1)))
      ])

pub met_more : {ts : List TypeRow} → Lawful ts → (ls : List ℕ) → ((r n : ℕ) → r < 512 → n < 512 → Exactly (related ls r n) (Last ts r n)) → (ws vs : List ℕ) (k : ℕ) → k < length ts → Met ts ws k → Followed ws vs (meets_by ls ws (row ts k)) → Met ts vs (k + 1)
met_more law ls lasts ws vs k lt h g = record {
  firsts = λ r n l m. exactly_same (g.firsts r n l m) (h.firsts r n l m);
  follows = λ x n l m. exactly_same (g.follows x n l m) (below_more law ls lasts ws k lt h.firsts x n l m (h.follows x n l m));
}
