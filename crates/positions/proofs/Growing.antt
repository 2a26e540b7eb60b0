-- Tables of bits that grow row by row.
use Rattle.std.proofs.Common.{◌≡◌, ℕ, ◌+◌, ◌*◌, ◌/◌, ◌%◌, ◌<◌, ◌≤◌, Bool, true, false, ◌&&◌, ◌||◌, ◌≢◌, List, length, sym, ap, ◌∙◌, subst, inl, inr, arith}
use Rattle.std.proofs.lemmas.Bool.{cases_eq, cases_lt, eq-eqb, ne_eqb}
use Rattle.std.proofs.Math.Bool.{or_assoc, or-false}
use Rattle.types.proofs.Exact.{exactly_same, exactly_none}
use Rattle.bits.specs.Bits.{bit, related, United}
use Rattle.types.specs.Tables.{Exactly}
use Rattle.rows.specs.declared.type_row.TypeRow.{TypeRow}
use Rattle.positions.specs.Filling.{ends_by, Grown}

-- ONE ROW

pub grown-same : {ws vs : List ℕ} {r : ℕ} {f g : ℕ → Bool} → ((n : ℕ) → n < 512 → f n ≡ g n) → Grown ws vs r f → Grown ws vs r g
grown-same {ws} {r = r} e h = record { others = h.others; here = λ n l. h.here n l ∙ ap (λ b. related ws r n || b) (e n l) }

pub grown-two : {ws vs us : List ℕ} {r : ℕ} {f g : ℕ → Bool} → Grown ws vs r f → Grown vs us r g → Grown ws us r (λ n. f n || g n)
grown-two {ws} {r = r} {f} {g} h k = record {
  others = λ q n e l. k.others q n e l ∙ h.others q n e l;
  here = λ n l. k.here n l ∙ ap (λ b. b || g n) (h.here n l) ∙ or_assoc (related ws r n) (f n) (g n);
}

pub grown-unite : (ws vs : List ℕ) (to from : ℕ) → to * 8 + 8 ≤ length ws → from < to → United ws vs to from → Grown ws vs to (related ws from)
grown-unite ws vs to from long low h =
    let bits = h.bits long (omega arith) in
    record {
      others = λ r n e l.
          let q : (r * 512 + n) / 512 ≢ to = omega arith in
          bits (r * 512 + n) ∙ ap (λ b. bit ws (r * 512 + n) || (b && bit ws (from * 512 + (r * 512 + n) % 512))) (ne_eqb ((r * 512 + n) / 512) to q) ∙ or-false (bit ws (r * 512 + n));
      here = λ n l.
          let q : (to * 512 + n) / 512 ≡ to = omega arith in
          let m : (to * 512 + n) % 512 ≡ n = omega arith in
          bits (to * 512 + n) ∙ ap (λ b. bit ws (to * 512 + n) || (b && bit ws (from * 512 + (to * 512 + n) % 512))) (eq-eqb ((to * 512 + n) / 512) to q) ∙ ap (λ x. bit ws (to * 512 + n) || bit ws (from * 512 + x)) m;
    }

-- ROW BY ROW

-- the rows below k hold the relation, the others nothing
pub record Filled (R : ℕ → ℕ → Type 0) (ws : List ℕ) (k : ℕ) : Type 0 where
  pub below : (r n : ℕ) → r < k → n < 512 → Exactly (related ws r n) (R r n)
  pub rest : (r n : ℕ) → k ≤ r → n < 512 → related ws r n ≡ false

pub filled_none : (R : ℕ → ℕ → Type 0) (ws : List ℕ) → ((j : ℕ) → bit ws j ≡ false) → Filled R ws 0
filled_none R ws e = record { below = λ r n l h. absurd (omega arith); rest = λ r n l h. e (r * 512 + n) }

pub filled_more : (R : ℕ → ℕ → Type 0) {ws vs : List ℕ} {k : ℕ} {f : ℕ → Bool} → Filled R ws k → Grown ws vs k f → ((n : ℕ) → n < 512 → Exactly (f n) (R k n)) → Filled R vs (k + 1)
filled_more R {ws} {vs} {k} {f} h g e = record {
  below = λ r n l m. elim (cases_eq r k) [
    | inl i ↦ subst (λ x. Exactly (related vs x n) (R x n)) (sym i) (exactly_same (g.here n m ∙ ap (λ b. b || f n) (h.rest k n (omega arith) m)) (e n m))
    | inr i ↦ exactly_same (g.others r n i m) (h.below r n (omega arith) m)
  ];
  rest = λ r n l m. g.others r n (omega arith) m ∙ h.rest r n (omega arith) m;
}

pub filled_all : {R : ℕ → ℕ → Type 0} {ws : List ℕ} {k : ℕ} → Filled R ws k → ((r n : ℕ) → k ≤ r → R r n → ⊥) → (r n : ℕ) → n < 512 → Exactly (related ws r n) (R r n)
filled_all {k = k} h none r n m = elim (cases_lt r k) [ inl l ↦ h.below r n l m | inr l ↦ exactly_none (h.rest r n l m) (none r n l) ]

-- THE PARTS OF A ROW

pub grown-both : (ws vs us : List ℕ) (k a b : ℕ) → k * 8 + 8 ≤ length ws → length vs ≡ length ws → a < k → b < k → United ws vs k a → United vs us k b → Grown ws us k (λ n. related ws a n || related ws b n)
grown-both ws vs us k a b long same la lb x y =
    let g = grown-unite ws vs k a long la x in
    grown-same (λ n l. ap (λ z. related ws a n || z) (g.others b n (omega arith) l)) (grown-two g (grown-unite vs us k b (omega arith) lb y))

-- a row gains what its row of the table of types says
pub grown-row : (t : List Bool) {ws vs : List ℕ} {k : ℕ} {r w : TypeRow} {f : ℕ → Bool} → r ≡ w → ((n : ℕ) → f n ≡ ends_by t ws k w n) → Grown ws vs k f → Grown ws vs k (ends_by t ws k r)
grown-row t {ws} {k = k} e h g = grown-same (λ n l. h n ∙ ap (λ x. ends_by t ws k x n) (sym e)) g

-- behind a left part that may be nothing the right part counts too
pub null_left : (x y : Bool) {z : Bool} → true ≡ z → (x || y) ≡ (x || (z && y))
null_left x y e = ap (λ z. x || (z && y)) e

pub not_null_left : (x y : Bool) {z : Bool} → false ≡ z → x ≡ (x || (z && y))
not_null_left x y e = sym (or-false x) ∙ ap (λ z. x || (z && y)) e
