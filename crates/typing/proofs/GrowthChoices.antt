-- The types of the branches of a match, and their choices.
use Rattle.std.proofs.Common.{◌≡◌, ℕ, ◌<◌, ◌≤◌, ◌||◌, eqb, false, List, [], ◌∷◌, ◌++◌, length, sym, ap, subst, arith}
use Rattle.std.proofs.lemmas.Bool.{ne_eqb, or_from}
use Rattle.rows.specs.declared.type_row.TypeRow.{TypeRow}
use Rattle.rows.specs.declared.type_row.TypeRow.TheVariants.{Choice}
use Rattle.typing.specs.Outcomes.{Progress}
use Rattle.typing.specs.Rules.{Added, Chosen, one, more}
use Rattle.typing.specs.Growth.{Grows, Kept, Fresh, Keeps}
use Rattle.typing.proofs.GrowthRows.{Suits, free_still}
use Rattle.typing.proofs.GrowthSteps.{longer_of, free_on, Start, added}
use Rattle.typing.proofs.GrowthMade.{suits_choice}

-- FRESH ROWS

pub fresh_on : {base ts us : List TypeRow} {x : ℕ} → Fresh base ts x → Grows ts us → Fresh base us x
fresh_on f g = record { new = f.new; free = free_on f.free g }

pub fresh_since : {base ts us : List TypeRow} {x : ℕ} → Grows base ts → Fresh ts us x → Fresh base us x
fresh_since g f = let l = (longer_of g).long in let n = f.new in record { new = omega arith; free = f.free }

-- x is none of these
abbrev pub Differs : ℕ → List ℕ → Type 0
Differs x [] = Unit {0}
Differs x (y ∷ ys) = (x ≡ y → ⊥) × Differs x ys

-- fresh rows, each of them once
pub data AllFresh (base ts : List TypeRow) : List ℕ → Type 0 where
  all_none : AllFresh base ts []
  all_more : {x : ℕ} {xs : List ℕ} → Fresh base ts x → Differs x xs → AllFresh base ts xs → AllFresh base ts (x ∷ xs)

pub all_since : {base ts us : List TypeRow} {xs : List ℕ} → Grows base ts → AllFresh ts us xs → AllFresh base us xs
all_since g all_none = all_none
all_since g (all_more f d a) = all_more (fresh_since g f) d (all_since g a)

-- what was there before them is none of them, nor is what comes behind
pub before_all : {base ts : List TypeRow} (x : ℕ) {xs : List ℕ} → x < length base → AllFresh base ts xs → Differs x xs
before_all x l all_none = tt
before_all x l (all_more f d a) = let n = f.new in (λ e. omega arith, before_all x l a)

pub behind_all : {base ts : List TypeRow} (x : ℕ) {xs : List ℕ} → length ts ≤ x → AllFresh base ts xs → Differs x xs
behind_all x l all_none = tt
behind_all x l (all_more f d a) = let t = f.free.root.there in (λ e. omega arith, behind_all x l a)

-- THEIR CHOICES

all_still : {base ts : List TypeRow} {x y : ℕ} {zs : List ℕ} → Suits base ts (Choice x y) → Differs x zs → Differs y zs → AllFresh base ts zs → AllFresh base (ts ++ (Choice x y ∷ [])) zs
all_still s dx dy all_none = all_none
all_still {x = x} {y} s dx dy (all_more {x = z} f d a) =
    let not : (eqb x z || eqb y z) ≡ false = or_from (eqb x z) (eqb y z) (ne_eqb x z dx.0) (ne_eqb y z dy.0) in
    all_more (record { new = f.new; free = free_still s f.free not (λ e. let k : ◌≡◌ {A = ℕ} 0 1 = cc in omega arith) }) d (all_still s dx.1 dy.1 a)

-- the first of them and the others
pub record Parted (base ts : List TypeRow) (x : ℕ) (xs : List ℕ) : Type 0 where
  pub first : Fresh base ts x
  pub differs : Differs x xs
  pub others : AllFresh base ts xs

pub parted : {base ts : List TypeRow} {x : ℕ} {xs : List ℕ} → AllFresh base ts (x ∷ xs) → Parted base ts x xs
parted (all_more f d a) = record { first = f; differs = d; others = a }

-- one choice more
pub record Joined (declared : ℕ) (b : Progress) (x : ℕ) (xs : List ℕ) (p : Progress) : Type 0 where
  pub kept : Kept declared b p
  pub rows : Parted b.types p.types x xs

pub choice_more : {declared : ℕ} {b p q : Progress} {x y z : ℕ} {ys : List ℕ} → Start declared b → Joined declared b x (y ∷ ys) p → Added (Choice x y) p z q → Joined declared b z ys q
choice_more {b = b} {p} {q} {x} {y} {z} {ys} s j m =
    let all = j.rows in
    let rest = parted all.others in
    let suits = suits_choice all.first rest.first all.differs.0 in
    let here = added s j.kept suits m in
    let table : q.types ≡ p.types ++ (Choice x y ∷ []) = ap (λ o. o.types) m.table in
    let place = m.place in
    let differs : Differs z ys = behind_all z (omega arith) rest.others in
    let others : AllFresh b.types q.types ys = subst (λ t. AllFresh b.types t ys) (sym table) (all_still suits all.differs.1 rest.differs rest.others) in
    record { kept = here.kept; rows = record { first = here.fresh; differs = differs; others = others } }

pub chosen_keeps : {declared : ℕ} {b : Progress} {x r : ℕ} {xs : List ℕ} {p q : Progress} → Start declared b → Joined declared b x xs p → Chosen x xs p r q → Keeps declared b r q
chosen_keeps s j (one) = record { kept = j.kept; fresh = j.rows.first }
chosen_keeps s j (more m h) = chosen_keeps s (choice_more s j m) h
