-- Stages of typing on the way to the table that it leaves, and the forests of variables there.
use Rattle.std.proofs.Common.{◌≡◌, ℕ, zero, suc, ◌+◌, ◌<◌, ◌≤◌, Bool, true, List, [], ◌∷◌, ◌++◌, length, get_or, Some, ap, ◌∙◌, subst, arith}
use Rattle.std.specs.Prelude.{slice_get}
use Rattle.std.proofs.lemmas.List.{length_push}
use Rattle.forest.specs.Forests.{Forest, none}
use Rattle.rows.specs.declared.type_row.TypeRow.{TypeRow}
use Rattle.rows.specs.Programs.{ProgramRows}
use Rattle.types.specs.Parts.{row}
use Rattle.types.specs.Belonging.{Belongs, by_first, by_second, Subtype}
use Rattle.types.proofs.Longer.{Longer, longer_same, longer_on, same_forests}
use Rattle.typing.specs.Outcomes.{Progress}
use Rattle.typing.specs.Programs.{Orderly}
use Rattle.typing.specs.Rules.{Added, Chosen, one, more, copied, Walks}
use Rattle.typing.specs.Growth.{Kept}
use Rattle.typing.proofs.GrowthSteps.{longer_of, Start}
use Rattle.typing.proofs.Growth.{walks_grow}
use Rattle.typing.proofs.GrowthMeaning.{contents_there, added_row, added_longer, copy_forests}

-- p is a stage on the way to the table us, and to `error`
pub record Before (us : List TypeRow) (error : Bool) (p : Progress) : Type 0 where
  pub longer : Longer p.types us
  pub erring : p.error ≡ true → error ≡ true

-- b is one of them
pub data Among (b : ℕ) : List ℕ → Type 0 where
  it : {xs : List ℕ} → Among b (b ∷ xs)
  other : {x : ℕ} {xs : List ℕ} → Among b xs → Among b (x ∷ xs)

module _ {us : List TypeRow} {error : Bool} where
  pub before_kept : {declared : ℕ} {p q : Progress} → Kept declared p q → Before us error q → Before us error p
  before_kept k b = record { longer = longer_on (longer_of k.grows) b.longer; erring = λ e. b.erring (k.error e) }

  pub before_added : {w : TypeRow} {p q : Progress} {x : ℕ} → Added w p x q → Before us error q → Before us error p
  before_added a b = record { longer = longer_on (added_longer a) b.longer; erring = λ e. b.erring (ap (λ o. o.error) a.table ∙ e) }

  pub before_chosen : {x r : ℕ} {ys : List ℕ} {p q : Progress} → Chosen x ys p r q → Before us error q → Before us error p
  before_chosen one b = b
  before_chosen (more a c) b = before_added a (before_chosen c b)

  -- the row that was added
  pub row_now : {w : TypeRow} {p q : Progress} {x : ℕ} → Added w p x q → Before us error q → row us x ≡ w
  row_now {w} {p} {q} {x} a b =
      let e = a.place in
      let l : length q.types ≡ length p.types + 1 = ap (λ o. length o.types) a.table ∙ length_push p.types w in
      b.longer.same x (omega arith) ∙ added_row a

  -- CHOICES

  first_chosen : {x r : ℕ} {ys : List ℕ} {p q : Progress} {f : Forest} → Chosen x ys p r q → Before us error q → Belongs us x f → Belongs us r f
  first_chosen one b h = h
  first_chosen (more a c) b h = first_chosen c b (by_first (row_now a (before_chosen c b)) h)

  other_chosen : {x y r : ℕ} {ys : List ℕ} {p q : Progress} {f : Forest} → Chosen x ys p r q → Before us error q → Among y ys → Belongs us y f → Belongs us r f
  other_chosen one b m h = elim m [ ]
  other_chosen (more a c) b it h = first_chosen c b (by_second (row_now a (before_chosen c b)) h)
  other_chosen (more a c) b (other m) h = other_chosen c b m h

  pub chosen_belongs : {x y r : ℕ} {ys : List ℕ} {p q : Progress} {f : Forest} → Chosen x ys p r q → Before us error q → Among y (x ∷ ys) → Belongs us y f → Belongs us r f
  chosen_belongs c b it h = first_chosen c b h
  chosen_belongs c b (other m) h = other_chosen c b m h

  -- SUBTYPES AND COPIES

  module _ {declared : ℕ} where
    -- row a fits b: at an earlier stage, so in the end
    pub fits_belongs : {p : Progress} {a b : ℕ} {f : Forest} → Start declared p → Before us error p → a < length p.types → b < length p.types → Subtype p.types a b → Belongs us a f → Belongs us b f
    fits_belongs {p} {a} {b} {f} s m la lb h k =
        let law = s.checked.lawful in
        let there = contents_there s.checked in
        (same_forests m.longer law there b f lb).0 (h f ((same_forests m.longer law there a f la).1 k))

    pub copied_belongs : {g : ProgramRows} {r x : ℕ} {p q : Progress} {f : Forest} → Orderly g → Start declared p → r < length p.types → Walks g copied p.types r p x q → Before us error q → Belongs us r f → Belongs us x f
    copied_belongs {r = r} {x} {p} {q} {f} orderly s l w b h =
        let k = walks_grow orderly s (longer_same p.types) w in
        let law = k.kept.checked.lawful in
        let there = contents_there k.kept.checked in
        let long = (longer_of k.kept.grows).long in
        let back = (same_forests b.longer law there r f (omega arith)).1 h in
        (same_forests b.longer law there x f k.fresh.free.root.there).0 ((copy_forests orderly s l w f).1 back)

-- VARIABLES: each one's row is among the first m, and its forest belongs to it

pub data Held (us : List TypeRow) (m : ℕ) : List ℕ → List Forest → Type 0 where
  held_none : Held us m [] []
  held_more : {r : ℕ} {f : Forest} {rs : List ℕ} {fs : List Forest} → r < m → Belongs us r f → Held us m rs fs → Held us m (r ∷ rs) (f ∷ fs)

pub held_on : {us : List TypeRow} {m n : ℕ} {rs : List ℕ} {fs : List Forest} → m ≤ n → Held us m rs fs → Held us n rs fs
held_on l held_none = held_none
held_on l (held_more k b h) = held_more (omega arith) b (held_on l h)

pub held_with : {us : List TypeRow} {m r : ℕ} {f : Forest} {rs : List ℕ} {fs : List Forest} → Held us m rs fs → r < m → Belongs us r f → Held us m (rs ++ (r ∷ [])) (fs ++ (f ∷ []))
held_with held_none l b = held_more l b held_none
held_with (held_more k c h) l b = held_more k c (held_with h l b)

pub held_at : {us : List TypeRow} {m r : ℕ} {rs : List ℕ} {fs : List Forest} (i : ℕ) → Held us m rs fs → slice_get rs i ≡ Some r → (r < m) × Belongs us r (get_or fs i none)
held_at {r = r} i held_none e = let z : ◌≡◌ {A = ℕ} 0 1 = cc in absurd (omega arith)
held_at {us} {m} {r} zero (held_more {r = x} {f} l b h) e = let z : x ≡ r = cc in subst (λ y. (y < m) × Belongs us y f) z (l, b)
held_at (suc i) (held_more l b h) e = held_at i h e
