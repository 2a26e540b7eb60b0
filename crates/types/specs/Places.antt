-- Places in a type: before everything, or behind one of its items; what may come next there, and whether the forest may end.
use Rattle.std.specs.Prelude.{◌≡◌, ℕ, ◌<◌, Bool, true, false, cond, List, [], ◌∷◌, Some, None, Option, ◌==◌}
use Rattle.forest.specs.Forests.{Forest}
use Rattle.rows.specs.declared.type_row.TypeRow.{TypeRow}
use Rattle.rows.specs.declared.type_row.TypeRow.TheVariants.{EmptyChoice, EmptySequence, Integer, String, Boolean, Element, AnyElement, Sequence, Choice, Repetition}
use Rattle.rows.specs.TypeRows.{owns}
use Rattle.types.specs.Parts.{row, content, Root, Lawful, Within}
use Rattle.types.specs.Belonging.{Belongs}
use Rattle.types.specs.Determinism.{Label, kind, tag, any_tag, label, overlaps, Nullable, First, Last, MeetsAt, Deterministic}

-- A place in the type of a row: its start, or behind one of its items.
pub data Place : Type 0 where
  start : ℕ → Place
  behind : ℕ → ℕ → Place

-- the row whose type the place is in
abbrev pub type_of : Place → ℕ
type_of (start r) = r
type_of (behind r n) = r

-- n follows m within r
abbrev pub FollowsIn : List TypeRow → ℕ → ℕ → ℕ → Type 0
FollowsIn ts r m n = (s : ℕ) × (Within ts r s × MeetsAt ts s m n)

-- the item n may come next
pub data Next (ts : List TypeRow) : Place → ℕ → Type 0 where
  next_first : {r n : ℕ} → First ts r n → Next ts (start r) n
  next_follow : {r m n : ℕ} → FollowsIn ts r m n → Next ts (behind r m) n

-- the forest may end
pub data Ends (ts : List TypeRow) : Place → Type 0 where
  end_nothing : {r : ℕ} → Nullable ts r → Ends ts (start r)
  end_last : {r m : ℕ} → Last ts r m → Ends ts (behind r m)

-- what is left behind the part p of row q, if s is left behind q
abbrev pub left_behind : TypeRow → ℕ → ℕ → List ℕ → List ℕ
left_behind EmptyChoice q p s = s
left_behind EmptySequence q p s = s
left_behind Integer q p s = s
left_behind String q p s = s
left_behind Boolean q p s = s
left_behind (Element t c) q p s = s
left_behind (AnyElement c) q p s = s
left_behind (Sequence a b) q p s = cond (p == a) (b ∷ s) s
left_behind (Choice a b) q p s = s
left_behind (Repetition a) q p s = q ∷ s

-- behind row p within r there is a list of rows left to be met
pub data Left (ts : List TypeRow) (r : ℕ) : ℕ → List ℕ → Type 0 where
  l_top : {p : ℕ} {k : List ℕ} → p ≡ r → k ≡ [] → Left ts r p k
  l_down : {q p : ℕ} {s k : List ℕ} → Left ts r q s → owns (row ts q) p ≡ true → k ≡ left_behind (row ts q) q p s → Left ts r p k

-- some forest belongs
abbrev pub Inhabited : List TypeRow → ℕ → Type 0
Inhabited ts r = (f : Forest) × Belongs ts r f

-- every row of a list has a forest
pub data AllInhabited (ts : List TypeRow) : List ℕ → Type 0 where
  a_end : AllInhabited ts []
  a_more : {r : ℕ} {k : List ℕ} → Inhabited ts r → AllInhabited ts k → AllInhabited ts (r ∷ k)

-- The item n of r can occur in some forest, wherever what stands before it can: it has a forest, and so has what is left behind it.
pub data Useful (ts : List TypeRow) (r n : ℕ) : Type 0 where
  useful : {k : List ℕ} → Inhabited ts n → Left ts r n k → AllInhabited ts k → Useful ts r n

-- all that the first asks for the second allows, contents aside
abbrev pub allows : Label → Label → Bool
allows (kind x) (kind y) = x == y
allows (kind x) (tag u) = false
allows (kind x) any_tag = false
allows (tag t) (kind y) = false
allows (tag t) (tag u) = t == u
allows (tag t) any_tag = true
allows any_tag (kind y) = false
allows any_tag (tag u) = false
allows any_tag any_tag = true

abbrev pub both_allow : Option Label → Option Label → Bool
both_allow None y = false
both_allow (Some x) None = false
both_allow (Some x) (Some y) = allows x y

abbrev pub covers : TypeRow → TypeRow → Bool
covers x y = both_allow (label x) (label y)

-- The pairs of places that one forest can come to, in a and in b.
pub data Reach (ts : List TypeRow) (a b : ℕ) : Place → Place → Type 0 where
  r_start : Reach ts a b (start a) (start b)
  r_on : {p q : Place} {n m : ℕ} → Reach ts a b p q → Next ts p n → Useful ts (type_of p) n → Next ts q m → overlaps (row ts n) (row ts m) ≡ true
      → Reach ts a b (behind (type_of p) n) (behind (type_of q) m)
  r_in : {p q : Place} {n m c d : ℕ} → Reach ts a b p q → Next ts p n → Useful ts (type_of p) n → Next ts q m → overlaps (row ts n) (row ts m) ≡ true
      → content (row ts n) ≡ Some c → content (row ts m) ≡ Some d → Reach ts a b (start c) (start d)

-- some next item of q covers n
abbrev pub Covered : List TypeRow → Place → ℕ → Type 0
Covered ts q n = (m : ℕ) × (Next ts q m × (covers (row ts n) (row ts m) ≡ true))

-- At each such pair: where the forest may end in a it may end in b, and each useful next item in a is covered in b.
pub record Simulates (ts : List TypeRow) (a b : ℕ) : Type 0 where
  pub ends : (p q : Place) → Reach ts a b p q → Ends ts p → Ends ts q
  pub steps : (p q : Place) (n : ℕ) → Reach ts a b p q → Next ts p n → Useful ts (type_of p) n → Covered ts q n

-- What a check finds of its table before it types anything: contents are roots, those of declared rows are declared, and every declared root is one-way.
pub record Checked (ts : List TypeRow) (declared : ℕ) : Type 0 where
  pub lawful : Lawful ts
  pub contents : (n c : ℕ) → content (row ts n) ≡ Some c → Root ts c
  pub declared_contents : (n c : ℕ) → n < declared → content (row ts n) ≡ Some c → c < declared
  pub one_way : (r : ℕ) → r < declared → Root ts r → Deterministic ts r
