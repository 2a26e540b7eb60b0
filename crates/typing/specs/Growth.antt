-- What typing keeps: the table only grows, new rows own new rows alone, and the row that is given is no part and no content yet.
use Rattle.std.specs.Prelude.{◌≡◌, ℕ, ◌≤◌, true, ◌⊎◌, ◌↔◌, List, ◌++◌, length, Some}
use Rattle.forest.specs.Forests.{Forest}
use Rattle.rows.specs.declared.type_row.TypeRow.{TypeRow}
use Rattle.rows.specs.TypeRows.{owns}
use Rattle.types.specs.Parts.{row, content, Root}
use Rattle.types.specs.Belonging.{Belongs}
use Rattle.types.specs.Places.{Checked}
use Rattle.typing.specs.Outcomes.{Progress}

-- c is the content of some row
abbrev pub Named : List TypeRow → ℕ → Type 0
Named ts c = (n : ℕ) × (content (row ts n) ≡ Some c)

-- a root that is no content
pub record Free (ts : List TypeRow) (r : ℕ) : Type 0 where
  pub root : Root ts r
  pub unnamed : Named ts r → ⊥

-- us is ts with more rows behind: their parts are among them, and so are their contents, but for contents of rows of ts
pub record Grows (ts us : List TypeRow) : Type 0 where
  pub more : List TypeRow
  pub table : us ≡ ts ++ more
  pub parts : (i p : ℕ) → length ts ≤ i → owns (row us i) p ≡ true → length ts ≤ p
  pub contents : (i c : ℕ) → length ts ≤ i → content (row us i) ≡ Some c → (length ts ≤ c) ⊎ Named ts c

-- From p to q the table grows, an error stays one, and the rules on rows are kept.
pub record Kept (declared : ℕ) (p q : Progress) : Type 0 where
  pub grows : Grows p.types q.types
  pub error : p.error ≡ true → q.error ≡ true
  pub checked : Checked q.types declared

-- row x of us is none of ts, and nothing names it yet
pub record Fresh (ts us : List TypeRow) (x : ℕ) : Type 0 where
  pub new : length ts ≤ x
  pub free : Free us x

-- Typing that starts at p gives row x, leaving q.
pub record Keeps (declared : ℕ) (p : Progress) (x : ℕ) (q : Progress) : Type 0 where
  pub kept : Kept declared p q
  pub fresh : Fresh p.types q.types x

-- row x of us has the forests of row r of ts
abbrev pub Alike : List TypeRow → ℕ → List TypeRow → ℕ → Type 0
Alike us x ts r = (f : Forest) → Belongs us x f ↔ Belongs ts r f
