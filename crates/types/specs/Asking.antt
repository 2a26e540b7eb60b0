-- When a question about types can be answered, and how it is refused.
use Rattle.std.specs.Prelude.{◌≡◌, ℕ, ◌<◌, Bool, List, length, Ok, Err, Result}
use Rattle.forest.specs.declared.fault.Fault.{Fault}
use Rattle.forest.specs.declared.fault.Reason.TheVariants.{TypeMissing, Ambiguous}
use Rattle.forest.specs.Faults.{faulted}
use Rattle.rows.specs.declared.type_row.TypeRow.{TypeRow}
use Rattle.types.specs.Parts.{Root, Rooted}
use Rattle.types.specs.Belonging.{Subtype}
use Rattle.types.specs.Determinism.{Deterministic}
use Rattle.types.specs.Tables.{Exactly, FailsFirst}

-- row n is no root, or it is one-way
abbrev pub OneWay : List TypeRow → ℕ → Type 0
OneWay ts n = Root ts n → Deterministic ts n

-- every content is there and a root
abbrev pub ContentsRooted : List TypeRow → Type 0
ContentsRooted ts = (n : ℕ) → n < length ts → Rooted ts n

-- Every content is there and a root, what is asked about is there, and every root is one-way.
pub record Askable (ts : List TypeRow) (There : Type 0) : Type 0 where
  pub contents : ContentsRooted ts
  pub there : There
  pub one_way : (n : ℕ) → n < length ts → OneWay ts n

-- Otherwise the question is refused: first for the lowest row whose content is missing or no root, then for what is asked about, then for the lowest
-- root that is not one-way.
pub data Unaskable (ts : List TypeRow) (There : Type 0) : Fault → Type 0 where
  no_content : {n : ℕ} → FailsFirst ts (Rooted ts) n → Unaskable ts There (faulted TypeMissing 2 n)
  not_there : ContentsRooted ts → (There → ⊥) → Unaskable ts There (faulted TypeMissing 2 0)
  not_one_way : {n : ℕ} → ContentsRooted ts → There → FailsFirst ts (OneWay ts) n → Unaskable ts There (faulted Ambiguous 2 n)

-- Whether a root is one-way. What is no root is refused.
abbrev pub TellsOneWay : List TypeRow → ℕ → Result Bool Fault → Type 0
TellsOneWay ts r (Ok b) = Root ts r × Exactly b (Deterministic ts r)
TellsOneWay ts r (Err f) = (Root ts r → ⊥) × (f ≡ faulted TypeMissing 2 0)

-- row a is there, and b is a root
abbrev pub RowAndRoot : List TypeRow → ℕ → ℕ → Type 0
RowAndRoot ts a b = (a < length ts) × Root ts b

-- Whether every forest of row a belongs to the root b.
abbrev pub TellsSubtype : List TypeRow → ℕ → ℕ → Result Bool Fault → Type 0
TellsSubtype ts a b (Ok answer) = Askable ts (RowAndRoot ts a b) × Exactly answer (Subtype ts a b)
TellsSubtype ts a b (Err f) = Unaskable ts (RowAndRoot ts a b) f
