-- The tables of items are right.
use Rattle.std.specs.Prelude.{◌≡◌, ℕ, ◌+◌, ◌<◌, ◌≤◌, Bool, false, List}
use Rattle.rows.specs.declared.type_row.TypeRow.{TypeRow}
use Rattle.types.specs.Determinism.{Nullable, First, Last}
use Rattle.types.specs.Tables.{Exactly}
use Rattle.bits.specs.Bits.{related}
use Rattle.positions.specs.Below.{flag, MeetsBelow}

-- the flags are of the rows that may be nothing
abbrev pub Nulls : List TypeRow → List Bool → Type 0
Nulls ts v = (r : ℕ) → Exactly (flag v r) (Nullable ts r)

-- the first items of each row
abbrev pub Firsts : List TypeRow → List ℕ → Type 0
Firsts ts ws = (r n : ℕ) → r < 512 → n < 512 → Exactly (related ws r n) (First ts r n)

-- the last items of each row
abbrev pub Lasts : List TypeRow → List ℕ → Type 0
Lasts ts ws = (r n : ℕ) → r < 512 → n < 512 → Exactly (related ws r n) (Last ts r n)

-- nothing follows any item yet
abbrev pub Unfollowed : List ℕ → Type 0
Unfollowed ws = (r n : ℕ) → 512 ≤ r → n < 512 → related ws r n ≡ false

-- behind the first items, those that follow each item by meeting it below `end`
abbrev pub FollowsBelow : List TypeRow → ℕ → List ℕ → Type 0
FollowsBelow ts end ws = (x n : ℕ) → x < 512 → n < 512 → Exactly (related ws (512 + x) n) (MeetsBelow ts end x n)
