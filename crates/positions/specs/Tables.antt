-- What the tables of positions hold.
use Rattle.std.specs.Prelude.{ℕ, ◌+◌, ◌<◌, Bool, List, length, slice_index}
use Rattle.rows.specs.declared.type_row.TypeRow.{TypeRow}
use Rattle.bits.specs.Bits.{related}
use Rattle.types.specs.Parts.{Root, Within}
use Rattle.types.specs.Determinism.{Nullable, First, Last}
use Rattle.types.specs.Places.{Left, Inhabited, AllInhabited}
use Rattle.types.specs.Tables.{Exactly}
use Rattle.positions.specs.declared.moves.Moves.{Moves}
use Rattle.positions.specs.Below.{flag, MeetsBelow, FreeBelow}

-- The moves within the rows that nothing below `end` owns, as if nothing stood around them.
pub record MovesBelow (ts : List TypeRow) (end : ℕ) (m : Moves) : Type 0 where
  pub firsts : (r n : ℕ) → r < 512 → n < 512 → Exactly (related m.next.words r n) (First ts r n)
  pub follows : (x n : ℕ) → x < 512 → n < 512 → Exactly (related m.next.words (512 + x) n) (MeetsBelow ts end x n)
  pub live : (c r : ℕ) (k : List ℕ) → c < end → FreeBelow ts end c → Left ts c r k → Exactly (flag m.live.marks r) (AllInhabited ts k)

-- The tables are those of the types ts.
pub record TablesOf (ts : List TypeRow) (nullables alives : List Bool) (tops last_items : List ℕ) (moves : Moves) : Type 0 where
  pub nullable : (r : ℕ) → Exactly (flag nullables r) (Nullable ts r)
  pub lasts : (r n : ℕ) → r < 512 → n < 512 → Exactly (related last_items r n) (Last ts r n)
  pub top_root : (r : ℕ) → r < length ts → Root ts (slice_index tops r)
  pub top_within : (r : ℕ) → r < length ts → Within ts (slice_index tops r) r
  pub alive : (r : ℕ) → Exactly (flag alives r) (Inhabited ts r)
  pub whole : MovesBelow ts (length ts) moves
