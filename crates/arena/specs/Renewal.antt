-- An arena that is opened again, with space of its own.
use Rattle.std.specs.Prelude.{◌≡◌, ◌+◌, ◌-◌, min, Bool, ◌&&◌, List, length, nat_le, vec_items, vec_len, vec_capacity}
use Rattle.forest.specs.Forests.{Item}
use Rattle.forest.specs.declared.space.Space.{Space}
use Rattle.arena.specs.declared.arena.Arena.{Arena}
use Rattle.arena.specs.Arenas.{trees_over}

-- what is asked for, as far as there are no more than a million of anything with what the arena has
abbrev pub allowed_beside : Arena → Space → Space
allowed_beside a s = record { trees = min s.trees (1000000 - a.base - length (vec_items a.rows)); children = min s.children (1000000 - length (vec_items a.children)); bytes = min s.bytes (1000000 - length (vec_items a.text)) }

-- b has all that a has, and so its trees; and the space s as far as that is allowed.
pub record Renewed (a : Arena) (s : Space) (b : Arena) : Type 0 where
  pub base : b.base ≡ a.base
  pub rows : vec_items b.rows ≡ vec_items a.rows
  pub children : vec_items b.children ≡ vec_items a.children
  pub text : vec_items b.text ≡ vec_items a.text
  pub space : b.space ≡ allowed_beside a s
  pub trees : (ts : List Item) → trees_over ts b ≡ trees_over ts a

-- whether a has memory for s beside what it has
abbrev pub has_room : Arena → Space → Bool
has_room a s = nat_le (vec_len a.rows + s.trees) (vec_capacity a.rows) && (nat_le (vec_len a.children + s.children) (vec_capacity a.children) && nat_le (vec_len a.text + s.bytes) (vec_capacity a.text))

-- b has the rows, entries and text of a where they lie: nothing was copied.
abbrev pub InPlace : Arena → Arena → Type 0
InPlace a b = (b.rows ≡ a.rows) × (b.children ≡ a.children) × (b.text ≡ a.text)
