-- What an arena means above the trees that it was opened over.
use Rattle.std.specs.Prelude.{◌≡◌, ℕ, ◌+◌, ◌-◌, ◌≤◌, min, Bool, true, false, List, [], ◌∷◌, ◌++◌, length, Some, None, vec_items, vec_len, Option, Result, option_map, IfSome, slice_get}
use Rattle.forest.specs.Forests.{Item}
use Rattle.forest.specs.declared.fault.Fault.{Fault}
use Rattle.forest.specs.Stores.{Meaning, less, make}
use Rattle.forest.specs.declared.space.Space.{Space}
use Rattle.arena.specs.declared.arena.Arena.{Arena}
use Rattle.arena.specs.declared.row.Row.{Row}
use Rattle.arena.specs.declared.row.Span.{Span}
use Rattle.arena.specs.Rows.{built, row_item, row_sound}

abbrev pub trees_over : List Item → Arena → List Item
trees_over ts a = built ts (vec_items a.children) (vec_items a.text) (vec_items a.rows)

abbrev pub means_over : List Item → Arena → Meaning
means_over ts a = record { trees = trees_over ts a; space = a.space }

-- P holds over any trees that the arena may stand above.
abbrev pub OverAny : Arena → (List Item → Type 0) → Type 0
OverAny a P = (ts : List Item) → length ts ≡ a.base → P ts

-- P holds of the trees of the whole, over any that the arena may stand above, if the handle h is not one of those below.
abbrev pub Reads : Arena → ℕ → (List Item → Type 0) → Type 0
Reads a h P = OverAny a (λ ts. a.base ≤ h → P (trees_over ts a))

-- The space of a new arena above n trees: what is asked for, as far as no store passes a million of anything.
abbrev pub allowed : ℕ → Space → Space
allowed n s = record { trees = min s.trees (1000000 - n); children = min s.children 1000000; bytes = min s.bytes 1000000 }

-- a is a new arena above n trees, a million at most, with the space s as far as that is allowed.
pub record Opened (n : ℕ) (s : Space) (a : Arena) : Type 0 where
  pub base : a.base ≡ min n 1000000
  pub space : a.space ≡ allowed n s
  pub rows : vec_items a.rows ≡ []
  pub children : vec_items a.children ≡ []
  pub text : vec_items a.text ≡ []
  pub trees : (ts : List Item) → trees_over ts a ≡ ts

-- What stands at the handle h: a row from the base on, whose tree is the one there and which is sound, or none.
pub record Found (a : Arena) (h : ℕ) (o : Option Row) : Type 0 where
  pub above : IfSome o (λ _. a.base ≤ h)
  pub tree : Reads a h (λ us. slice_get us h ≡ option_map (row_item us (vec_items a.children) (vec_items a.text)) o)
  pub good : IfSome o (λ r. row_sound h (vec_items a.children) (vec_items a.text) r ≡ true)

-- A call in a store of the layer l asked for a tree, by the trees that there are: r is what it answers, and b is the arena a after it.
abbrev pub Made : ℕ → (List Item → Option Item) → Arena → Result ℕ Fault → Arena → Type 0
Made l asked a r b = (b.base ≡ a.base) × OverAny a (λ ts. (r, means_over ts b) ≡ make l (asked (trees_over ts a)) (means_over ts a))

-- b is the arena a with one row more, at the handle h.
pub record Added (a b : Arena) (r : Row) (h : ℕ) : Type 0 where
  pub base : b.base ≡ a.base
  pub rows : vec_items b.rows ≡ vec_items a.rows ++ (r ∷ [])
  pub children : b.children ≡ a.children
  pub text : b.text ≡ a.text
  pub space : b.space ≡ less a.space (record { trees = 1; children = 0; bytes = 0 })
  pub handle : OverAny a (λ ts. h ≡ length (trees_over ts a))
  pub trees : OverAny a (λ ts. trees_over ts b ≡ trees_over ts a ++ (row_item (trees_over ts a) (vec_items a.children) (vec_items a.text) r ∷ []))

-- b is the arena a with the entries e and the bytes t put behind those that it has; its trees stay.
pub record Extended (a b : Arena) (e t : List ℕ) : Type 0 where
  pub base : b.base ≡ a.base
  pub rows : vec_items b.rows ≡ vec_items a.rows
  pub children : vec_items b.children ≡ vec_items a.children ++ e
  pub text : vec_items b.text ≡ vec_items a.text ++ t
  pub space : b.space ≡ less a.space (record { trees = 0; children = length e; bytes = length t })
  pub trees : (ts : List Item) → trees_over ts b ≡ trees_over ts a

-- what is put behind xs
abbrev pub behind : {X : Type 0} → List X → List X → Span
behind xs more = record { from = length xs; length = length more }

-- Entries and text are put behind where the space holds them; else nothing changes.
abbrev pub Filled : Arena → List ℕ → List ℕ → Option (Unit {0}) → Arena → Type 0
Filled a e t (Some _) b = (length e ≤ a.space.children) × (length t ≤ a.space.bytes) × Extended a b e t
Filled a e t None b = (b ≡ a) × ((length e ≤ a.space.children) → (length t ≤ a.space.bytes) → ⊥)

-- whether a row may stand behind those of an arena
abbrev pub fits_behind : Arena → Row → Bool
fits_behind a r = row_sound (a.base + vec_len a.rows) (vec_items a.children) (vec_items a.text) r

-- A row is added, at the handle that is given, where it is sound and there is space; else nothing changes.
abbrev pub Appended : Arena → Row → Option ℕ → Arena → Type 0
Appended a r (Some h) b = (1 ≤ a.space.trees) × (fits_behind a r ≡ true) × Added a b r h
Appended a r None b = (b ≡ a) × (1 ≤ a.space.trees → fits_behind a r ≡ false)
