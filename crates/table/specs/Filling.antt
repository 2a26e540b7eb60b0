-- An arena as a table's rows are added to it.
use Rattle.std.specs.Prelude.{◌≡◌, ℕ, ◌+◌, true, false, List, [], ◌∷◌, ◌++◌, length, Some, None, vec_items, vec_len, Option}
use Rattle.forest.specs.declared.failure.Failure.{Failure}
use Rattle.forest.specs.declared.failure.Failure.TheVariants.{Refused}
use Rattle.forest.specs.declared.fault.Reason.TheVariants.{UnlawfulTable}
use Rattle.forest.specs.Faults.{faulted}
use Rattle.forest.specs.Stores.{less}
use Rattle.arena.specs.declared.arena.Arena.{Arena}
use Rattle.table.specs.declared.row.RawRow.{RawRow}
use Rattle.table.specs.Tables.{rows_of, row_lawful, first_unlawful}

-- an arena above no trees, with child entries and text, no rows, and space for n rows and nothing else
pub record Prepared (n : ℕ) (es bs : List ℕ) (a : Arena) : Type 0 where
  pub base : a.base ≡ 0
  pub rows : vec_items a.rows ≡ []
  pub children : vec_items a.children ≡ es
  pub text : vec_items a.text ≡ bs
  pub space : a.space ≡ record { trees = n; children = 0; bytes = 0 }

-- b is the arena a with these rows behind those that it has
pub record Holds (a : Arena) (rs : List RawRow) (b : Arena) : Type 0 where
  pub base : b.base ≡ a.base
  pub rows : vec_items b.rows ≡ vec_items a.rows ++ rows_of rs
  pub long : vec_len b.rows ≡ vec_len a.rows + length rs
  pub children : b.children ≡ a.children
  pub text : b.text ≡ a.text
  pub space : b.space ≡ less a.space (record { trees = length rs; children = 0; bytes = 0 })

-- a lawful row is added; at another nothing changes
abbrev pub Took : Arena → RawRow → Option ℕ → Arena → Type 0
Took a r (Some h) b = (row_lawful (a.base + vec_len a.rows) (vec_items a.children) (vec_items a.text) r ≡ true) × Holds a (r ∷ []) b
Took a r None b = row_lawful (a.base + vec_len a.rows) (vec_items a.children) (vec_items a.text) r ≡ false

-- every row is lawful and was added
abbrev pub Full : Arena → List RawRow → Arena → Type 0
Full a rs b = (first_unlawful 0 (vec_items a.children) (vec_items a.text) rs ≡ None) × Holds a rs b

-- a row is not lawful, and the first such one is named
abbrev pub Stopped : Arena → List RawRow → Failure → Type 0
Stopped a rs e = (k : ℕ) × (first_unlawful 0 (vec_items a.children) (vec_items a.text) rs ≡ Some k) × (e ≡ Refused (faulted UnlawfulTable 4 k))
