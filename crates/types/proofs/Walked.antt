-- A walk along a forest, item by item, from place to place of a one-way type.
use Rattle.std.proofs.Common.{◌≡◌, ℕ, List, refl, subst}
use Rattle.forest.specs.Forests.{Scalar, Forest, none, leaf, node}
use Rattle.rows.specs.declared.type_row.TypeRow.{TypeRow}
use Rattle.types.specs.Places.{Place, behind, type_of, Next, Ends, Checked}
use Rattle.types.proofs.Owed.{Takes, t_scalar, t_element, t_any, Owed}
use Rattle.types.proofs.Steps.{Start, went, stepped, none-owed, all-null}
use Rattle.types.proofs.Steps.{start as begin}
use Rattle.types.proofs.Standing.{Stands, goes, step_of, ends_of, nulls_of}
use Rattle.types.proofs.Complete.{Heads, takes_heads, heads_overlap, rest, Declared, same_next, one_way_at}

-- what is left of a forest behind its first item
pub same_rest : {ts : List TypeRow} {m n : ℕ} {f g h : Forest} → Takes ts m f g → Takes ts n f h → g ≡ h
same_rest (t_scalar e l) (t_scalar i j) = refl
same_rest (t_element e l b) (t_element i j d) = refl
same_rest (t_element e l b) (t_any i j d) = refl
same_rest (t_any e l b) (t_element i j d) = refl
same_rest (t_any e l b) (t_any i j d) = refl

-- behind an item that was taken: the rest belongs there exactly if the whole belonged before
pub record Past (ts : List TypeRow) (q : Place) (k : List ℕ) (m : ℕ) (f g : Forest) : Type 0 where
  pub left : List ℕ
  pub stands : Stands ts (behind (type_of q) m) left
  pub rest : Owed ts k f → Owed ts left g
  pub whole : Owed ts left g → Owed ts k f

module _ {ts : List TypeRow} {declared : ℕ} (c : Checked ts declared) where
  pub past : {q : Place} {k : List ℕ} {m : ℕ} {f g : Forest} → Declared ts declared (type_of q) → Stands ts q k → Next ts q m → Takes ts m f g → Past ts q k m f g
  past {q} {k} {m} {f} {g} good st x t =
      let h = step_of c.lawful st x in
      record {
        left = h.0;
        stands = (goes c.lawful st h.1).stands;
        rest = λ d. (let r = rest (one_way_at c good st) h.1 (takes_heads t) d in subst (Owed ts h.0) (same_rest r.taken t) r.owed);
        whole = λ d. stepped h.1 t d;
      }

  -- at most one item heads a forest
  pub one-heads : {q : Place} {k : List ℕ} {m n : ℕ} {f : Forest} → Declared ts declared (type_of q) → Stands ts q k → Next ts q m → Next ts q n → Heads ts m f → Heads ts n f → m ≡ n
  one-heads {q} good st x y h i = same_next c (c.one_way (type_of q) good.low good.root) st x y (heads_overlap h i)

  leaf-stuck : {q : Place} {k : List ℕ} {s : Scalar} {f : Forest} → Stands ts q k → ((m : ℕ) → Next ts q m → Takes ts m (leaf s f) f → ⊥) → Start ts k (leaf s f) → ⊥
  leaf-stuck st no_one (went h (t_scalar e l) d) = no_one _ (goes c.lawful st h).next (t_scalar e l)

  node-stuck : {q : Place} {k : List ℕ} {t : ℕ} {x f : Forest} → Stands ts q k → ((m : ℕ) → Next ts q m → Takes ts m (node t x f) f → ⊥) → Start ts k (node t x f) → ⊥
  node-stuck st no_one (went h (t_element e l b) d) = no_one _ (goes c.lawful st h).next (t_element e l b)
  node-stuck st no_one (went h (t_any e l b) d) = no_one _ (goes c.lawful st h).next (t_any e l b)

  -- no item takes the first item, so nothing belongs
  pub leaf-refused : {q : Place} {k : List ℕ} {s : Scalar} {f : Forest} → Stands ts q k → ((m : ℕ) → Next ts q m → Takes ts m (leaf s f) f → ⊥) → Owed ts k (leaf s f) → ⊥
  leaf-refused st no_one d = leaf-stuck st no_one (begin d)

  pub node-refused : {q : Place} {k : List ℕ} {t : ℕ} {x f : Forest} → Stands ts q k → ((m : ℕ) → Next ts q m → Takes ts m (node t x f) f → ⊥) → Owed ts k (node t x f) → ⊥
  node-refused st no_one d = node-stuck st no_one (begin d)

  pub ends-owed : {q : Place} {k : List ℕ} → Stands ts q k → Ends ts q → Owed ts k none
  ends-owed st e = none-owed (nulls_of c.lawful st e)

  pub owed_ends : {q : Place} {k : List ℕ} → Stands ts q k → Owed ts k none → Ends ts q
  owed_ends st d = ends_of c.lawful st (all-null d)
