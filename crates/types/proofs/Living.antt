-- Rows that have a forest.
use Rattle.std.proofs.Common.{ℕ, List}
use Rattle.forest.specs.Forests.{Forest, none, leaf, node}
use Rattle.rows.specs.declared.type_row.TypeRow.{TypeRow}
use Rattle.types.specs.Belonging.{join, one_scalar, one_element, any_element}
use Rattle.types.specs.Places.{Inhabited, AllInhabited, a_end, a_more}
use Rattle.types.proofs.Owed.{Takes, t_scalar, t_element, t_any, Owed, o_end, owed_more, Parted, p_end, p_more, parted}

module _ {ts : List TypeRow} where
  -- what takes an item has a forest
  pub takes_lives : {n : ℕ} {f g : Forest} → Takes ts n f g → Inhabited ts n
  takes_lives (t_scalar {s = s} e l) = (leaf s none, one_scalar e l)
  takes_lives (t_element {t = t} {g = g} e l b) = (node t g none, one_element e l b)
  takes_lives (t_any {t = t} {g = g} e l b) = (node t g none, any_element e l b)

  all-parted : {k : List ℕ} {f : Forest} → Parted ts k f → AllInhabited ts k
  all-parted p_end = a_end
  all-parted (p_more {f = f} i b p) = a_more (f, b) (all-parted p)

  -- what is met has a forest for each row
  pub owed_lives : {k : List ℕ} {f : Forest} → Owed ts k f → AllInhabited ts k
  owed_lives d = all-parted (parted d)

  pub lives_owed : {k : List ℕ} → AllInhabited ts k → (f : Forest) × Owed ts k f
  lives_owed a_end = (none, o_end)
  lives_owed (a_more {k = k} h a) = let g = lives_owed a in (join h.0 g.0, owed_more k g.0 h.1 g.1)
