use Rattle.std.proofs.Common.{◌≡◌, take, drop, vec_items}
use Rattle.table.specs.Tables.{first_unlawful}
use Rattle.table.specs.Filling.{Holds}
use Rattle.table.proofs.load.add_rows.Given as goal

abbrev pub invariant-loop-index : goal.invariant-loop-index
invariant-loop-index l =
    Holds l.initial.own (take l.index l.rows) l.own
    × (first_unlawful l.index (vec_items l.initial.own.children) (vec_items l.initial.own.text) (drop l.index l.rows) ≡ first_unlawful 0 (vec_items l.initial.own.children) (vec_items l.initial.own.text) l.rows)
