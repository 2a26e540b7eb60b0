use Rattle.std.proofs.Common.{◌≡◌, ℕ, Bool, false, List, sym, subst}
use Rattle.types.specs.Tables.{rows_of}
use Rattle.types.proofs.OfTable.{table-lawful}
use Rattle.positions.specs.Below.{flag}
use Rattle.positions.proofs.Fresh.{no_flag}
use Rattle.positions.proofs.Marks.{exact, none-marked}
use Rattle.positions.proofs.alive.alive_rows.Goals as goal

pub round-init : goal.round-init
round-init c = none-marked (rows_of c.args.types.now) c.all-alive.result.marks (subst (λ (t : List Bool). (r : ℕ) → flag t r ≡ false) (sym c.all-alive.ensures) (no_flag 512))

pub returns : goal.returns
returns c = exact (table-lawful c.args.types.now) c.mark_more.new.alive.marks (c.mark_more.ensures.closed c.round-test.false) (c.mark_more.ensures.marked c.round.invariant)
