use Rattle.types.specs.Tables.{rows_of}
use Rattle.positions.specs.Right.{Firsts, Lasts, Unfollowed}
use Rattle.positions.proofs.Meeting.{Met}
use Rattle.positions.proofs.next.add_all_meets.Given as goal

abbrev pub invariant-loop-row : goal.invariant-loop-row
invariant-loop-row l =
    Lasts (rows_of l.types) l.lasts.words → Firsts (rows_of l.types) l.initial.next.words → Unfollowed l.initial.next.words → Met (rows_of l.types) l.next.words l.row-index
