use Rattle.std.proofs.Common.{◌≡◌}
use Rattle.fields.proofs.rows.few_pieces.Given as goal

abbrev pub invariant-loop-piece : goal.invariant-loop-piece
invariant-loop-piece l = l.few.items ≡ l.yielded
