use Rattle.bits.proofs.Unions.{Partly}
use Rattle.bits.proofs.rows.unite.Given as goal

abbrev pub invariant-loop-word : goal.invariant-loop-word
invariant-loop-word l = Partly l.initial.words l.words l.to l.from l.word
