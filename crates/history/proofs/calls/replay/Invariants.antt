use Rattle.session.specs.Calls.{tables}
use Rattle.history.proofs.Loop.{Replayed}
use Rattle.history.proofs.calls.replay.Given as goal

abbrev pub invariant-loop-index : goal.invariant-loop-index
invariant-loop-index l = Replayed l.calls l.index l.initial.answers (tables l.session) l.answers
