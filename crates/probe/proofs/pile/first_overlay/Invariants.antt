use Rattle.std.proofs.Common.{◌≡◌}
use Rattle.probe.proofs.pile.first_overlay.Given as goal

abbrev pub invariant-loop-renewals : goal.invariant-loop-renewals
invariant-loop-renewals g l = l.store ≡ l.initial.store
