-- The worked runs compute.
use Rattle.std.proofs.Common.{refl}
use Rattle.types.proofs.WorkedCases.{worked_types}
use Rattle.typing.proofs.WorkedCase.{worked_check, mixed_refused}
use Rattle.evaluation.specs.Evaluation.{run, pay}
use Rattle.evaluation.specs.Worked.{WorkedRuns, WorkedConstant, WorkedCases}

pub worked_runs : WorkedRuns
unfolding run pay
worked_runs = record { off_event = refl; one_unit_less = refl; empty_capture = refl }

pub worked_constant : WorkedConstant
unfolding run pay
worked_constant = record { made = refl; made_and_unpaid = refl; no_room = refl }

pub worked_cases : WorkedCases
worked_cases = record { types = worked_types; check = worked_check; mixed = mixed_refused; runs = worked_runs; constant = worked_constant }
