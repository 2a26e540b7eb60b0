-- The laws of runs, together.
use Rattle.evaluation.specs.Laws.{RunLaws}
use Rattle.evaluation.proofs.Depth.{unfolds, deep_enough}
use Rattle.evaluation.proofs.Onward.{runs_onward}
use Rattle.evaluation.proofs.Refused.{runs_refused_for_space}
use Rattle.evaluation.proofs.Richer.{runs_alike}

pub run_laws : RunLaws
run_laws = record { unfolds = unfolds; deep_enough = deep_enough; onward = runs_onward; refused_for_space = runs_refused_for_space; alike = runs_alike }
