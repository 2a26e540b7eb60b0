-- How the check is refused.
use Rattle.std.specs.Prelude.{ℕ, Option}
use Rattle.forest.specs.declared.fault.Reason.{Reason}
use Rattle.forest.specs.Faults.{faulted}
use Rattle.typing.specs.declared.fault.TypeFault.{TypeFault}

-- a refusal by the check: why, at which row, and in which function
abbrev pub type_fault : Reason → ℕ → Option ℕ → TypeFault
type_fault why row function = record { fault = faulted why 2 row; function = function }
