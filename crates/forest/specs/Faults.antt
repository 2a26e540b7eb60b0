-- The number of each reason to refuse a call, and a fault by its parts.
use Rattle.std.specs.Prelude.{ℕ}
use Rattle.forest.specs.declared.fault.Fault.{Fault}
use Rattle.forest.specs.declared.fault.Reason.{Reason}
use Rattle.forest.specs.declared.fault.Reason.TheVariants.{TableFull, FieldOutOfRange, PartTaken, NotSet, TypeMissing, Ambiguous, Unbound, NoSuchFunction, WrongKind, Unfit, TypesFull, NoSuchHandle, NestedTooDeep, OutsideType, BufferShort, SpaceShort, OutOfRange, UnlawfulTable, UnlawfulCapture}

abbrev pub number_of : Reason → ℕ
number_of TableFull = 11
number_of FieldOutOfRange = 12
number_of PartTaken = 13
number_of NotSet = 21
number_of TypeMissing = 22
number_of Ambiguous = 23
number_of Unbound = 24
number_of NoSuchFunction = 25
number_of WrongKind = 26
number_of Unfit = 27
number_of TypesFull = 28
number_of NoSuchHandle = 33
number_of NestedTooDeep = 34
number_of OutsideType = 35
number_of BufferShort = 36
number_of SpaceShort = 51
number_of OutOfRange = 52
number_of UnlawfulTable = 53
number_of UnlawfulCapture = 54

abbrev pub faulted : Reason → ℕ → ℕ → Fault
faulted why l n = record { reason = why; layer = l; row = n }
