-- The kinds of rows with two parts that are typed one after the other.
use Rattle.std.specs.Prelude.{ℕ, Bool, true, List}
use Rattle.rows.specs.declared.type_row.TypeRow.{TypeRow}
use Rattle.rows.specs.declared.type_row.TypeRow.TheVariants.{Integer as IntegerType, Boolean as BooleanType, Sequence as SequenceType}
use Rattle.types.specs.Determinism.{overlaps}
use Rattle.typing.specs.Kinds.{is_integer, is_scalar}
use Rattle.typing.specs.Outcomes.{Progress, Outcome, then}
use Rattle.typing.specs.Typing.{Spot, Typer, made, needing}
use Rattle.types.specs.Parts.{row}
use Rattle.session.specs.declared.checking.operator.Operator.{Operator}
use Rattle.session.specs.declared.checking.operator.Operator.TheVariants.{Sequence, Add, Equal}

-- the first part may have this type
abbrev pub left_kind : Operator → TypeRow → Bool
left_kind Sequence x = true
left_kind Add x = is_integer x
left_kind Equal x = is_scalar x

-- the second part may have this type, next to that of the first
abbrev pub both_kinds : Operator → TypeRow → TypeRow → Bool
both_kinds Sequence x y = true
both_kinds Add x y = is_integer y
both_kinds Equal x y = overlaps x y

-- what is made of the parts
abbrev pub operated : Operator → ℕ → ℕ → TypeRow
operated Sequence x y = SequenceType x y
operated Add x y = IntegerType
operated Equal x y = BooleanType

-- how such a row is typed
abbrev pub operation : Operator → Spot → Typer → List ℕ → ℕ → ℕ → Progress → Outcome ℕ
operation k s type vs a b p =
    then (type vs a p) (λ x q. needing s (left_kind k (row q.types x)) (
    then (type vs b q) (λ y o. needing s (both_kinds k (row o.types x) (row o.types y)) (made s (operated k x y) o))))
