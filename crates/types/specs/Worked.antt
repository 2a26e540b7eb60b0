-- Small types worked out.
use Rattle.std.specs.Prelude.{List, [], ◌∷◌}
use Rattle.rows.specs.declared.type_row.TypeRow.{TypeRow}
use Rattle.rows.specs.declared.type_row.TypeRow.TheVariants.{Integer, Element, AnyElement, Sequence, Repetition}
use Rattle.types.specs.Belonging.{Subtype}
use Rattle.types.specs.Determinism.{Deterministic}

-- Integer, Integer*
abbrev pub one_then_many : List TypeRow
one_then_many = Integer ∷ Integer ∷ Repetition 1 ∷ Sequence 0 2 ∷ []

-- Integer*, Integer
abbrev pub many_then_one : List TypeRow
many_then_one = Integer ∷ Repetition 0 ∷ Integer ∷ Sequence 1 2 ∷ []

-- an element whose content is itself, and Integer
abbrev pub endless : List TypeRow
endless = Element 6 0 ∷ Integer ∷ []

-- Integer, element 6 of Integer, and any element of Integer
abbrev pub wide_and_narrow : List TypeRow
wide_and_narrow = Integer ∷ Element 6 0 ∷ AnyElement 0 ∷ []

pub record WorkedTypes : Type 0 where
  pub one_then_many_one_way : Deterministic one_then_many 3
  pub many_then_one_not : Deterministic many_then_one 3 → ⊥
  pub endless_fits : Subtype endless 0 1
  pub narrow_fits : Subtype wide_and_narrow 1 2
  pub wide_does_not : Subtype wide_and_narrow 2 1 → ⊥
