-- What a type's top row is, and which arms take its items.
use Rattle.std.specs.Prelude.{ℕ, Bool, cond, ◌||◌, List, Some, None, Option, ◌==◌}
use Rattle.std.specs.List.{list_any}
use Rattle.std.specs.Option.{is_some, unwrap_or}
use Rattle.rows.specs.declared.type_row.TypeRow.{TypeRow}
use Rattle.rows.specs.declared.type_row.TypeRow.TheVariants.{Integer, String, Boolean, Element, AnyElement}
use Rattle.rows.specs.declared.arm.Pattern.{Pattern}
use Rattle.rows.specs.declared.arm.Pattern.TheVariants.{Integer as IntegerArm, String as StringArm, Boolean as BooleanArm, Element as ElementArm, AnyElement as AnyElementArm}
use Rattle.rows.specs.Arms.{pattern_tag}
use Rattle.types.specs.Parts.{content}
use Rattle.types.specs.Determinism.{label, overlaps}
use Rattle.types.specs.Places.{covers}

abbrev pub is_item : TypeRow → Bool
is_item t = is_some (label t)

abbrev pub is_integer : TypeRow → Bool
is_integer t = overlaps t Integer

abbrev pub is_boolean : TypeRow → Bool
is_boolean t = overlaps t Boolean

abbrev pub is_scalar : TypeRow → Bool
is_scalar t = is_integer t || (overlaps t String || is_boolean t)

-- An arm takes every item of a subject, or passes over it. Against any element an arm with a tag that is not named yet may take it: those of its tag.
pub data Taking : Type 0 where
  takes : Taking
  passes : Taking
  may_take : ℕ → Taking

-- the items that an arm takes, contents aside
abbrev pub taken_by : Pattern → TypeRow
taken_by IntegerArm = Integer
taken_by StringArm = String
taken_by BooleanArm = Boolean
taken_by (ElementArm t) = Element t 0
taken_by AnyElementArm = AnyElement 0

abbrev pub may_take_tag : List ℕ → Option ℕ → Taking
may_take_tag named None = passes
may_take_tag named (Some t) = cond (list_any (λ u. u == t) named) passes (may_take t)

-- how an arm stands to a subject with this top row, where earlier arms have named these tags
abbrev pub taking : List ℕ → TypeRow → Pattern → Taking
taking named t p = cond (covers t (taken_by p)) takes (cond (overlaps t (taken_by p)) (may_take_tag named (pattern_tag p)) passes)

-- the elements of one tag among any elements
abbrev pub narrowed : ℕ → TypeRow → TypeRow
narrowed tag t = Element tag (unwrap_or (content t) 0)
