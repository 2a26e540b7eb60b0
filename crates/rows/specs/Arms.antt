-- The arms of matches: what numbers stand for one, and when its fields are in range.
use Rattle.std.specs.Prelude.{ℕ, Bool, true, cond, ◌&&◌, Some, None, Option, ◌==◌, nat_lt}
use Rattle.std.specs.Bool.{then_some}
use Rattle.forest.specs.Forests.{tag_lawful}
use Rattle.rows.specs.declared.arm.Arm.{Arm}
use Rattle.rows.specs.declared.arm.Pattern.{Pattern}
use Rattle.rows.specs.declared.arm.Pattern.TheVariants.{Integer, String, Boolean, Element, AnyElement}

-- The pattern that a kind and a tag stand for; the tag is 0 where the kind has none.
abbrev pub pattern_of : ℕ → ℕ → Option Pattern
pattern_of k t =
    cond (k == 3) (then_some (t == 0) Integer)
    (cond (k == 4) (then_some (t == 0) String)
    (cond (k == 5) (then_some (t == 0) Boolean)
    (cond (k == 6) (Some (Element t))
    (cond (k == 7) (then_some (t == 0) AnyElement)
    None))))

-- the arm of a pattern, if there is one, with this body
abbrev pub arm_with : Option Pattern → ℕ → Option Arm
arm_with None body = None
arm_with (Some p) body = Some (record { pattern = p; body = body })

-- The arm that a kind, a tag and a body stand for.
abbrev pub arm_of : ℕ → ℕ → ℕ → Option Arm
arm_of k t body = arm_with (pattern_of k t) body

abbrev pub pattern_fits : Pattern → Bool
pattern_fits Integer = true
pattern_fits String = true
pattern_fits Boolean = true
pattern_fits (Element t) = tag_lawful t
pattern_fits AnyElement = true

-- An arm's tag is in range and its body is among n expressions.
abbrev pub arm_fits : ℕ → Arm → Bool
arm_fits n arm = pattern_fits arm.pattern && nat_lt arm.body n

-- the tag of the elements that an arm takes
abbrev pub pattern_tag : Pattern → Option ℕ
pattern_tag Integer = None
pattern_tag String = None
pattern_tag Boolean = None
pattern_tag (Element t) = Some t
pattern_tag AnyElement = None

abbrev pub arm_tag : Arm → Option ℕ
arm_tag arm = pattern_tag arm.pattern
