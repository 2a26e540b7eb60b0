-- The rows of the type table: what numbers stand for one, when its fields are in range, and which parts it owns.
use Rattle.std.specs.Prelude.{ℕ, Bool, true, false, cond, ◌&&◌, ◌||◌, Some, None, Option, ◌==◌, nat_lt}
use Rattle.std.specs.Bool.{then_some}
use Rattle.forest.specs.Forests.{tag_lawful}
use Rattle.rows.specs.declared.type_row.TypeRow.{TypeRow}
use Rattle.rows.specs.declared.type_row.TypeRow.TheVariants.{EmptyChoice, EmptySequence, Integer, String, Boolean, Element, AnyElement, Sequence, Choice, Repetition}

-- The row that a kind and two fields stand for; a field that the kind does not use is 0.
abbrev pub type_of : ℕ → ℕ → ℕ → Option TypeRow
type_of k a b =
    cond (k == 1) (then_some (a == 0 && b == 0) EmptyChoice)
    (cond (k == 2) (then_some (a == 0 && b == 0) EmptySequence)
    (cond (k == 3) (then_some (a == 0 && b == 0) Integer)
    (cond (k == 4) (then_some (a == 0 && b == 0) String)
    (cond (k == 5) (then_some (a == 0 && b == 0) Boolean)
    (cond (k == 6) (Some (Element a b))
    (cond (k == 7) (then_some (a == 0) (AnyElement b))
    (cond (k == 8) (Some (Sequence a b))
    (cond (k == 9) (Some (Choice a b))
    (cond (k == 10) (then_some (b == 0) (Repetition a))
    None)))))))))

-- A row's fields are in range where n rows are there: parts are among them, tags and contents are in their ranges.
abbrev pub type_fits : ℕ → TypeRow → Bool
type_fits n EmptyChoice = true
type_fits n EmptySequence = true
type_fits n Integer = true
type_fits n String = true
type_fits n Boolean = true
type_fits n (Element t c) = tag_lawful t && nat_lt c 512
type_fits n (AnyElement c) = nat_lt c 512
type_fits n (Sequence a b) = nat_lt a n && nat_lt b n
type_fits n (Choice a b) = nat_lt a n && nat_lt b n
type_fits n (Repetition a) = nat_lt a n

-- p is a part of the row
abbrev pub owns : TypeRow → ℕ → Bool
owns EmptyChoice p = false
owns EmptySequence p = false
owns Integer p = false
owns String p = false
owns Boolean p = false
owns (Element t c) p = false
owns (AnyElement c) p = false
owns (Sequence a b) p = a == p || b == p
owns (Choice a b) p = a == p || b == p
owns (Repetition a) p = a == p

-- a part of the first row is one of the second
abbrev pub shares : TypeRow → TypeRow → Bool
shares EmptyChoice q = false
shares EmptySequence q = false
shares Integer q = false
shares String q = false
shares Boolean q = false
shares (Element t c) q = false
shares (AnyElement c) q = false
shares (Sequence a b) q = owns q a || owns q b
shares (Choice a b) q = owns q a || owns q b
shares (Repetition a) q = owns q a

-- the row names a part twice
abbrev pub twice : TypeRow → Bool
twice EmptyChoice = false
twice EmptySequence = false
twice Integer = false
twice String = false
twice Boolean = false
twice (Element t c) = false
twice (AnyElement c) = false
twice (Sequence a b) = a == b
twice (Choice a b) = a == b
twice (Repetition a) = false
