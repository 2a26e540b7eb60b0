-- The rows of the expression table: what numbers stand for one, and when its fields are in range.
use Rattle.std.specs.Prelude.{ℕ, ◌+◌, Bool, true, cond, ◌&&◌, ℤ, pos, negsuc, Some, None, Option, ◌==◌, nat_le, nat_lt}
use Rattle.std.specs.Bool.{then_some}
use Rattle.forest.specs.Forests.{integer_lawful, tag_lawful}
use Rattle.rows.specs.declared.expression.Room.{Room}
use Rattle.rows.specs.declared.expression.Expression.{Expression}
use Rattle.rows.specs.declared.expression.Expression.TheVariants.{Error, Integer, Boolean, String, Variable, Element, Sequence, Empty, If, Let, For, Match, Call, Add, Equal, IsEmpty, Count, Children, As}

-- The rows of the kinds from 13 on; a field that the kind does not use is 0.
abbrev pub operation_of : ℕ → ℕ → ℕ → ℕ → ℕ → Option Expression
operation_of k a b c d =
    cond (k == 13) (then_some (a == 0 && (b == 0 && (c == 0 && d == 0))) Error)
    (cond (k == 14) (then_some (c == 0 && d == 0) (Add a b))
    (cond (k == 15) (then_some (c == 0 && d == 0) (Equal a b))
    (cond (k == 16) (then_some (b == 0 && (c == 0 && d == 0)) (IsEmpty a))
    (cond (k == 17) (then_some (b == 0 && (c == 0 && d == 0)) (Count a))
    (cond (k == 18) (then_some (b == 0 && (c == 0 && d == 0)) (Children a))
    (cond (k == 19) (then_some (c == 0 && d == 0) (As a b))
    None))))))

-- The rows of every kind but 1.
abbrev pub plain_of : ℕ → ℕ → ℕ → ℕ → ℕ → Option Expression
plain_of k a b c d =
    cond (k == 2) (then_some (nat_le a 1 && (b == 0 && (c == 0 && d == 0))) (Boolean (a == 1)))
    (cond (k == 3) (then_some (c == 0 && d == 0) (String a b))
    (cond (k == 4) (then_some (b == 0 && (c == 0 && d == 0)) (Variable a))
    (cond (k == 5) (then_some (c == 0 && d == 0) (Element a b))
    (cond (k == 6) (then_some (c == 0 && d == 0) (Sequence a b))
    (cond (k == 7) (then_some (a == 0 && (b == 0 && (c == 0 && d == 0))) Empty)
    (cond (k == 8) (then_some (d == 0) (If a b c))
    (cond (k == 9) (then_some (c == 0 && d == 0) (Let a b))
    (cond (k == 10) (then_some (c == 0 && d == 0) (For a b))
    (cond (k == 11) (Some (Match a b d c))
    (cond (k == 12) (then_some (c == 0 && d == 0) (Call a b))
    (operation_of k a b c d)))))))))))

-- Only an Integer's value may be negative or above 65,535.
abbrev pub small : ℤ → Option ℕ
small (pos a) = then_some (nat_le a 65535) a
small (negsuc a) = None

abbrev pub plain_if : ℕ → Option ℕ → ℕ → ℕ → ℕ → Option Expression
plain_if k None b c d = None
plain_if k (Some a) b c d = plain_of k a b c d

-- The row that a kind and four fields stand for.
abbrev pub expression_of : ℕ → ℤ → ℕ → ℕ → ℕ → Option Expression
expression_of k a b c d = cond (k == 1) (then_some (b == 0 && (c == 0 && d == 0)) (Integer a)) (plain_if k (small a) b c d)

-- so many things from a place on are there, of n
abbrev pub within : ℕ → ℕ → ℕ → Bool
within from long n = nat_le (from + long) n

-- a match with no arms names arm 0
abbrev pub arms_within : ℕ → ℕ → ℕ → Bool
arms_within from long n = cond (long == 0) (from == 0) (within from long n)

-- A row's fields are in range, and the expressions, arms and text that it names are there.
abbrev pub expression_fits : Room → Expression → Bool
expression_fits m Error = true
expression_fits m (Integer v) = integer_lawful v
expression_fits m (Boolean v) = true
expression_fits m (String from long) = within from long m.bytes
expression_fits m (Variable v) = nat_lt v 512
expression_fits m (Element t a) = tag_lawful t && nat_lt a m.expressions
expression_fits m (Sequence a b) = nat_lt a m.expressions && nat_lt b m.expressions
expression_fits m Empty = true
expression_fits m (If a b c) = nat_lt a m.expressions && (nat_lt b m.expressions && nat_lt c m.expressions)
expression_fits m (Let a b) = nat_lt a m.expressions && nat_lt b m.expressions
expression_fits m (For a b) = nat_lt a m.expressions && nat_lt b m.expressions
expression_fits m (Match a from long c) = nat_lt a m.expressions && (nat_lt c m.expressions && arms_within from long m.arms)
expression_fits m (Call f a) = nat_lt f 32 && nat_lt a m.expressions
expression_fits m (Add a b) = nat_lt a m.expressions && nat_lt b m.expressions
expression_fits m (Equal a b) = nat_lt a m.expressions && nat_lt b m.expressions
expression_fits m (IsEmpty a) = nat_lt a m.expressions
expression_fits m (Count a) = nat_lt a m.expressions
expression_fits m (Children a) = nat_lt a m.expressions
expression_fits m (As a t) = nat_lt a m.expressions && nat_lt t 512

-- the tag of the element that a row makes
abbrev pub element_tag : Expression → Option ℕ
element_tag Error = None
element_tag (Integer v) = None
element_tag (Boolean v) = None
element_tag (String from long) = None
element_tag (Variable v) = None
element_tag (Element t a) = Some t
element_tag (Sequence a b) = None
element_tag Empty = None
element_tag (If a b c) = None
element_tag (Let a b) = None
element_tag (For a b) = None
element_tag (Match a from long c) = None
element_tag (Call f a) = None
element_tag (Add a b) = None
element_tag (Equal a b) = None
element_tag (IsEmpty a) = None
element_tag (Count a) = None
element_tag (Children a) = None
element_tag (As a t) = None
