-- The rules on rows, as tests on lists of rows.
use Rattle.std.specs.Prelude.{ℕ, ◌+◌, Bool, true, ◌&&◌, List, [], ◌∷◌, take, drop, Some, None, Option, nat_lt}
use Rattle.std.specs.List.{list_all}
use Rattle.rows.specs.declared.expression.Expression.{Expression}
use Rattle.rows.specs.declared.expression.Expression.TheVariants.{Match}
use Rattle.rows.specs.declared.arm.Arm.{Arm}
use Rattle.rows.specs.declared.function.Function.{Function}
use Rattle.rows.specs.declared.function.Query.{Query}
use Rattle.rows.specs.Expressions.{expression_fits}
use Rattle.rows.specs.Arms.{arm_fits, pattern_fits}
use Rattle.rows.specs.Functions.{function_fits, query_fits}

-- Each expression, the first at place n, has its fields in range and names lower expressions, and arms and text that are there.
abbrev pub expressions_lawful : ℕ → ℕ → ℕ → List Expression → Bool
expressions_lawful n m l [] = true
expressions_lawful n m l (e ∷ es) = expression_fits (record { expressions = n; arms = m; bytes = l }) e && expressions_lawful (n + 1) m l es

abbrev pub arms_lawful : ℕ → List Arm → Bool
arms_lawful n xs = list_all (arm_fits n) xs

-- the arms run expressions below n
abbrev pub bodies_below : ℕ → List Arm → Bool
bodies_below n xs = list_all (λ arm. nat_lt arm.body n) xs

-- their tags are in range
abbrev pub patterns_fit : List Arm → Bool
patterns_fit xs = list_all (λ arm. pattern_fits arm.pattern) xs

-- if expression n is a match, the arms that it names run lower expressions
abbrev pub match_right : ℕ → List Arm → Expression → Bool
match_right n xs (Match a from long else) = bodies_below n (take long (drop from xs))
match_right n xs _ = true

-- each expression, the first at place n
abbrev pub matches_lawful : ℕ → List Arm → List Expression → Bool
matches_lawful n xs [] = true
matches_lawful n xs (e ∷ es) = match_right n xs e && matches_lawful (n + 1) xs es

-- a body that is set is among n expressions
abbrev pub body_there : ℕ → Option ℕ → Bool
body_there n None = true
body_there n (Some row) = nat_lt row n

abbrev pub function_right : ℕ → Function → Bool
function_right n f = function_fits f && body_there n f.body

abbrev pub functions_lawful : ℕ → List Function → Bool
functions_lawful n fs = list_all (function_right n) fs

abbrev pub query_lawful : ℕ → Option Query → Bool
query_lawful n None = true
query_lawful n (Some q) = query_fits n q
