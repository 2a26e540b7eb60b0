-- All rows of a session but the types.
use Rattle.std.specs.Prelude.{ℕ, List, Option}
use Rattle.rows.specs.declared.expression.Expression.{Expression}
use Rattle.rows.specs.declared.arm.Arm.{Arm}
use Rattle.rows.specs.declared.function.Function.{Function}
use Rattle.rows.specs.declared.function.Query.{Query}

pub record ProgramRows : Type 0 where
  pub expressions : List Expression
  pub arms : List Arm
  pub functions : List Function
  pub text : List ℕ
  pub query : Option Query
