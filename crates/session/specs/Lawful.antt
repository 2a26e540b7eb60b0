-- The rules that the rows of every session keep.
use Rattle.std.specs.Prelude.{◌≡◌, ℕ, ◌<◌, ◌≤◌, true, false, length, slice_index_or}
use Rattle.rows.specs.declared.type_row.TypeRow.{TypeRow}
use Rattle.rows.specs.declared.type_row.TypeRow.TheVariants.{EmptyChoice}
use Rattle.rows.specs.declared.expression.Expression.{Expression}
use Rattle.rows.specs.declared.expression.Expression.TheVariants.{Error}
use Rattle.rows.specs.declared.arm.Arm.{Arm}
use Rattle.rows.specs.declared.arm.Pattern.TheVariants.{Integer}
use Rattle.rows.specs.declared.function.Function.{Function}
use Rattle.rows.specs.TypeRows.{type_fits, owns, twice}
use Rattle.rows.specs.Expressions.{expression_fits}
use Rattle.rows.specs.Arms.{arm_fits}
use Rattle.session.specs.Bodies.{no_function}
use Rattle.session.specs.Rules.{match_right, function_right, query_lawful}
use Rattle.session.specs.Calls.{Tables}

abbrev pub type_at : Tables → ℕ → TypeRow
type_at t i = slice_index_or t.types i EmptyChoice

abbrev pub expression_at : Tables → ℕ → Expression
expression_at t i = slice_index_or t.program.expressions i Error

abbrev pub arm_at : Tables → ℕ → Arm
arm_at t i = slice_index_or t.program.arms i (record { pattern = Integer; body = 0 })

abbrev pub function_at : Tables → ℕ → Function
function_at t i = slice_index_or t.program.functions i no_function

pub record Lawful (t : Tables) : Type 0 where
  -- no table is past its size
  pub types_few : length t.types ≤ 512
  pub expressions_few : length t.program.expressions ≤ 512
  pub arms_few : length t.program.arms ≤ 128
  pub functions_few : length t.program.functions ≤ 32
  pub text_few : length t.program.text ≤ 4096
  -- a type's parts are lower rows, each with one owner, which names it once
  pub lower : (i p : ℕ) → owns (type_at t i) p ≡ true → p < i
  pub one_owner : (i j p : ℕ) → owns (type_at t i) p ≡ true → owns (type_at t j) p ≡ true → i ≡ j
  pub once : (i : ℕ) → twice (type_at t i) ≡ false
  -- fields are in range, an expression's parts are lower rows, and the arms, text and bodies that are named are there
  pub types_fit : (i : ℕ) → type_fits i (type_at t i) ≡ true
  pub expressions_fit : (i : ℕ) → expression_fits (record { expressions = i; arms = length t.program.arms; bytes = length t.program.text }) (expression_at t i) ≡ true
  -- the arms that a match names run lower rows
  pub bodies_lower : (i : ℕ) → match_right i t.program.arms (expression_at t i) ≡ true
  pub arms_fit : (i : ℕ) → i < length t.program.arms → arm_fits (length t.program.expressions) (arm_at t i) ≡ true
  pub functions_fit : (i : ℕ) → function_right (length t.program.expressions) (function_at t i) ≡ true
  pub query_fits : query_lawful (length t.program.expressions) t.program.query ≡ true
