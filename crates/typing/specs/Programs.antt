-- The rules on rows that typing relies on; those of every session keep them.
use Rattle.std.specs.Prelude.{◌≡◌, ℕ, true, length, take, drop, nat_lt}
use Rattle.std.specs.List.{list_all}
use Rattle.rows.specs.declared.expression.Expression.TheVariants.{Match}
use Rattle.rows.specs.Expressions.{expression_fits}
use Rattle.rows.specs.Arms.{pattern_fits}
use Rattle.rows.specs.Programs.{ProgramRows}
use Rattle.typing.specs.Typing.{expression_at}

-- an expression's parts are lower rows, the arms that it names are there, and their bodies are lower rows too
pub record Orderly (g : ProgramRows) : Type 0 where
  pub fit : (e : ℕ) → expression_fits (record { expressions = e; arms = length g.arms; bytes = length g.text }) (expression_at g e) ≡ true
  pub arms_lower : (e a from long else : ℕ) → expression_at g e ≡ Match a from long else → list_all (λ arm. nat_lt arm.body e) (take long (drop from g.arms)) ≡ true
  -- the tags of arms are in range
  pub arms_fit : list_all (λ arm. pattern_fits arm.pattern) g.arms ≡ true
