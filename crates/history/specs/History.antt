-- What a session holds, read off its calls and their answers alone.
use Rattle.std.specs.Prelude.{ℕ, ◌+◌, Bool, true, false, cond, List, [], ◌∷◌, ◌++◌, Some, None, Ok, Err, Option, Result, ◌==◌}
use Rattle.std.specs.Option.{option_to_list}
use Rattle.forest.specs.declared.fault.Fault.{Fault}
use Rattle.rows.specs.declared.arm.Arm.{Arm}
use Rattle.rows.specs.declared.expression.Expression.{Expression}
use Rattle.rows.specs.declared.function.Function.{Function}
use Rattle.rows.specs.declared.function.Query.{Query}
use Rattle.rows.specs.declared.type_row.TypeRow.{TypeRow}
use Rattle.rows.specs.Arms.{arm_of}
use Rattle.rows.specs.Expressions.{expression_of}
use Rattle.rows.specs.TypeRows.{type_of}
use Rattle.session.specs.Calls.{Tables, opened, Change, add_text, add_type, add_function, add_arm, add_expression, set_body, set_query, clear}

abbrev pub clears : Change → Bool
clears (add_text bs) = false
clears (add_type raw) = false
clears (add_function p r) = false
clears (add_arm raw) = false
clears (add_expression raw) = false
clears (set_body f row) = false
clears (set_query q) = false
clears clear = true

-- each call with its answer
abbrev pub history : List Change → List (Result ℕ Fault) → List (Change × Result ℕ Fault)
history [] rs = []
history (c ∷ cs) [] = []
history (c ∷ cs) (r ∷ rs) = (c, r) ∷ history cs rs

-- The calls that were accepted since the last clear, in order; those of the first list came before.
abbrev pub since : List Change → List (Change × Result ℕ Fault) → List Change
since before [] = before
since before ((c, Err f) ∷ es) = since before es
since before ((c, Ok n) ∷ es) = since (cond (clears c) [] (before ++ (c ∷ []))) es

-- What accepted calls give: rows, text, bodies (a function and a row) and queries, in order.
pub record Given : Type 0 where
  pub types : List TypeRow
  pub expressions : List Expression
  pub arms : List Arm
  pub functions : List Function
  pub text : List ℕ
  pub bodies : List (ℕ × ℕ)
  pub queries : List Query

abbrev pub nothing : Given
nothing = record { types = []; expressions = []; arms = []; functions = []; text = []; bodies = []; queries = [] }

abbrev pub gives : Change → Given
gives (add_text bs) = record { types = []; expressions = []; arms = []; functions = []; text = bs; bodies = []; queries = [] }
gives (add_type raw) = record { types = option_to_list (type_of raw.kind raw.a raw.b); expressions = []; arms = []; functions = []; text = []; bodies = []; queries = [] }
gives (add_function p r) = record { types = []; expressions = []; arms = []; functions = record { parameter = p; result = r; body = None } ∷ []; text = []; bodies = []; queries = [] }
gives (add_arm raw) = record { types = []; expressions = []; arms = option_to_list (arm_of raw.kind raw.tag raw.body); functions = []; text = []; bodies = []; queries = [] }
gives (add_expression raw) = record { types = []; expressions = option_to_list (expression_of raw.kind raw.a raw.b raw.c raw.d); arms = []; functions = []; text = []; bodies = []; queries = [] }
gives (set_body f row) = record { types = []; expressions = []; arms = []; functions = []; text = []; bodies = (f, row) ∷ []; queries = [] }
gives (set_query q) = record { types = []; expressions = []; arms = []; functions = []; text = []; bodies = []; queries = q ∷ [] }
gives clear = nothing

abbrev pub joined : Given → Given → Given
joined a b = record {
  types = a.types ++ b.types;
  expressions = a.expressions ++ b.expressions;
  arms = a.arms ++ b.arms;
  functions = a.functions ++ b.functions;
  text = a.text ++ b.text;
  bodies = a.bodies ++ b.bodies;
  queries = a.queries ++ b.queries;
}

abbrev pub gathered : List Change → Given
gathered [] = nothing
gathered (c ∷ cs) = joined (gives c) (gathered cs)

-- the last body that was set on function i, and the last query
abbrev pub last_body : ℕ → Option ℕ → List (ℕ × ℕ) → Option ℕ
last_body i o [] = o
last_body i o (p ∷ ps) = last_body i (cond (p.0 == i) (Some p.1) o) ps

abbrev pub last_query : Option Query → List Query → Option Query
last_query o [] = o
last_query o (q ∷ qs) = last_query (Some q) qs

-- each function, the first being function n, with its last body
abbrev pub with_bodies : ℕ → List Function → List (ℕ × ℕ) → List Function
with_bodies n [] ps = []
with_bodies n (f ∷ fs) ps = record { parameter = f.parameter; result = f.result; body = last_body n None ps } ∷ with_bodies (n + 1) fs ps

abbrev pub assembled : Given → Tables
assembled g = record {
  types = g.types;
  standing = opened;
  program = record { expressions = g.expressions; arms = g.arms; functions = with_bodies 0 g.functions g.bodies; text = g.text; query = last_query None g.queries };
}

-- The session after the calls: open, with the rows of the adds that were accepted since the last clear, in order, each function's
-- body that of the last accepted call on it, and the query that of the last accepted one.
abbrev pub after : List Change → List (Result ℕ Fault) → Tables
after cs rs = assembled (gathered (since [] (history cs rs)))
