-- What a session holds.
use Rattle.std.specs.Prelude.{ℕ, List, [], ◌∷◌, ◌++◌, length, take, drop, Some, None}
use Rattle.rows.specs.declared.type_row.TypeRow.{TypeRow}
use Rattle.rows.specs.declared.expression.Expression.{Expression}
use Rattle.rows.specs.declared.expression.Room.{Room}
use Rattle.rows.specs.declared.arm.Arm.{Arm}
use Rattle.rows.specs.declared.function.Function.{Function}
use Rattle.rows.specs.declared.function.Query.{Query}
use Rattle.rows.specs.Programs.{ProgramRows}
use Rattle.session.specs.declared.program.Program.{Program}
use Rattle.session.specs.declared.type_table.TypeTable.{TypeTable}
use Rattle.session.specs.Bodies.{body_set}

-- the declared type rows, and those that a check made behind them
abbrev pub declared_of : TypeTable → List TypeRow
declared_of t = take t.counts.declared t.rows

abbrev pub made_of : TypeTable → List TypeRow
made_of t = drop t.counts.declared (take t.counts.all t.rows)

abbrev pub program_rows : Program → ProgramRows
program_rows p = record {
  expressions = p.expressions.items;
  arms = p.arms.items;
  functions = p.functions.rows.items;
  text = p.text.items;
  query = p.query;
}

abbrev pub no_rows : ProgramRows
no_rows = record { expressions = []; arms = []; functions = []; text = []; query = None }

-- what is there for a row to name
abbrev pub room_of : ProgramRows → Room
room_of p = record { expressions = length p.expressions; arms = length p.arms; bytes = length p.text }

-- one thing changes, and nothing else

abbrev pub with_expression : ProgramRows → Expression → ProgramRows
with_expression p e = record { expressions = p.expressions ++ (e ∷ []); arms = p.arms; functions = p.functions; text = p.text; query = p.query }

abbrev pub with_arm : ProgramRows → Arm → ProgramRows
with_arm p x = record { expressions = p.expressions; arms = p.arms ++ (x ∷ []); functions = p.functions; text = p.text; query = p.query }

abbrev pub with_function : ProgramRows → Function → ProgramRows
with_function p f = record { expressions = p.expressions; arms = p.arms; functions = p.functions ++ (f ∷ []); text = p.text; query = p.query }

abbrev pub with_text : ProgramRows → List ℕ → ProgramRows
with_text p bs = record { expressions = p.expressions; arms = p.arms; functions = p.functions; text = p.text ++ bs; query = p.query }

abbrev pub with_body_set : ProgramRows → ℕ → ℕ → ProgramRows
with_body_set p f row = record { expressions = p.expressions; arms = p.arms; functions = body_set p.functions f row; text = p.text; query = p.query }

abbrev pub with_query : ProgramRows → Query → ProgramRows
with_query p q = record { expressions = p.expressions; arms = p.arms; functions = p.functions; text = p.text; query = Some q }
