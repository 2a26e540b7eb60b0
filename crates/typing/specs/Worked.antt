-- The worked query: every off event of a capture. Its types, its rows, what typing it gives, and its check. Behind it, a check that is refused.
use Rattle.std.specs.Prelude.{◌≡◌, ℕ, false, List, [], ◌∷◌, ◌++◌, Some, None, Ok, Err}
use Rattle.forest.specs.declared.fault.Reason.TheVariants.{Ambiguous}
use Rattle.rows.specs.declared.type_row.TypeRow.{TypeRow}
use Rattle.rows.specs.declared.type_row.TypeRow.TheVariants.{EmptySequence, Integer, Element, Sequence, Choice, Repetition}
use Rattle.rows.specs.declared.expression.Expression.TheVariants.{Variable, Empty, For, Match, Children}
use Rattle.rows.specs.declared.arm.Pattern.TheVariants.{Element as ElementArm}
use Rattle.rows.specs.Programs.{ProgramRows}
use Rattle.types.specs.Worked.{many_then_one}
use Rattle.typing.specs.declared.answer.QueryType.{QueryType}
use Rattle.typing.specs.Faults.{type_fault}
use Rattle.typing.specs.Outcomes.{given}
use Rattle.typing.specs.Typing.{typed}
use Rattle.typing.specs.Checking.{Checks}

-- a capture: any number of on and off events, each of a time, a queue, a note and a velocity
abbrev pub capture_types : List TypeRow
capture_types =
    Integer ∷ Element 4 0 ∷ Element 5 0 ∷ Element 6 0 ∷ Element 7 0
    ∷ Sequence 1 2 ∷ Sequence 5 3 ∷ Sequence 6 4
    ∷ Element 2 7 ∷ Element 3 7 ∷ Choice 8 9 ∷ Repetition 10 ∷ Element 1 11 ∷ []

-- for each child of the input: itself if it is an off event, else nothing
abbrev pub every_off : ProgramRows
every_off = record {
  expressions = Variable 0 ∷ Children 0 ∷ Variable 1 ∷ Variable 2 ∷ Empty ∷ Match 2 0 1 4 ∷ For 1 5 ∷ [];
  arms = record { pattern = ElementArm 3; body = 3 } ∷ [];
  functions = [];
  text = [];
  query = Some (record { input = 12; row = 6 });
}

-- what typing it makes, behind the declared rows: rows 13 to 23
abbrev pub made_rows : List TypeRow
made_rows =
    Element 1 11
    ∷ Element 2 7 ∷ Element 3 7 ∷ Choice 14 15 ∷ Repetition 16
    ∷ Element 2 7 ∷ EmptySequence ∷ Element 3 7 ∷ Element 3 7 ∷ Choice 19 21 ∷ Repetition 22 ∷ []

-- The worked query is typed by row 23, and 11 rows are made.
abbrev pub WorkedTyping : Type 0
WorkedTyping = typed every_off None (12 ∷ []) 6 (record { types = capture_types; error = false }) ≡ given 23 (record { types = capture_types ++ made_rows; error = false })

-- The worked query's check is accepted: type row 23, and 11 rows made.
abbrev pub WorkedCheck : Type 0
WorkedCheck = Checks capture_types every_off (Ok (record { row = 23; made = 11; error = false })) (capture_types ++ made_rows)

-- no functions, and a query that gives its input
abbrev pub input_itself : ℕ → ProgramRows
input_itself input = record {
  expressions = Variable 0 ∷ [];
  arms = [];
  functions = [];
  text = [];
  query = Some (record { input = input; row = 0 });
}

-- The type Integer*, Integer is not one-way: with it no program is accepted, and the query that gives its input is refused so at row 3.
pub record MixedRefused : Type 0 where
  pub never : (g : ProgramRows) (a : QueryType) (us : List TypeRow) → Checks many_then_one g (Ok a) us → ⊥
  pub at_row_three : Checks many_then_one (input_itself 3) (Err (type_fault Ambiguous 3 None)) many_then_one
