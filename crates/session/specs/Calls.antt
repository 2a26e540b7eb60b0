-- What each call answers, and what it makes of a session.
use Rattle.std.specs.Prelude.{ℕ, ◌+◌, cond, not, ◌&&◌, List, [], ◌∷◌, ◌++◌, length, Some, None, Ok, Err, Option, Result, nat_le, nat_lt}
use Rattle.forest.specs.declared.fault.Fault.{Fault}
use Rattle.forest.specs.declared.fault.Reason.{Reason}
use Rattle.forest.specs.declared.fault.Reason.TheVariants.{TableFull, FieldOutOfRange, PartTaken}
use Rattle.forest.specs.Faults.{faulted}
use Rattle.rows.specs.declared.type_row.TypeRow.{TypeRow}
use Rattle.rows.specs.declared.type_row.RawType.{RawType}
use Rattle.rows.specs.declared.expression.Expression.{Expression}
use Rattle.rows.specs.declared.expression.RawExpression.{RawExpression}
use Rattle.rows.specs.declared.arm.Arm.{Arm}
use Rattle.rows.specs.declared.arm.RawArm.{RawArm}
use Rattle.rows.specs.declared.function.Function.{Function}
use Rattle.rows.specs.declared.function.Query.{Query}
use Rattle.rows.specs.TypeRows.{type_of, type_fits, twice}
use Rattle.rows.specs.Expressions.{expression_of, expression_fits}
use Rattle.rows.specs.Arms.{arm_of, arm_fits}
use Rattle.rows.specs.Functions.{function_fits, query_fits}
use Rattle.rows.specs.Programs.{ProgramRows}
use Rattle.session.specs.declared.session.Phase.{Phase}
use Rattle.session.specs.declared.session.Phase.TheVariants.{Open, Checked}
use Rattle.session.specs.declared.session.Session.{Session}
use Rattle.session.specs.declared.calls.Accepted.{Accepted}
use Rattle.session.specs.declared.calls.Accepted.TheVariants.{Add, Body, Query as QuerySet, Clear}
use Rattle.session.specs.declared.type_table.TypeTable.{TypeTable}
use Rattle.rows.specs.TypeTables.{free}
use Rattle.session.specs.Tables.{declared_of, made_of, program_rows, no_rows, room_of, with_expression, with_arm, with_function, with_text, with_body_set, with_query}

-- A session is open, or checked with the type rows that the check made.
pub data Standing : Type 0 where
  opened : Standing
  checked : List TypeRow → Standing

-- What a session holds: its declared type rows, how it stands, and all other rows.
pub record Tables : Type 0 where
  pub types : List TypeRow
  pub standing : Standing
  pub program : ProgramRows

abbrev pub standing_of : Phase → TypeTable → Standing
standing_of Open t = opened
standing_of Checked t = checked (made_of t)

abbrev pub tables : Session → Tables
tables s = record { types = declared_of s.types; standing = standing_of s.phase s.types; program = program_rows s.program }

abbrev pub empty_tables : Tables
empty_tables = record { types = []; standing = opened; program = no_rows }

-- A call, with what it is given.
pub data Change : Type 0 where
  add_text : List ℕ → Change
  add_type : RawType → Change
  add_function : ℕ → ℕ → Change
  add_arm : RawArm → Change
  add_expression : RawExpression → Change
  set_body : ℕ → ℕ → Change
  set_query : Query → Change
  clear : Change

-- a refusal changes nothing
abbrev pub refused : Reason → ℕ → Tables → Result ℕ Fault × Tables
refused why n t = (Err (faulted why 1 n), t)

-- an accepted call opens the session, and drops the rows that a check made
abbrev pub accepted : ℕ → List TypeRow → ProgramRows → Result ℕ Fault × Tables
accepted n types p = (Ok n, record { types = types; standing = opened; program = p })

abbrev pub text_added : Tables → List ℕ → Result ℕ Fault × Tables
text_added t bs =
    let n = length t.program.text in
    cond (nat_le (n + length bs) 4096) (accepted n t.types (with_text t.program bs)) (refused TableFull n t)

-- 12 goes before 13
abbrev pub type_put : Tables → Option TypeRow → Result ℕ Fault × Tables
type_put t None = refused FieldOutOfRange (length t.types) t
type_put t (Some r) =
    let n = length t.types in
    cond (type_fits n r) (cond (not (twice r) && free t.types r) (accepted n (t.types ++ (r ∷ [])) t.program) (refused PartTaken n t)) (refused FieldOutOfRange n t)

abbrev pub type_added : Tables → RawType → Result ℕ Fault × Tables
type_added t raw =
    let n = length t.types in
    cond (nat_lt n 512) (type_put t (type_of raw.kind raw.a raw.b)) (refused TableFull n t)

abbrev pub function_added : Tables → Function → Result ℕ Fault × Tables
function_added t f =
    let n = length t.program.functions in
    cond (nat_lt n 32) (cond (function_fits f) (accepted n t.types (with_function t.program f)) (refused FieldOutOfRange n t)) (refused TableFull n t)

abbrev pub arm_put : Tables → Option Arm → Result ℕ Fault × Tables
arm_put t None = refused FieldOutOfRange (length t.program.arms) t
arm_put t (Some arm) =
    let n = length t.program.arms in
    cond (arm_fits (length t.program.expressions) arm) (accepted n t.types (with_arm t.program arm)) (refused FieldOutOfRange n t)

abbrev pub arm_added : Tables → RawArm → Result ℕ Fault × Tables
arm_added t raw =
    let n = length t.program.arms in
    cond (nat_lt n 128) (arm_put t (arm_of raw.kind raw.tag raw.body)) (refused TableFull n t)

abbrev pub expression_put : Tables → Option Expression → Result ℕ Fault × Tables
expression_put t None = refused FieldOutOfRange (length t.program.expressions) t
expression_put t (Some e) =
    let n = length t.program.expressions in
    cond (expression_fits (room_of t.program) e) (accepted n t.types (with_expression t.program e)) (refused FieldOutOfRange n t)

abbrev pub expression_added : Tables → RawExpression → Result ℕ Fault × Tables
expression_added t raw =
    let n = length t.program.expressions in
    cond (nat_lt n 512) (expression_put t (expression_of raw.kind raw.a raw.b raw.c raw.d)) (refused TableFull n t)

abbrev pub body_put : Tables → ℕ → ℕ → Result ℕ Fault × Tables
body_put t f row = cond (nat_lt f (length t.program.functions) && nat_lt row (length t.program.expressions)) (accepted 0 t.types (with_body_set t.program f row)) (refused FieldOutOfRange 0 t)

abbrev pub query_put : Tables → Query → Result ℕ Fault × Tables
query_put t q = cond (query_fits (length t.program.expressions) q) (accepted 0 t.types (with_query t.program q)) (refused FieldOutOfRange 0 t)

-- What a call answers, and the session after it.
abbrev pub applied : Tables → Change → Result ℕ Fault × Tables
applied t (add_text bs) = text_added t bs
applied t (add_type raw) = type_added t raw
applied t (add_function p r) = function_added t (record { parameter = p; result = r; body = None })
applied t (add_arm raw) = arm_added t raw
applied t (add_expression raw) = expression_added t raw
applied t (set_body f row) = body_put t f row
applied t (set_query q) = query_put t q
applied t clear = (Ok 0, empty_tables)

-- a call that answers no place answers 0
abbrev pub answered : Result (Unit {0}) Fault → Result ℕ Fault
answered (Ok x) = Ok 0
answered (Err f) = Err f

abbrev pub settled : Accepted → Tables → Tables
settled Add t = record { types = t.types; standing = opened; program = t.program }
settled Body t = record { types = t.types; standing = opened; program = t.program }
settled QuerySet t = record { types = t.types; standing = opened; program = t.program }
settled Clear t = empty_tables
