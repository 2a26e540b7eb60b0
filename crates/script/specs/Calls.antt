-- The calls of a script and their words.
use Rattle.std.specs.Prelude.{ℕ, List, ℤ, vec_items, codes}
use Rattle.forest.specs.declared.space.Space.{Space}
use Rattle.table.specs.declared.row.RawRow.{RawRow}
use Rattle.rows.specs.declared.type_row.RawType.{RawType}
use Rattle.rows.specs.declared.arm.RawArm.{RawArm}
use Rattle.rows.specs.declared.expression.RawExpression.{RawExpression}
use Rattle.rows.specs.declared.function.Query.{Query as RawQuery}
use Rattle.script.specs.declared.call.StoreCall.{StoreCall}
use Rattle.script.specs.declared.call.StoreCall.TheVariants.{Capture, Table, Tray, Space as SpaceLeft, Integer, Boolean, String, Element, Print}
use Rattle.script.specs.declared.call.SessionCall.{SessionCall}
use Rattle.script.specs.declared.call.SessionCall.TheVariants.{Text, «Type» as TypeRow, Function, Arm, Expression, Body, Query, Check, Tags, Clear}
use Rattle.script.specs.declared.call.TypeCall.{TypeCall}
use Rattle.script.specs.declared.call.TypeCall.TheVariants.{OneWay, Fits, Validate}
use Rattle.script.specs.declared.call.Call.{Call}
use Rattle.script.specs.declared.call.Call.TheVariants.{Store, Session, Types}

-- What a line asks of a store.
pub data StoreAsked : Type 0 where
  capture : List ℕ → StoreAsked
  table : List RawRow → List ℕ → List ℕ → StoreAsked
  tray : Space → StoreAsked
  space : StoreAsked
  integer : ℤ → StoreAsked
  boolean : ℕ → StoreAsked
  string : List ℕ → StoreAsked
  element : ℕ → List ℕ → StoreAsked
  print : ℕ → List ℕ → StoreAsked

-- What a line asks of a session.
pub data SessionAsked : Type 0 where
  text : List ℕ → SessionAsked
  type : RawType → SessionAsked
  function body : ℕ → ℕ → SessionAsked
  arm : RawArm → SessionAsked
  expression : RawExpression → SessionAsked
  query : RawQuery → SessionAsked
  check : SessionAsked
  tags : ℕ → SessionAsked
  clear : SessionAsked

-- What a line asks about the types of a session.
pub data TypesAsked : Type 0 where
  one_way : ℕ → TypesAsked
  fits : ℕ → ℕ → TypesAsked
  validate : ℕ → List ℕ → TypesAsked

-- What a line asks for.
pub data Asked : Type 0 where
  on_store : StoreAsked → Asked
  on_session : SessionAsked → Asked
  on_types : TypesAsked → Asked

abbrev pub asked_store : StoreCall → StoreAsked
asked_store (Capture bytes) = capture (vec_items bytes)
asked_store (Table rows children bytes) = table (vec_items rows) (vec_items children) (vec_items bytes)
asked_store (Tray limits) = tray limits
asked_store SpaceLeft = space
asked_store (Integer value) = integer value
asked_store (Boolean value) = boolean value
asked_store (String bytes) = string (vec_items bytes)
asked_store (Element tag children) = element tag (vec_items children)
asked_store (Print places handles) = print places (vec_items handles)

abbrev pub asked_session : SessionCall → SessionAsked
asked_session (Text bytes) = text (vec_items bytes)
asked_session (TypeRow row) = type row
asked_session (Function parameter result) = function parameter result
asked_session (Arm given) = arm given
asked_session (Expression row) = expression row
asked_session (Body owner row) = body owner row
asked_session (Query given) = query given
asked_session Check = check
asked_session (Tags places) = tags places
asked_session Clear = clear

abbrev pub asked_types : TypeCall → TypesAsked
asked_types (OneWay row) = one_way row
asked_types (Fits row root) = fits row root
asked_types (Validate root handles) = validate root (vec_items handles)

abbrev pub asked : Call → Asked
asked (Store call) = on_store (asked_store call)
asked (Session call) = on_session (asked_session call)
asked (Types call) = on_types (asked_types call)

-- The word of a call.

abbrev pub store_word : StoreAsked → List ℕ
store_word (capture bytes) = codes "capture"
store_word (table rows children bytes) = codes "table"
store_word (tray limits) = codes "tray"
store_word space = codes "space"
store_word (integer value) = codes "integer"
store_word (boolean value) = codes "boolean"
store_word (string bytes) = codes "string"
store_word (element tag children) = codes "element"
store_word (print places handles) = codes "print"

abbrev pub session_word : SessionAsked → List ℕ
session_word (text bytes) = codes "text"
session_word (type row) = codes "type"
session_word (function parameter result) = codes "function"
session_word (arm given) = codes "arm"
session_word (expression row) = codes "expression"
session_word (body owner row) = codes "body"
session_word (query given) = codes "query"
session_word check = codes "check"
session_word (tags places) = codes "tags"
session_word clear = codes "clear"

abbrev pub types_word : TypesAsked → List ℕ
types_word (one_way row) = codes "oneway"
types_word (fits row root) = codes "fits"
types_word (validate root handles) = codes "validate"

abbrev pub word_of : Asked → List ℕ
word_of (on_store a) = store_word a
word_of (on_session a) = session_word a
word_of (on_types a) = types_word a
