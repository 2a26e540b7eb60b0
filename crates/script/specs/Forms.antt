-- How a line writes the calls.
use Rattle.std.specs.Prelude.{ℕ, cond, List, [], ◌∷◌, ◌++◌, map, None, codes, Option}
use Prim.Native.String.{String}
use Rattle.std.specs.Option.{option_map}
use Rattle.std.specs.Str.{bytes_eq}
use Rattle.fields.specs.Bytes.{bytes_of}
use Rattle.fields.specs.Numbers.{signed_number}
use Rattle.fields.specs.Rows.{number8, number32, numbers_of, rows_of}
use Rattle.script.specs.Calls.{Asked, on_store, on_session, on_types, StoreAsked, capture, table, tray, space, integer, boolean, string, element, print, SessionAsked, text, type, function, arm, expression, body, query, check, tags, clear, TypesAsked, one_way, fits, validate}
use Rattle.script.specs.Patterns.{none, one, two, three, five, one_then}

-- A call's word, and how the words after it are read.
pub record Form (X : Type 0) : Type 0 where
  pub word : List ℕ
  pub reads : List (List ℕ) → Option X

abbrev pub form : {X : Type 0} → String → (List (List ℕ) → Option X) → Form X
form name reader = record { word = codes name; reads = reader }

-- the same form, for calls of more kinds
abbrev pub as_kind : {X Y : Type 0} → (X → Y) → Form X → Form Y
as_kind kind f = record { word = f.word; reads = λ words. option_map kind (f.reads words) }

-- The calls on a store.
abbrev pub store_forms : List (Form StoreAsked)
store_forms =
    form "capture" (one bytes_of capture)
    ∷ form "table" (three rows_of numbers_of bytes_of table)
    ∷ form "tray" (three number32 number32 number32 (λ t c b. tray (record { trees = t; children = c; bytes = b })))
    ∷ form "space" (none space)
    ∷ form "integer" (one signed_number integer)
    ∷ form "boolean" (one number32 boolean)
    ∷ form "string" (one bytes_of string)
    ∷ form "element" (one_then number32 number32 element)
    ∷ form "print" (one_then number32 number32 print)
    ∷ []

-- The calls on a session.
abbrev pub session_forms : List (Form SessionAsked)
session_forms =
    form "text" (one bytes_of text)
    ∷ form "type" (three number8 number32 number32 (λ k a b. type (record { kind = k; a = a; b = b })))
    ∷ form "function" (two number32 number32 function)
    ∷ form "arm" (three number8 number32 number32 (λ k t b. arm (record { kind = k; tag = t; body = b })))
    ∷ form "expression" (five number8 signed_number number32 number32 number32 (λ k a b c d. expression (record { kind = k; a = a; b = b; c = c; d = d })))
    ∷ form "body" (two number32 number32 body)
    ∷ form "query" (two number32 number32 (λ i r. query (record { input = i; row = r })))
    ∷ form "check" (none check)
    ∷ form "tags" (one number32 tags)
    ∷ form "clear" (none clear)
    ∷ []

-- The calls on the types of a session.
abbrev pub types_forms : List (Form TypesAsked)
types_forms =
    form "oneway" (one number32 one_way)
    ∷ form "fits" (two number32 number32 fits)
    ∷ form "validate" (one_then number32 number32 validate)
    ∷ []

-- The calls that are not on a store: those on a session, and then those on its types.
abbrev pub other_forms : List (Form Asked)
other_forms = map (as_kind on_session) session_forms ++ map (as_kind on_types) types_forms

-- The calls: those on a store, and then the others.
abbrev pub forms : List (Form Asked)
forms = map (as_kind on_store) store_forms ++ other_forms

abbrev pub look_up : {X : Type 0} → List (Form X) → List ℕ → List (List ℕ) → Option X
look_up [] name words = None
look_up (f ∷ fs) name words = cond (bytes_eq name f.word) (f.reads words) (look_up fs name words)

-- what words after a call's word ask for
abbrev pub store_call_of : List ℕ → List (List ℕ) → Option StoreAsked
store_call_of name words = look_up store_forms name words

abbrev pub session_call_of : List ℕ → List (List ℕ) → Option SessionAsked
session_call_of name words = look_up session_forms name words

abbrev pub types_call_of : List ℕ → List (List ℕ) → Option TypesAsked
types_call_of name words = look_up types_forms name words

abbrev pub other_call_of : List ℕ → List (List ℕ) → Option Asked
other_call_of name words = look_up other_forms name words

abbrev pub call_of : List ℕ → List (List ℕ) → Option Asked
call_of name words = look_up forms name words
