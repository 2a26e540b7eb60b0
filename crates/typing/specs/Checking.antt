-- The check: what it tests before it types anything, the order in which functions and the query are typed, and its answer.
use Rattle.std.specs.Prelude.{◌≡◌, ℕ, ◌+◌, ◌<◌, false, ◌⊎◌, List, [], ◌∷◌, length, Some, None, Ok, Err, Option, Result, slice_index_or}
use Rattle.forest.specs.declared.fault.Reason.TheVariants.{NotSet, TypeMissing, Ambiguous}
use Rattle.rows.specs.declared.type_row.TypeRow.{TypeRow}
use Rattle.rows.specs.declared.expression.Expression.TheVariants.{As}
use Rattle.rows.specs.declared.function.Function.{Function}
use Rattle.rows.specs.declared.function.Query.{Query}
use Rattle.rows.specs.Programs.{ProgramRows}
use Rattle.types.specs.Parts.{Root, Rooted}
use Rattle.types.specs.Asking.{OneWay, ContentsRooted}
use Rattle.types.specs.Tables.{FailsFirst}
use Rattle.typing.specs.declared.fault.TypeFault.{TypeFault}
use Rattle.typing.specs.declared.answer.QueryType.{QueryType}
use Rattle.typing.specs.Faults.{type_fault}
use Rattle.typing.specs.Outcomes.{Progress, Outcome, given, then, goes, stops, Gives}
use Rattle.typing.specs.Typing.{expression_at, fitting, typed}

-- BEFORE TYPING

abbrev pub function_at : ProgramRows → ℕ → Function
function_at g n = slice_index_or g.functions n (record { parameter = 0; result = 0; body = None })

abbrev pub HasBody : ProgramRows → ℕ → Type 0
HasBody g n = (b : ℕ) × ((function_at g n).body ≡ Some b)

-- both types of function n are roots
abbrev pub FunctionRooted : List TypeRow → ProgramRows → ℕ → Type 0
FunctionRooted ts g n = Root ts (function_at g n).parameter × Root ts (function_at g n).result

-- expression row e is no "as", or one whose type is a root
abbrev pub TargetRooted : List TypeRow → ProgramRows → ℕ → Type 0
TargetRooted ts g e = (a t : ℕ) → expression_at g e ≡ As a t → Root ts t

-- P holds of all n numbers
abbrev pub Everywhere : ℕ → (ℕ → Type 0) → Type 0
Everywhere n P = (i : ℕ) → i < n → P i

-- r is the lowest of n numbers of which P does not hold
pub record LowestFailing (n : ℕ) (P : ℕ → Type 0) (r : ℕ) : Type 0 where
  pub there : r < n
  pub fails : P r → ⊥
  pub before : (i : ℕ) → i < r → P i

-- Types ts and a program that can be typed, with the query q.
pub record Ready (ts : List TypeRow) (g : ProgramRows) (q : Query) : Type 0 where
  pub query : g.query ≡ Some q
  pub bodies : Everywhere (length g.functions) (HasBody g)
  pub contents : ContentsRooted ts
  pub functions : Everywhere (length g.functions) (FunctionRooted ts g)
  pub input : Root ts q.input
  pub targets : Everywhere (length g.expressions) (TargetRooted ts g)
  pub one_way : Everywhere (length ts) (OneWay ts)

-- Otherwise the check is refused for the first of these that fails, in this order; no function is being typed.
pub data Unready (ts : List TypeRow) (g : ProgramRows) : TypeFault → Type 0 where
  no_query : g.query ≡ None → Unready ts g (type_fault NotSet 0 None)
  no_body : {q : Query} {n : ℕ} → g.query ≡ Some q → LowestFailing (length g.functions) (HasBody g) n → Unready ts g (type_fault NotSet n None)
  no_content : {q : Query} {n : ℕ} → g.query ≡ Some q → Everywhere (length g.functions) (HasBody g) → FailsFirst ts (Rooted ts) n → Unready ts g (type_fault TypeMissing n None)
  no_function_type : {q : Query} {n : ℕ} → g.query ≡ Some q → Everywhere (length g.functions) (HasBody g) → ContentsRooted ts → LowestFailing (length g.functions) (FunctionRooted ts g) n
      → Unready ts g (type_fault TypeMissing n None)
  no_input_type : {q : Query} → g.query ≡ Some q → Everywhere (length g.functions) (HasBody g) → ContentsRooted ts → Everywhere (length g.functions) (FunctionRooted ts g) → (Root ts q.input → ⊥)
      → Unready ts g (type_fault TypeMissing 0 None)
  no_target_type : {q : Query} {e : ℕ} → g.query ≡ Some q → Everywhere (length g.functions) (HasBody g) → ContentsRooted ts → Everywhere (length g.functions) (FunctionRooted ts g) → Root ts q.input
      → LowestFailing (length g.expressions) (TargetRooted ts g) e → Unready ts g (type_fault TypeMissing e None)
  not_one_way : {q : Query} {n : ℕ} → g.query ≡ Some q → Everywhere (length g.functions) (HasBody g) → ContentsRooted ts → Everywhere (length g.functions) (FunctionRooted ts g) → Root ts q.input
      → Everywhere (length g.expressions) (TargetRooted ts g) → FailsFirst ts (OneWay ts) n → Unready ts g (type_fault Ambiguous n None)

-- TYPING ALL

-- the body of function n is typed with its parameter, and has to fit its result
abbrev pub function_typed : ProgramRows → ℕ → Function → Option ℕ → (Progress → Outcome (Unit {0})) → Progress → Outcome (Unit {0})
function_typed g n f None rest p = rest p
function_typed g n f (Some b) rest p = then (typed g (Some n) (f.parameter ∷ []) b p) (λ x q. fitting (record { at = b; function = Some n }) x f.result q (rest q))

-- functions in order, the first being function n
abbrev pub functions_typed : ProgramRows → ℕ → List Function → Progress → Outcome (Unit {0})
functions_typed g n [] p = given tt p
functions_typed g n (f ∷ fs) p = function_typed g n f f.body (functions_typed g (n + 1) fs) p

-- all functions, and then the query
abbrev pub all_typed : ProgramRows → Query → Progress → Outcome ℕ
all_typed g q p = then (functions_typed g 0 g.functions p) (λ x o. typed g None (q.input ∷ []) q.row o)

-- typing begins with the declared rows
abbrev pub declared : List TypeRow → Progress
declared ts = record { types = ts; error = false }

-- The answer to a check, and the table of types that it leaves.
abbrev pub Checks : List TypeRow → ProgramRows → Result QueryType TypeFault → List TypeRow → Type 0
Checks ts g (Ok a) us = (q : Query) × Ready ts g q × Gives (all_typed g q (declared ts)) (goes a.row (record { types = us; error = a.error })) × (length us ≡ length ts + a.made)
Checks ts g (Err f) us = (Unready ts g f ⊎ ((q : Query) × Ready ts g q × Gives (all_typed g q (declared ts)) (stops f))) × (us ≡ ts)
