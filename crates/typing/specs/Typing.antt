-- The types of expressions: what each row is typed, which type rows that makes, and where typing stops.
use Rattle.std.specs.Prelude.{ℕ, zero, suc, Bool, true, false, cond, List, [], ◌∷◌, ◌++◌, length, take, drop, Some, None, Option, nat_lt, slice_get, slice_index_or}
use Rattle.forest.specs.declared.fault.Reason.{Reason}
use Rattle.forest.specs.declared.fault.Reason.TheVariants.{Unbound, NoSuchFunction, WrongKind, Unfit, TypesFull}
use Rattle.rows.specs.declared.type_row.TypeRow.{TypeRow}
use Rattle.rows.specs.declared.type_row.TypeRow.TheVariants.{EmptyChoice, EmptySequence, Integer as IntegerType, String as StringType, Boolean as BooleanType, Element as ElementType, AnyElement as AnyElementType, Sequence as SequenceType, Choice, Repetition}
use Rattle.rows.specs.declared.expression.Expression.{Expression}
use Rattle.rows.specs.declared.expression.Expression.TheVariants.{Error, Integer, Boolean, String, Variable, Element, Sequence, Empty, If, Let, For, Match, Call, Add, Equal, IsEmpty, Count, Children, As}
use Rattle.rows.specs.declared.arm.Arm.{Arm}
use Rattle.rows.specs.declared.function.Function.{Function}
use Rattle.rows.specs.Programs.{ProgramRows}
use Rattle.types.specs.Parts.{row, content}
use Rattle.types.specs.Determinism.{overlaps}
use Rattle.typing.specs.Faults.{type_fault}
use Rattle.typing.specs.Kinds.{is_item, is_integer, is_boolean, is_scalar, Taking, takes, passes, may_take, taking, narrowed}
use Rattle.typing.specs.Outcomes.{Progress, Outcome, given, stopped, demanding, then}

-- Where typing is: the expression row, and the function that is being typed.
pub record Spot : Type 0 where
  pub at : ℕ
  pub function : Option ℕ

abbrev pub stop_at : {A : Type 0} → Spot → Reason → Outcome A
stop_at s why = stopped (type_fault why s.at s.function)

-- STEPS

-- one type row more, and its number; there are no more than 512
abbrev pub made : Spot → TypeRow → Progress → Outcome ℕ
made s t p = cond (nat_lt (length p.types) 512) (given (length p.types) (record { types = p.types ++ (t ∷ []); error = p.error })) (stop_at s TypesFull)

-- what is made is the type of an error row
abbrev pub came_to_error : ℕ → Progress → Outcome ℕ
came_to_error x p = given x (record { types = p.types; error = true })

-- a type of another kind than is asked for stops typing
abbrev pub needing : {A : Type 0} → Spot → Bool → Outcome A → Outcome A
needing s true o = o
needing s false o = stop_at s WrongKind

-- a row has to fit a root
abbrev pub fitting : {A : Type 0} → Spot → ℕ → ℕ → Progress → Outcome A → Outcome A
fitting s x root p o = demanding (record { types = p.types; row = x; root = root; refusal = type_fault Unfit s.at s.function }) o

-- WALKS: each item of a type gives way to what `item` gives for it; the other rows are copied, each after its parts, the left one first

abbrev pub walk_row : Spot → (ℕ → Progress → Outcome ℕ) → (ℕ → Progress → Outcome ℕ) → ℕ → TypeRow → Progress → Outcome ℕ
walk_row s item part r EmptyChoice p = made s EmptyChoice p
walk_row s item part r EmptySequence p = made s EmptySequence p
walk_row s item part r IntegerType p = item r p
walk_row s item part r StringType p = item r p
walk_row s item part r BooleanType p = item r p
walk_row s item part r (ElementType t c) p = item r p
walk_row s item part r (AnyElementType c) p = item r p
walk_row s item part r (SequenceType a b) p = then (part a p) (λ x q. then (part b q) (λ y o. made s (SequenceType x y) o))
walk_row s item part r (Choice a b) p = then (part a p) (λ x q. then (part b q) (λ y o. made s (Choice x y) o))
walk_row s item part r (Repetition a) p = then (part a p) (λ x q. made s (Repetition x) q)

-- parts are lower rows, so n steps down are enough below row n of the table ts
abbrev pub walk_below : ℕ → Spot → (ℕ → Progress → Outcome ℕ) → List TypeRow → ℕ → Progress → Outcome ℕ
walk_below zero s item ts r p = stop_at s TypesFull
walk_below (suc n) s item ts r p = walk_row s item (walk_below n s item ts) r (row ts r) p

abbrev pub walk : Spot → (ℕ → Progress → Outcome ℕ) → List TypeRow → ℕ → Progress → Outcome ℕ
walk s item ts r p = walk_below (suc r) s item ts r p

-- a copy of the type of row r: items too; contents are kept
abbrev pub copy : Spot → ℕ → Progress → Outcome ℕ
copy s r p = walk s (λ i q. made s (row p.types i) q) p.types r p

-- EXPRESSIONS

abbrev pub expression_at : ProgramRows → ℕ → Expression
expression_at g e = slice_index_or g.expressions e Error

abbrev pub variable : Spot → Option ℕ → Progress → Outcome ℕ
variable s None p = stop_at s Unbound
variable s (Some r) p = copy s r p

abbrev pub children_of : Spot → Option ℕ → Progress → Outcome ℕ
children_of s None p = stop_at s WrongKind
children_of s (Some c) p = copy s c p

-- How parts are typed: with the types of the variables, an expression row, and what was made before.
abbrev pub Typer : Type 0
Typer = List ℕ → ℕ → Progress → Outcome ℕ

-- the argument has to fit the parameter
abbrev pub call : Spot → Typer → List ℕ → ℕ → Option Function → Progress → Outcome ℕ
call s type vs a None p = stop_at s NoSuchFunction
call s type vs a (Some f) p = then (type vs a p) (λ x q. fitting s x f.parameter q (copy s f.result q))

-- the choices of the branches, from the left
abbrev pub chosen : Spot → ℕ → List ℕ → Progress → Outcome ℕ
chosen s x [] p = given x p
chosen s x (y ∷ ys) p = then (made s (Choice x y) p) (λ z q. chosen s z ys q)

abbrev pub joined : Spot → List ℕ → Progress → Outcome ℕ
joined s [] p = made s EmptyChoice p
joined s (x ∷ xs) p = chosen s x xs p

-- One arm, the subject being row x and earlier arms having named some tags; `rest` types the arms behind it, and else.
abbrev pub branch : Spot → Typer → List ℕ → ℕ → List ℕ → ℕ → (List ℕ → Progress → Outcome (List ℕ)) → Taking → Progress → Outcome (List ℕ)
branch s type vs x named body rest takes p = then (type (vs ++ (x ∷ [])) body p) (λ b q. given (b ∷ []) q)
branch s type vs x named body rest passes p = rest named p
branch s type vs x named body rest (may_take t) p =
    then (made s (narrowed t (row p.types x)) p) (λ v q.
    then (type (vs ++ (v ∷ [])) body q) (λ b o.
    then (rest (t ∷ named) o) (λ bs u. given (b ∷ bs) u)))

-- the types of the branches that are reached: by the arms in order, and else last
abbrev pub branches : Spot → Typer → List ℕ → ℕ → ℕ → List Arm → List ℕ → Progress → Outcome (List ℕ)
branches s type vs x else [] named p = then (type vs else p) (λ b q. given (b ∷ []) q)
branches s type vs x else (arm ∷ arms) named p = branch s type vs x named arm.body (branches s type vs x else arms) (taking named (row p.types x) arm.pattern) p

-- One row, by its kind. A demand on a part is tested as soon as the part is typed.
abbrev pub type_row : ProgramRows → Spot → Typer → List ℕ → Expression → Progress → Outcome ℕ
type_row g s type vs Error p = then (made s EmptyChoice p) came_to_error
type_row g s type vs (Integer z) p = made s IntegerType p
type_row g s type vs (Boolean b) p = made s BooleanType p
type_row g s type vs (String from long) p = made s StringType p
type_row g s type vs (Variable i) p = variable s (slice_get vs i) p
type_row g s type vs (Element t a) p = then (type vs a p) (λ x q. made s (ElementType t x) q)
type_row g s type vs (Sequence a b) p = then (type vs a p) (λ x q. then (type vs b q) (λ y o. made s (SequenceType x y) o))
type_row g s type vs Empty p = made s EmptySequence p
type_row g s type vs (If a b c) p =
    then (type vs a p) (λ x q. needing s (is_boolean (row q.types x)) (
    then (type vs b q) (λ y o. then (type vs c o) (λ z u. made s (Choice y z) u))))
type_row g s type vs (Let a b) p = then (type vs a p) (λ x q. type (vs ++ (x ∷ [])) b q)
type_row g s type vs (For a b) p = then (type vs a p) (λ x q. walk s (λ i o. type (vs ++ (i ∷ [])) b o) q.types x q)
type_row g s type vs (Match a from long else) p =
    then (type vs a p) (λ x q. needing s (is_item (row q.types x)) (
    then (branches s type vs x else (take long (drop from g.arms)) [] q) (λ bs o. joined s bs o)))
type_row g s type vs (Call f a) p = call s type vs a (slice_get g.functions f) p
type_row g s type vs (Add a b) p =
    then (type vs a p) (λ x q. needing s (is_integer (row q.types x)) (
    then (type vs b q) (λ y o. needing s (is_integer (row o.types y)) (made s IntegerType o))))
type_row g s type vs (Equal a b) p =
    then (type vs a p) (λ x q. needing s (is_scalar (row q.types x)) (
    then (type vs b q) (λ y o. needing s (overlaps (row o.types x) (row o.types y)) (made s BooleanType o))))
type_row g s type vs (IsEmpty a) p = then (type vs a p) (λ x q. made s BooleanType q)
type_row g s type vs (Count a) p = then (type vs a p) (λ x q. made s IntegerType q)
type_row g s type vs (Children a) p = then (type vs a p) (λ x q. children_of s (content (row q.types x)) q)
type_row g s type vs (As a t) p = then (type vs a p) (λ x q. fitting s x t q (copy s t q))

-- parts are lower rows, so n steps down are enough below row n
abbrev pub type_below : ℕ → ProgramRows → Option ℕ → Typer
type_below zero g f vs e p = stop_at (record { at = e; function = f }) TypesFull
type_below (suc n) g f vs e p = type_row g (record { at = e; function = f }) (type_below n g f) vs (expression_at g e) p

-- The type of expression row e, in a function or in the query, by the types of its variables.
abbrev pub typed : ProgramRows → Option ℕ → List ℕ → ℕ → Progress → Outcome ℕ
typed g f vs e p = type_below (suc e) g f vs e p
