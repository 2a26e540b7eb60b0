-- The typing rules: what is accepted.
use Rattle.std.specs.Prelude.{◌≡◌, ℕ, ◌<◌, Bool, true, List, [], ◌∷◌, ◌++◌, length, take, drop, Some, ℤ, slice_get}
use Rattle.rows.specs.declared.type_row.TypeRow.{TypeRow}
use Rattle.rows.specs.declared.type_row.TypeRow.TheVariants.{EmptyChoice, EmptySequence, Integer as IntegerType, String as StringType, Boolean as BooleanType, Element as ElementType, Sequence as SequenceType, Choice, Repetition}
use Rattle.rows.specs.declared.expression.Expression.TheVariants.{Error, Integer, Boolean, String, Variable, Element, Sequence, Empty, If, Let, For, Match, Call, Add, Equal, IsEmpty, Count, Children, As}
use Rattle.rows.specs.declared.arm.Arm.{Arm}
use Rattle.rows.specs.declared.function.Function.{Function}
use Rattle.rows.specs.Programs.{ProgramRows}
use Rattle.types.specs.Parts.{row, content}
use Rattle.types.specs.Belonging.{Subtype}
use Rattle.types.specs.Determinism.{overlaps}
use Rattle.typing.specs.Kinds.{is_item, is_integer, is_boolean, is_scalar, takes, passes, may_take, taking, narrowed}
use Rattle.typing.specs.Outcomes.{Progress}
use Rattle.typing.specs.Typing.{expression_at}

-- one type row more, behind the others: row x
pub record Added (t : TypeRow) (p : Progress) (x : ℕ) (q : Progress) : Type 0 where
  pub room : length p.types < 512
  pub place : x ≡ length p.types
  pub table : q ≡ record { types = p.types ++ (t ∷ []); error = p.error }

-- the choices of branches, from the left
pub data Chosen : ℕ → List ℕ → Progress → ℕ → Progress → Type 0 where
  one : {x : ℕ} {p : Progress} → Chosen x [] p x p
  more : {x y z r : ℕ} {ys : List ℕ} {p q o : Progress} → Added (Choice x y) p z q → Chosen z ys q r o → Chosen x (y ∷ ys) p r o

-- What a walk over a type puts in the place of an item: a copy of it, or the type of an expression row whose last variable is the item.
pub data Each : Type 0 where
  copied : Each
  typed_as : List ℕ → ℕ → Each

mutual
  -- With variables of the types vs, expression row e has the type of row x. Before it the table of types is that of p, after it that of q.
  pub data Types (g : ProgramRows) : List ℕ → ℕ → Progress → ℕ → Progress → Type 0 where
    error : {vs : List ℕ} {e x : ℕ} {p q : Progress} → expression_at g e ≡ Error → Added EmptyChoice p x q → Types g vs e p x (record { types = q.types; error = true })
    integer : {vs : List ℕ} {e x : ℕ} {p q : Progress} {z : ℤ} → expression_at g e ≡ Integer z → Added IntegerType p x q → Types g vs e p x q
    boolean : {vs : List ℕ} {e x : ℕ} {p q : Progress} {b : Bool} → expression_at g e ≡ Boolean b → Added BooleanType p x q → Types g vs e p x q
    string : {vs : List ℕ} {e x from long : ℕ} {p q : Progress} → expression_at g e ≡ String from long → Added StringType p x q → Types g vs e p x q
    variable : {vs : List ℕ} {e x i r : ℕ} {p q : Progress} → expression_at g e ≡ Variable i → slice_get vs i ≡ Some r → Walks g copied p.types r p x q → Types g vs e p x q
    element : {vs : List ℕ} {e t a x y : ℕ} {p q o : Progress} → expression_at g e ≡ Element t a → Types g vs a p x q → Added (ElementType t x) q y o → Types g vs e p y o
    sequence : {vs : List ℕ} {e a b x y z : ℕ} {p q o u : Progress} → expression_at g e ≡ Sequence a b → Types g vs a p x q → Types g vs b q y o → Added (SequenceType x y) o z u → Types g vs e p z u
    empty : {vs : List ℕ} {e x : ℕ} {p q : Progress} → expression_at g e ≡ Empty → Added EmptySequence p x q → Types g vs e p x q
    if : {vs : List ℕ} {e a b c x y z w : ℕ} {p q o u v : Progress} → expression_at g e ≡ If a b c → Types g vs a p x q → is_boolean (row q.types x) ≡ true
        → Types g vs b q y o → Types g vs c o z u → Added (Choice y z) u w v → Types g vs e p w v
    let_in : {vs : List ℕ} {e a b x y : ℕ} {p q o : Progress} → expression_at g e ≡ Let a b → Types g vs a p x q → Types g (vs ++ (x ∷ [])) b q y o → Types g vs e p y o
    for_each : {vs : List ℕ} {e a b x y : ℕ} {p q o : Progress} → expression_at g e ≡ For a b → Types g vs a p x q → Walks g (typed_as vs b) q.types x q y o → Types g vs e p y o
    match_item : {vs : List ℕ} {e a from long else x y z : ℕ} {ys : List ℕ} {p q o u : Progress} → expression_at g e ≡ Match a from long else → Types g vs a p x q → is_item (row q.types x) ≡ true
        → Branches g vs x else (take long (drop from g.arms)) [] q (y ∷ ys) o → Chosen y ys o z u → Types g vs e p z u
    call : {vs : List ℕ} {e n a x y : ℕ} {f : Function} {p q o : Progress} → expression_at g e ≡ Call n a → slice_get g.functions n ≡ Some f → Types g vs a p x q → Subtype q.types x f.parameter
        → Walks g copied q.types f.result q y o → Types g vs e p y o
    add : {vs : List ℕ} {e a b x y z : ℕ} {p q o u : Progress} → expression_at g e ≡ Add a b → Types g vs a p x q → is_integer (row q.types x) ≡ true
        → Types g vs b q y o → is_integer (row o.types y) ≡ true → Added IntegerType o z u → Types g vs e p z u
    equal : {vs : List ℕ} {e a b x y z : ℕ} {p q o u : Progress} → expression_at g e ≡ Equal a b → Types g vs a p x q → is_scalar (row q.types x) ≡ true
        → Types g vs b q y o → overlaps (row o.types x) (row o.types y) ≡ true → Added BooleanType o z u → Types g vs e p z u
    is_empty : {vs : List ℕ} {e a x y : ℕ} {p q o : Progress} → expression_at g e ≡ IsEmpty a → Types g vs a p x q → Added BooleanType q y o → Types g vs e p y o
    count : {vs : List ℕ} {e a x y : ℕ} {p q o : Progress} → expression_at g e ≡ Count a → Types g vs a p x q → Added IntegerType q y o → Types g vs e p y o
    children : {vs : List ℕ} {e a x y c : ℕ} {p q o : Progress} → expression_at g e ≡ Children a → Types g vs a p x q → content (row q.types x) ≡ Some c → Walks g copied q.types c q y o → Types g vs e p y o
    as_type : {vs : List ℕ} {e a t x y : ℕ} {p q o : Progress} → expression_at g e ≡ As a t → Types g vs a p x q → Subtype q.types x t → Walks g copied q.types t q y o → Types g vs e p y o

  -- A walk over the type of row r of the table ts gives row x: items give way to what is put in their place, other rows are copied behind their parts, the left part first.
  pub data Walks (g : ProgramRows) : Each → List TypeRow → ℕ → Progress → ℕ → Progress → Type 0 where
    item_copied : {ts : List TypeRow} {r x : ℕ} {p q : Progress} → is_item (row ts r) ≡ true → Added (row ts r) p x q → Walks g copied ts r p x q
    item_typed : {ts : List TypeRow} {vs : List ℕ} {b r x : ℕ} {p q : Progress} → is_item (row ts r) ≡ true → Types g (vs ++ (r ∷ [])) b p x q → Walks g (typed_as vs b) ts r p x q
    no_choice : {w : Each} {ts : List TypeRow} {r x : ℕ} {p q : Progress} → row ts r ≡ EmptyChoice → Added EmptyChoice p x q → Walks g w ts r p x q
    nothing : {w : Each} {ts : List TypeRow} {r x : ℕ} {p q : Progress} → row ts r ≡ EmptySequence → Added EmptySequence p x q → Walks g w ts r p x q
    both : {w : Each} {ts : List TypeRow} {r a b x y z : ℕ} {p q o u : Progress} → row ts r ≡ SequenceType a b → Walks g w ts a p x q → Walks g w ts b q y o → Added (SequenceType x y) o z u → Walks g w ts r p z u
    either : {w : Each} {ts : List TypeRow} {r a b x y z : ℕ} {p q o u : Progress} → row ts r ≡ Choice a b → Walks g w ts a p x q → Walks g w ts b q y o → Added (Choice x y) o z u → Walks g w ts r p z u
    repeated : {w : Each} {ts : List TypeRow} {r a x y : ℕ} {p q o : Progress} → row ts r ≡ Repetition a → Walks g w ts a p x q → Added (Repetition x) q y o → Walks g w ts r p y o

  -- The branches that are reached with the subject x, by the arms in order, and else last.
  pub data Branches (g : ProgramRows) : List ℕ → ℕ → ℕ → List Arm → List ℕ → Progress → List ℕ → Progress → Type 0 where
    otherwise : {vs named : List ℕ} {x else b : ℕ} {p q : Progress} → Types g vs else p b q → Branches g vs x else [] named p (b ∷ []) q
    arm_takes : {vs named : List ℕ} {x else b : ℕ} {arm : Arm} {arms : List Arm} {p q : Progress} → taking named (row p.types x) arm.pattern ≡ takes
        → Types g (vs ++ (x ∷ [])) arm.body p b q → Branches g vs x else (arm ∷ arms) named p (b ∷ []) q
    arm_passes : {vs named bs : List ℕ} {x else : ℕ} {arm : Arm} {arms : List Arm} {p q : Progress} → taking named (row p.types x) arm.pattern ≡ passes
        → Branches g vs x else arms named p bs q → Branches g vs x else (arm ∷ arms) named p bs q
    arm_may : {vs named bs : List ℕ} {x else t v b : ℕ} {arm : Arm} {arms : List Arm} {p q o u : Progress} → taking named (row p.types x) arm.pattern ≡ may_take t
        → Added (narrowed t (row p.types x)) p v q → Types g (vs ++ (v ∷ [])) arm.body q b o → Branches g vs x else arms (t ∷ named) o bs u → Branches g vs x else (arm ∷ arms) named p (b ∷ bs) u
