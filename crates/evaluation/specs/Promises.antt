-- What an accepted check promises.
use Rattle.std.specs.Prelude.{◌≡◌, ℕ, ◌<◌, ◌≤◌, ◌↔◌, List, [], ◌∷◌, ◌++◌, length, Some}
use Rattle.forest.specs.Forests.{Forest}
use Rattle.rows.specs.declared.type_row.TypeRow.{TypeRow}
use Rattle.rows.specs.declared.function.Query.{Query}
use Rattle.rows.specs.Programs.{ProgramRows}
use Rattle.types.specs.Parts.{Root, Lawful}
use Rattle.types.specs.Belonging.{Belongs, Subtype}
use Rattle.types.specs.Asking.{ContentsRooted}
use Rattle.typing.specs.declared.answer.QueryType.{QueryType}
use Rattle.typing.specs.Accepted.{AcceptedBy}
use Rattle.evaluation.specs.Evaluation.{State, run}
use Rattle.evaluation.specs.Laws.{KeepsType}

-- The declared types ts and a program were checked with the answer a, and the table of types is us.
pub record Promises (ts : List TypeRow) (g : ProgramRows) (a : QueryType) (us : List TypeRow) : Type 0 where
  -- by the typing rules every function's body has a type that fits its result, and the query has the type that is answered
  pub by_rules : AcceptedBy ts g a us
  -- made rows stand behind the declared ones, and all rows keep the rules on parts; contents are roots
  pub made : List TypeRow
  pub behind : us ≡ ts ++ made
  pub lawful : Lawful us
  pub contents : ContentsRooted us
  -- the answered row is there and is a root
  pub root : Root us a.row
  -- the table has grown, and what was said of declared rows is said of them still
  pub same_forests : (r : ℕ) (f : Forest) → r < length ts → Belongs ts r f ↔ Belongs us r f
  pub same_fits : (x y : ℕ) → x < length ts → y < length ts → Subtype ts x y ↔ Subtype us x y
  -- A run on input of its type, over a store of any layer and meaning, ends with a forest of the answered type or stops; at an error row only if typing came to one.
  pub runs : (q : Query) → g.query ≡ Some q → (l : ℕ) (f : Forest) (s : State) → Belongs us q.input f → s.fuel ≤ 1000000000000 → KeepsType us a.row a.error (run l g q.row (f ∷ []) s)

-- The typing rules accept the program with no answer.
abbrev pub NotAccepted : List TypeRow → ProgramRows → Type 0
NotAccepted ts g = (a : QueryType) (us : List TypeRow) → AcceptedBy ts g a us → ⊥
