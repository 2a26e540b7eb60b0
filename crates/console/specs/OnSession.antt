-- How a call on a session is answered.
use Rattle.std.specs.Prelude.{◌≡◌, ℕ, ◌<◌, min, List, [], ◌∷◌, length, take, replicate, Vec, vec_items, Ok, Err, Result}
use Rattle.forest.specs.declared.failure.Failure.{Failure}
use Rattle.std.specs.List.Sorted.{IsPermutation, IsNonDecreasing}
use Rattle.forest.specs.declared.fault.Fault.{Fault}
use Rattle.forest.specs.declared.fault.Reason.TheVariants.{BufferShort}
use Rattle.forest.specs.Faults.{faulted}
use Rattle.script.specs.Calls.{SessionAsked, text, type, function, arm, expression, body, query, check, tags, clear}
use Rattle.typing.specs.declared.answer.QueryType.{QueryType}
use Rattle.typing.specs.declared.fault.TypeFault.{TypeFault}
use Rattle.session.specs.CheckCall.{CheckCall}
use Rattle.session.specs.Calls.{Tables, add_text, add_type, add_function, add_arm, add_expression, set_body, set_query, clear as cleared, applied}
use Rattle.rows.specs.Programs.{ProgramRows}
use Rattle.session.specs.Tags.{ListsTags, tag_count}
use Rattle.answers.specs.Answers.{Said, done, text as printed, refused, check_refused, malformed, unsupported, handle_or_fault, done_or_fault, failed}

-- an add is answered by the place that it filled
abbrev pub with_place : Result ℕ Fault × Tables → Said × Tables
with_place r = (handle_or_fault r.0, r.1)

-- other changes are answered by nothing
abbrev pub without_place : Result ℕ Fault × Tables → Said × Tables
without_place r = (done_or_fault r.0, r.1)

-- the number of some tags and then the tags, rising
abbrev pub TagsSorted : List ℕ → Said → Type 0
TagsSorted ts (done ns) = (sorted : List ℕ) × IsPermutation ts sorted × IsNonDecreasing sorted × (ns ≡ length ts ∷ sorted)
TagsSorted ts (refused f) = ⊥
TagsSorted ts (check_refused f n) = ⊥
TagsSorted ts (printed bs) = ⊥
TagsSorted ts malformed = ⊥
TagsSorted ts unsupported = Unit {0}

-- The number of tags and then the tags, rising; 36 where the list is short. No session names more than 640 tags, so a longer list is as good as one of 640 places.
abbrev pub TagsTold : ProgramRows → ℕ → Said → Type 0
TagsTold p places (done ns) = (list : List ℕ) × ListsTags p (tag_count p) (replicate (min places 640) 0) list × TagsSorted (take (tag_count p) list) (done ns)
TagsTold p places (check_refused f n) = ⊥
TagsTold p places (refused f) = (f ≡ faulted BufferShort 1 0) × (min places 640 < tag_count p)
TagsTold p places (printed bs) = ⊥
TagsTold p places malformed = ⊥
TagsTold p places unsupported = Unit {0}

-- a list of numbers, or why there is none
abbrev pub numbers_or_failure : {Z : Type 0} → Result (Vec ℕ Z) Failure → Said
numbers_or_failure (Ok ns) = done (vec_items ns)
numbers_or_failure (Err f) = failed f

-- an accepted check is answered by the query's type row and the number of rows made; a refused one names the function that was being typed, if one was
abbrev pub check_said : Result QueryType TypeFault → Said
check_said (Ok a) = done (a.row ∷ a.made ∷ [])
check_said (Err f) = check_refused f.fault f.function

-- How a call is answered, and what the session holds then.
abbrev pub Told : SessionAsked → Tables → Said → Tables → Type 0
Told (text bs) t s u = (s, u) ≡ with_place (applied t (add_text bs))
Told (type row) t s u = (s, u) ≡ with_place (applied t (add_type row))
Told (function p r) t s u = (s, u) ≡ with_place (applied t (add_function p r))
Told (arm given) t s u = (s, u) ≡ with_place (applied t (add_arm given))
Told (expression row) t s u = (s, u) ≡ with_place (applied t (add_expression row))
Told (body f row) t s u = (s, u) ≡ without_place (applied t (set_body f row))
Told (query given) t s u = (s, u) ≡ without_place (applied t (set_query given))
Told check t s u = (r : Result QueryType TypeFault) × CheckCall t r u × (s ≡ check_said r)
Told (tags places) t s u = TagsTold t.program places s × (u ≡ t)
Told clear t s u = (s, u) ≡ without_place (applied t cleared)

-- Of these calls only the list of tags needs memory.
abbrev pub MayLackMemory : SessionAsked → Type 0
MayLackMemory (tags places) = Unit {0}
MayLackMemory (text bs) = ⊥
MayLackMemory (type row) = ⊥
MayLackMemory (function p r) = ⊥
MayLackMemory (arm given) = ⊥
MayLackMemory (expression row) = ⊥
MayLackMemory (body f row) = ⊥
MayLackMemory (query given) = ⊥
MayLackMemory check = ⊥
MayLackMemory clear = ⊥

-- The call was performed; where memory is short the session is as it was.
abbrev pub Answered : SessionAsked → Tables → Said → Tables → Type 0
Answered a t (done ns) u = Told a t (done ns) u
Answered a t (refused f) u = Told a t (refused f) u
Answered a t (check_refused f n) u = Told a t (check_refused f n) u
Answered a t (printed bs) u = ⊥
Answered a t malformed u = ⊥
Answered a t unsupported u = (u ≡ t) × MayLackMemory a
