-- The lines that answer calls.
use Rattle.std.specs.Prelude.{ℕ, List, [], ◌∷◌, ◌++◌, length, vec_items, codes, decimal, Option, Ok, Err, Result}
use Rattle.std.specs.Option.{unwrap_or}
use Rattle.forest.specs.Faults.{number_of}
use Rattle.forest.specs.declared.failure.Failure.{Failure}
use Rattle.forest.specs.declared.failure.Failure.TheVariants.{Refused as Refusal, OutOfMemory}
use Rattle.forest.specs.declared.fault.Fault.{Fault}
use Rattle.forest.specs.declared.space.Space.{Space}
use Rattle.answers.specs.declared.answer.Answer.{Answer}
use Rattle.answers.specs.declared.answer.Answer.TheVariants.{Done, Number, Measures, Checked, Numbers, Printed, Refused, CheckRefused, Malformed, Unsupported}

-- numbers in decimal, a space before each
abbrev pub spaced : List ℕ → List ℕ
spaced [] = []
spaced (n ∷ ns) = (32 ∷ decimal n) ++ spaced ns

-- a text's length, and the text behind a space unless it is empty
abbrev pub sized : List ℕ → List ℕ
sized [] = spaced (0 ∷ [])
sized (b ∷ bs) = spaced (length (b ∷ bs) ∷ []) ++ (32 ∷ b ∷ bs)

abbrev pub fault_numbers : Fault → List ℕ
fault_numbers f = number_of f.reason ∷ f.layer ∷ f.row ∷ []

-- where no function was being typed, 255 stands for it
abbrev pub check_numbers : Fault → Option ℕ → List ℕ
check_numbers f function = number_of f.reason ∷ f.layer ∷ f.row ∷ unwrap_or function 255 ∷ []

-- the number of the line, the word of its call and what there is to say, parted by spaces
abbrev pub answered : ℕ → List ℕ → List ℕ → List ℕ
answered line word text = decimal line ++ ((32 ∷ word) ++ (32 ∷ text))

-- What an answer says, whatever holds it.
pub data Said : Type 0 where
  done : List ℕ → Said
  text : List ℕ → Said
  refused : Fault → Said
  -- by the check, in a function or in none
  check_refused : Fault → Option ℕ → Said
  malformed unsupported : Said

-- the number of trees, then the three numbers of space
abbrev pub measured : ℕ → Space → List ℕ
measured n s = n ∷ s.trees ∷ s.children ∷ s.bytes ∷ []

-- a tree or a row that was made is answered by its handle or place
abbrev pub handle_or_fault : Result ℕ Fault → Said
handle_or_fault (Ok n) = done (n ∷ [])
handle_or_fault (Err f) = refused f

-- a change that gives nothing is answered by nothing
abbrev pub done_or_fault : {X : Type 0} → Result X Fault → Said
done_or_fault (Ok x) = done []
done_or_fault (Err f) = refused f

abbrev pub failed : Failure → Said
failed (Refusal f) = refused f
failed OutOfMemory = unsupported

abbrev pub said : Answer → Said
said Done = done []
said (Number n) = done (n ∷ [])
said (Measures n s) = done (measured n s)
said (Checked row made) = done (row ∷ made ∷ [])
said (Numbers ns) = done (vec_items ns)
said (Printed bs) = text (vec_items bs)
said (Refused f) = refused f
said (CheckRefused f function) = check_refused f function
said Malformed = malformed
said Unsupported = unsupported

-- what is said behind the word of a call
abbrev pub outcome : Said → List ℕ
outcome (done numbers) = codes "ok" ++ spaced numbers
outcome (text bytes) = codes "ok" ++ sized bytes
outcome (refused f) = codes "refused" ++ spaced (fault_numbers f)
outcome (check_refused f function) = codes "refused" ++ spaced (check_numbers f function)
outcome malformed = codes "malformed"
outcome unsupported = codes "unsupported"

-- The text that answers a call of that word in a line; a malformed line has no word, so `?` stands in its place.
abbrev pub line_text : ℕ → List ℕ → Said → List ℕ
line_text line word (done numbers) = answered line word (codes "ok" ++ spaced numbers)
line_text line word (text bytes) = answered line word (codes "ok" ++ sized bytes)
line_text line word (refused f) = answered line word (codes "refused" ++ spaced (fault_numbers f))
line_text line word (check_refused f function) = answered line word (codes "refused" ++ spaced (check_numbers f function))
line_text line word malformed = answered line (codes "?") (codes "malformed")
line_text line word unsupported = answered line word (codes "unsupported")
