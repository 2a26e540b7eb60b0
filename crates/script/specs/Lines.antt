-- What a line of a script says.
use Rattle.std.specs.Prelude.{◌≡◌, ℕ, cond, List, [], ◌∷◌, Some, None, Option, ◌==◌}
use Rattle.std.specs.Option.{option_map}
use Rattle.script.specs.declared.reading.Reading.{Reading}
use Rattle.script.specs.declared.reading.Reading.TheVariants.{Silent, Malformed, Call}
use Rattle.script.specs.Calls.{Asked, asked, word_of}
use Rattle.script.specs.Forms.{call_of}
use Rattle.fields.specs.Lists.{pieces}
use Rattle.fields.specs.Words.{first, given}

pub data Line : Type 0 where
  silent malformed : Line
  call : Asked → Line

abbrev pub meaning_of : Reading → Line
meaning_of Silent = silent
meaning_of Malformed = malformed
meaning_of (Call c) = call (asked c)

abbrev pub call_or_malformed : Option Asked → Line
call_or_malformed None = malformed
call_or_malformed (Some a) = call a

-- the word of a call and what the call takes, parted by single spaces
abbrev pub call_in : List ℕ → Option Asked
call_in line = given (first (pieces 32 line)) (λ w. call_of w.0 w.1)

-- An empty line and a line that begins with `#` ask for nothing. Any other is a call, or it is malformed.
abbrev pub read_line : List ℕ → Line
read_line [] = silent
read_line (b ∷ bs) = cond (b == 35) silent (call_or_malformed (call_in (b ∷ bs)))

-- A call has the word with which its line begins.
abbrev pub Named : List ℕ → Line → Type 0
Named line silent = Unit {0}
Named line malformed = Unit {0}
Named line (call a) = option_map (λ w. w.0) (first (pieces 32 line)) ≡ Some (word_of a)
