-- How a line of a script is answered.
use Rattle.std.specs.Prelude.{◌≡◌, ℕ, List, [], Some, None, Option}
use Rattle.answers.specs.Answers.{Said, malformed, line_text}
use Rattle.script.specs.Calls.{Asked, on_store, on_session, on_types, word_of}
use Rattle.script.specs.Lines.{Line, silent, malformed as no_call, call}
use Rattle.session.specs.Calls.{Tables}
use Rattle.probe.specs.Probes.{State, Obeys}
use Rattle.console.specs.OnSession.{Answered}
use Rattle.console.specs.OnTypes.{Told}

-- What a console holds: the session's rows and the store.
pub record Desk : Type 0 where
  pub rows : Tables
  pub store : State

-- A call on the store leaves the session as it is, and one on the session the store; one on types changes nothing.
abbrev pub Does : Asked → Desk → Said → Desk → Type 0
Does (on_store a) before s after = Obeys a before.store s after.store × (after.rows ≡ before.rows)
Does (on_session a) before s after = Answered a before.rows s after.rows × (after.store ≡ before.store)
Does (on_types a) before s after = Told a before.rows.types before.store.meaning.trees s × (after ≡ before)

-- A silent line gets no answer, a malformed one is answered so, and both change nothing; a call is obeyed, and its answer written.
abbrev pub Replies : ℕ → Line → Desk → Option (List ℕ) → Desk → Type 0
Replies n silent before o after = (o ≡ None) × (after ≡ before)
Replies n no_call before o after = (o ≡ Some (line_text n [] malformed)) × (after ≡ before)
Replies n (call a) before o after = (s : Said) × (o ≡ Some (line_text n (word_of a) s)) × Does a before s after
