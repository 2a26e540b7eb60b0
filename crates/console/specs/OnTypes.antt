-- How a call on types is answered.
use Rattle.std.specs.Prelude.{◌≡◌, Bool, cond, List, [], ◌∷◌, Ok, Err, Result}
use Rattle.forest.specs.declared.failure.Failure.{Failure}
use Rattle.forest.specs.declared.fault.Fault.{Fault}
use Rattle.forest.specs.Forests.{Item}
use Rattle.rows.specs.declared.type_row.TypeRow.{TypeRow}
use Rattle.types.specs.Asking.{TellsOneWay, TellsSubtype}
use Rattle.validation.specs.Validating.{Validated}
use Rattle.script.specs.Calls.{TypesAsked, one_way, fits, validate}
use Rattle.answers.specs.Answers.{Said, done, refused, failed}

-- 1 for yes and 0 for no, or the refusal
abbrev pub yes_or_fault : Result Bool Fault → Said
yes_or_fault (Ok b) = done (cond b 1 0 ∷ [])
yes_or_fault (Err f) = refused f

-- nothing, or the refusal, or that memory is short
abbrev pub done_or_failure : {X : Type 0} → Result X Failure → Said
done_or_failure (Ok x) = done []
done_or_failure (Err f) = failed f

-- What is answered about declared type rows and the trees of a store. Only validating may lack memory.
abbrev pub Told : TypesAsked → List TypeRow → List Item → Said → Type 0
Told (one_way row) ts trees s = (r : Result Bool Fault) × TellsOneWay ts row r × (s ≡ yes_or_fault r)
Told (fits row root) ts trees s = (r : Result Bool Fault) × TellsSubtype ts row root r × (s ≡ yes_or_fault r)
Told (validate root hs) ts trees s = (r : Result (Unit {0}) Failure) × Validated ts root trees hs r × (s ≡ done_or_failure r)
