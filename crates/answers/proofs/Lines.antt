-- The text of a line, from its parts.
use Rattle.std.proofs.Common.{◌≡◌, ℕ, List, [], ◌∷◌, ◌++◌, decimal, refl, ◌∙◌}
use Rattle.std.proofs.lemmas.List.{append_assoc}
use Rattle.answers.specs.declared.answer.Answer.{Answer}
use Rattle.answers.specs.declared.answer.Answer.TheVariants.{Done, Number, Measures, Checked, Numbers, Printed, Refused, CheckRefused, Malformed, Unsupported}
use Rattle.answers.specs.Answers.{outcome, line_text, said}

pub parted : (line word text : List ℕ) → ((line ++ (32 ∷ [])) ++ word) ++ (32 ∷ text) ≡ line ++ ((32 ∷ word) ++ (32 ∷ text))
parted line word text = append_assoc (line ++ (32 ∷ [])) word (32 ∷ text) ∙ append_assoc line (32 ∷ []) (word ++ (32 ∷ text))

pub worded : (line : ℕ) (word : List ℕ) (a : Answer) → (a ≡ Malformed → ⊥) → ((decimal line ++ (32 ∷ [])) ++ word) ++ (32 ∷ outcome (said a)) ≡ line_text line word (said a)
worded line word Done h = parted (decimal line) word (outcome (said Done))
worded line word (Number n) h = parted (decimal line) word (outcome (said (Number n)))
worded line word (Measures n s) h = parted (decimal line) word (outcome (said (Measures n s)))
worded line word (Checked row made) h = parted (decimal line) word (outcome (said (Checked row made)))
worded line word (Numbers ns) h = parted (decimal line) word (outcome (said (Numbers ns)))
worded line word (Printed bs) h = parted (decimal line) word (outcome (said (Printed bs)))
worded line word (Refused f) h = parted (decimal line) word (outcome (said (Refused f)))
worded line word (CheckRefused f function) h = parted (decimal line) word (outcome (said (CheckRefused f function)))
worded line word Malformed h = absurd (h refl)
worded line word Unsupported h = parted (decimal line) word (outcome (said Unsupported))
