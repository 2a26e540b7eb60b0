use Rattle.std.proofs.Common.{◌≡◌, [], ◌∷◌, ◌++◌, codes, decimal, ◌∙◌, rules}
use Rattle.answers.specs.Answers.{outcome, said}
use Rattle.answers.proofs.Lines.{parted, worded}
use Rattle.answers.proofs.writer.write_answer.Goals as goal
use Rattle.answers.proofs.writer.write_answer.Goals.{in-Malformed, in_default}

pub returns-in-Ok : goal.returns-in-Ok
returns-in-Ok c = elim c.match-answer.branch [
  | in-Malformed w ↦
      let made : c.push_outcome.new.text.items ≡ ((decimal c.args.line ++ (32 ∷ [])) ++ codes "?") ++ (32 ∷ codes "malformed") = search rules in
      let is = parted (decimal c.args.line) (codes "?") (codes "malformed") in
      search (rules, made ∙ is)
  | in_default w ↦
      let made : c.push_outcome.new.text.items ≡ ((decimal c.args.line ++ (32 ∷ [])) ++ c.args.word.now) ++ (32 ∷ outcome (said c.args.answer.now)) = search rules in
      made ∙ worded c.args.line c.args.word.now c.args.answer.now w.in_default.not-Malformed
]
