use Rattle.std.proofs.Common.{◌≡◌, ◌++◌, drop, vec_items}
use Rattle.answers.specs.Answers.{spaced}
use Rattle.answers.proofs.writer.push_numbers.Given as goal

abbrev pub invariant-loop-number : goal.invariant-loop-number
invariant-loop-number l = vec_items l.text ++ spaced (drop l.number-index l.numbers) ≡ vec_items l.initial.text ++ spaced l.numbers
