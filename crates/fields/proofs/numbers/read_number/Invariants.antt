use Rattle.std.proofs.Common.{◌≡◌, ◌≤◌, drop}
use Rattle.fields.specs.Numbers.{digits_after, at_most}
use Rattle.fields.proofs.Digits.{most}
use Rattle.fields.proofs.numbers.read_number.Given as goal

abbrev pub invariant-loop-byte : goal.invariant-loop-byte
invariant-loop-byte l =
    (at_most most (digits_after l.value (drop l.byte-index l.word)) ≡ at_most most (digits_after 0 l.word)) × (l.value ≤ most)
