use Rattle.std.proofs.Common.{◌+◌, length, take}
use Rattle.session.specs.Tags.{marks}
use Rattle.session.specs.Tables.{program_rows}
use Rattle.session.proofs.Firsts.{Written}
use Rattle.session.proofs.program.Program.write_tags.Given as goal

abbrev pub invariant-loop-row : goal.invariant-loop-row
invariant-loop-row l = Written (take l.row-index (marks (program_rows l.self))) l.fn.list l.count l.list

abbrev pub invariant-loop-arm : goal.invariant-loop-arm
invariant-loop-arm l = Written (take (length l.self.expressions.items + l.arm-index) (marks (program_rows l.self))) l.fn.list l.count l.list
