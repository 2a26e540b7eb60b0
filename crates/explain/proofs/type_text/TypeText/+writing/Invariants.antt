use Rattle.std.proofs.Common.{◌+◌, ◌*◌}
use Rattle.explain.proofs.type_text.TypeText.+writing.Given as goal

abbrev pub decreases-write_row : goal.decreases-write_row
decreases-write_row l = 2 * l.depth + 1

abbrev pub decreases-write_content : goal.decreases-write_content
decreases-write_content l = 2 * l.depth

abbrev pub decreases-write_two : goal.decreases-write_two
decreases-write_two l = 2 * l.depth
