use Rattle.std.proofs.Common.{◌≡◌, ◌++◌, map, drop, string_bytes}
use Rattle.explain.specs.Comments.{comments}
use Rattle.explain.proofs.comments.commented.Given as goal

abbrev pub invariant-loop-line : goal.invariant-loop-line
invariant-loop-line l = string_bytes l.text ++ comments (map string_bytes (drop l.line-index l.lines)) ≡ comments (map string_bytes l.lines)
