use Rattle.std.proofs.Common.{◌+◌, ◌*◌, length}
use Rattle.session.proofs.checking.expressions.+typing.Given as goal

abbrev pub decreases-type_expression : goal.decreases-type_expression
decreases-type_expression l = l.at * 2048 + 600

abbrev pub decreases-type_under : goal.decreases-type_under
decreases-type_under l = l.body * 2048 + 601

abbrev pub decreases-walk : goal.decreases-walk
decreases-walk l = l.body * 2048 + 602 + l.row

abbrev pub decreases-type_branches : goal.decreases-type_branches
decreases-type_branches l = l.at * 2048 + length l.arms.now

abbrev pub decreases-type_element : goal.decreases-type_element
decreases-type_element l = l.at * 2048 + 500

abbrev pub decreases-type_scalar : goal.decreases-type_scalar
decreases-type_scalar l = l.at * 2048 + 500

abbrev pub decreases-type_children : goal.decreases-type_children
decreases-type_children l = l.at * 2048 + 500

abbrev pub decreases-type_call : goal.decreases-type_call
decreases-type_call l = l.at * 2048 + 500

abbrev pub decreases-type_two : goal.decreases-type_two
decreases-type_two l = l.at * 2048 + 500

abbrev pub decreases-type_if : goal.decreases-type_if
decreases-type_if l = l.at * 2048 + 500

abbrev pub decreases-type_let : goal.decreases-type_let
decreases-type_let l = l.at * 2048 + 500

abbrev pub decreases-type_for : goal.decreases-type_for
decreases-type_for l = l.at * 2048 + 500

abbrev pub decreases-type_match : goal.decreases-type_match
decreases-type_match l = l.at * 2048 + 500

abbrev pub decreases-type_fitted : goal.decreases-type_fitted
decreases-type_fitted l = l.at * 2048 + 400
