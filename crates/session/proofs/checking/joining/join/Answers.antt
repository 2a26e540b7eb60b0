use Rattle.session.proofs.Joining.{none_joined, some_joined, split, emptied}
use Rattle.session.proofs.checking.joining.join.Goals as goal

pub returns-in-empty-clause-joined : goal.returns-in-empty-clause-joined
returns-in-empty-clause-joined c = none_joined (emptied c.args.branches.now c.in-empty.len_below) c.push_row.ensures.makes

pub returns-in-len1-up-clause-joined : goal.returns-in-len1-up-clause-joined
returns-in-len1-up-clause-joined c = some_joined (split c.args.branches.now c.in-len1-up.len_at_least) c.choose.ensures.chosen
