use Rattle.session.proofs.Making.{grows_on}
use Rattle.session.proofs.Joining.{all_chosen, choice_more, split, emptied}
use Rattle.session.proofs.checking.joining.+choose.Goals as goal

pub returns-in-empty-clause-chosen : goal.returns-in-empty-clause-chosen
returns-in-empty-clause-chosen t c = all_chosen (emptied c.args.rest.now c.in-empty.len_below)

pub returns-in_ok-choice-in-len1-up-clause-chosen : goal.returns-in_ok-choice-in-len1-up-clause-chosen
returns-in_ok-choice-in-len1-up-clause-chosen t c = choice_more (split c.args.rest.now c.in-len1-up.len_at_least) c.in_ok-choice-in-len1-up.ensures.makes c.choose.ensures.chosen

pub returns-in_ok-choice-in-len1-up-clause-grows : goal.returns-in_ok-choice-in-len1-up-clause-grows
returns-in_ok-choice-in-len1-up-clause-grows t c = grows_on c.push_row.ensures.grows c.choose.ensures.grows
