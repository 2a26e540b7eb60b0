use Rattle.std.proofs.Common.{arith}
use Rattle.positions.proofs.Meeting.{adding_item, adding_more, adding_all}
use Rattle.positions.proofs.next.add_follows.Goals as goal

pub overflow_add-item : goal.overflow_add-item
overflow_add-item c = let low = adding_item c.loop-item.invariant c.in-Some.ensures.steps in omega arith

pub loop-item-preserved : goal.loop-item-preserved
loop-item-preserved c =
    adding_more c.args.lasts.now.words c.args.next.now.words c.loop-item.next.words c.unite.new.self.words c.args.left c.args.right c.in-Some.item
    c.requires.right c.loop-item.next.long c.loop-item.invariant c.in-Some.ensures.steps c.unite.ensures

pub returns : goal.returns
returns c = adding_all c.args.lasts.now.words c.args.next.now.words c.loop-item.next.words c.args.left c.args.right c.loop-item.invariant c.in-None.ensures.steps.0
