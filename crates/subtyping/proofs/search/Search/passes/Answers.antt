use Rattle.subtyping.proofs.Following.{search_start, search_on, search_fails, search_ends}
use Rattle.subtyping.proofs.search.Search.passes.Goals as goal

pub loop-pair-init : goal.loop-pair-init
loop-pair-init c = search_start c.new-pairs.ensures c.push.ensures

pub returns-then-not-look : goal.returns-then-not-look
returns-then-not-look c = search_fails c.in-Some.pair c.loop-pair.invariant c.in-Some.ensures c.if-not-look.ensures

pub loop-pair-preserved : goal.loop-pair-preserved
loop-pair-preserved c = search_on c.in-Some.pair c.loop-pair.invariant c.in-Some.ensures c.if-not-look.ensures

pub returns : goal.returns
returns c = search_ends c.loop-pair.invariant c.in_default.ensures
