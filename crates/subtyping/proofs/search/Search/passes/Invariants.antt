use Rattle.subtyping.specs.Worklist.{load}
use Rattle.subtyping.proofs.Following.{Searching}
use Rattle.subtyping.proofs.search.Search.passes.Given as goal

abbrev pub invariant-loop-pair : goal.invariant-loop-pair
invariant-loop-pair l = Searching l.self.positions.now l.self.local l.self.row l.root l.pairs

abbrev pub decreases-loop-pair : goal.decreases-loop-pair
decreases-loop-pair l = load l.pairs
