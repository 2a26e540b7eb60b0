use Rattle.std.proofs.Common.{◌≡◌, sym, subst, ap₂}
use Rattle.subtyping.specs.Worklist.{pair, number, Put}
use Rattle.subtyping.specs.Comparison.{behind_item}
use Rattle.subtyping.proofs.Following.{leads-both}
use Rattle.subtyping.proofs.search.Search.follow.Goals as goal

pub returns-in-Some-Some : goal.returns-in-Some-Some
returns-in-Some-Some c =
    let e : number c.behind.result ≡ pair (behind_item c.args.pair.left c.args.item) c.args.answer = ap₂ pair c.behind.ensures.left c.behind.ensures.right in
    leads-both c.args.self.now.positions.now c.args.pair.left c.args.item c.args.answer c.in-Some-Some.left c.in-Some-Some.right
    (sym c.in-Some-Some.ensures.value) (sym c.in-Some-Some.ensures'.value) (subst (λ z. Put c.args.pairs.now c.push.new.self (λ x. x ≡ z)) e c.push.ensures) c.push-in-Some-Some.ensures
