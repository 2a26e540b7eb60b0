use Rattle.std.proofs.Common.{◌<◌, ◌≤◌, length, sym, subst, arith, rules}
use Rattle.forest.specs.Stores.{children_at, nothing}
use Rattle.forest.proofs.Legal.{legal-at}
use Rattle.types.proofs.Exact.{exactly_same, known}
use Rattle.positions.specs.Built.{types_of}
use Rattle.validation.specs.Walking.{Stepped, tree_at}
use Rattle.validation.proofs.Descent.{child_lower}
use Rattle.validation.proofs.Going.{walk_start, walk_next, walk_on, walk_stuck, walk_over, root_small}
use Rattle.validation.proofs.Knowing.{known_more}
use Rattle.validation.proofs.Taking.{none_suits, takes_scalar, takes_element, refuses_element}
use Rattle.validation.proofs.reading.Walk.+belonging.Goals as goal
use Rattle.validation.proofs.reading.Walk.+belonging.Goals.{step-in_default-via-in-Some+else-not-children_belong, step-in_default-via-in_default}

pub children_belong-loop-index-init : goal.children_belong-loop-index-init
children_belong-loop-index-init g t c = record { walking = walk_start c.args.self.now.positions.now c.args.root _; known = c.requires.known }

pub children_belong-step-requires : goal.children_belong-step-requires
children_belong-step-requires g t c κs within =
    let trees = (g.S.Store.means c.args.self.now.store.now).trees in
    let lt : c.loop-index.index < length (children_at trees c.args.handle) = search rules in
    let lower = child_lower trees c.args.handle c.loop-index.index c.child-child.result c.child-child.ensures lt in
    (omega (arith, c.decreases, lower), (within, (c.requires.one_way, (c.child-child.ensures.there lt, c.loop-index.invariant.known))))

pub children_belong-returns-in_default-clause-exact : goal.children_belong-returns-in_default-clause-exact
children_belong-returns-in_default-clause-exact g t c =
    let p = c.args.self.now.positions.now in
    let trees = (g.S.Store.means c.args.self.now.store.now).trees in
    let cs = children_at trees c.args.handle in
    let i = c.loop-index.index in
    let x = tree_at trees c.child-child.result in
    let lt : i < length cs = search rules in
    let here = walk_next cs i x lt (c.child-child.ensures.tree nothing lt) c.loop-index.invariant.walking in
    (λ z. absurd z, walk_stuck p c.requires.one_way c.args.root c.requires.root x _ here c.in_default.ensures.step)

pub children_belong-loop-index-preserved : goal.children_belong-loop-index-preserved
children_belong-loop-index-preserved g t c =
    let p = c.args.self.now.positions.now in
    let trees = (g.S.Store.means c.args.self.now.store.now).trees in
    let cs = children_at trees c.args.handle in
    let i = c.loop-index.index in
    let x = tree_at trees c.child-child.result in
    let lt : i < length cs = search rules in
    let here = walk_next cs i x lt (c.child-child.ensures.tree nothing lt) c.loop-index.invariant.walking in
    record { walking = walk_on p c.requires.one_way c.args.root c.requires.root x _ (legal-at trees c.child-child.result c.args.self.now.legal) here c.in-Some.ensures.step; known = c.in-Some.ensures.known }

pub children_belong-returns-then-not-may_end-clause-exact : goal.children_belong-returns-then-not-may_end-clause-exact
children_belong-returns-then-not-may_end-clause-exact g t c =
    let cs = children_at (g.S.Store.means c.args.self.now.store.now).trees c.args.handle in
    let past : length cs ≤ c.loop-index.index = search rules in
    let over = walk_over c.args.self.now.positions.now c.requires.one_way c.args.root c.requires.root cs c.loop-index.index past c.loop-index.invariant.walking in
    exactly_same (c.if-not-may_end.ensures) over

pub children_belong-returns-clause-exact : goal.children_belong-returns-clause-exact
children_belong-returns-clause-exact g t c =
    let cs = children_at (g.S.Store.means c.args.self.now.store.now).trees c.args.handle in
    let past : length cs ≤ c.loop-index.index = search rules in
    let over = walk_over c.args.self.now.positions.now c.requires.one_way c.args.root c.requires.root cs c.loop-index.index past c.loop-index.invariant.walking in
    exactly_same (c.if-not-may_end.ensures) over

pub children_belong-returns-clause-known : goal.children_belong-returns-clause-known
children_belong-returns-clause-known g t c =
    let p = c.args.self.now.positions.now in
    let trees = (g.S.Store.means c.args.self.now.store.now).trees in
    let cs = children_at trees c.args.handle in
    let past : length cs ≤ c.loop-index.index = search rules in
    let over = walk_over p c.requires.one_way c.args.root c.requires.root cs c.loop-index.index past c.loop-index.invariant.walking in
    known_more (types_of p) trees c.loop-index.marks.words.items c.insert.new.self.words.items c.args.handle c.args.root c.insert.ensures.0 c.insert.ensures.1
    (root_small p c.args.root c.requires.root) (known over (sym c.if-not-may_end.ensures)) c.loop-index.invariant.known

pub step-returns-in_err-item-clause-step : goal.step-returns-in_err-item-clause-step
step-returns-in_err-item-clause-step g t c =
    let p = c.args.self.now.positions.now in
    let trees = (g.S.Store.means c.args.self.now.store.now).trees in
    subst (Stepped p c.args.place (tree_at trees c.args.handle)) (sym c.from_residual-in_err-item.ensures)
    (none_suits p c.args.place trees c.args.handle c.in_ok-kind.kind c.tag.result c.in_ok-kind.ensures c.tag.ensures c.in_err-item.ensures)

pub step-returns-in-Some-clause-step : goal.step-returns-in-Some-clause-step
step-returns-in-Some-clause-step g t c =
    refuses_element c.args.self.now.positions.now c.args.place (g.S.Store.means c.args.self.now.store.now).trees c.args.handle c.in_ok-kind.kind c.tag.result c.in_ok-kind.ensures c.tag.ensures
    c.in_ok-item.ensures c.in-Some.ensures c.children_belong.ensures.exact c.if-not-children_belong.true

pub step-returns-in_default-clause-step : goal.step-returns-in_default-clause-step
step-returns-in_default-clause-step g t c =
    let p = c.args.self.now.positions.now in
    let trees = (g.S.Store.means c.args.self.now.store.now).trees in
    elim c.in_default.branch [
      | step-in_default-via-in-Some+else-not-children_belong w ↦
          takes_element p c.args.place trees c.args.handle c.in_ok-kind.kind c.tag.result c.in_ok-kind.ensures c.tag.ensures c.in_ok-item.ensures w.in-Some.ensures w.children_belong.ensures.exact w.if-not-children_belong.false
      | step-in_default-via-in_default w ↦ takes_scalar p c.args.place trees c.args.handle c.in_ok-kind.kind c.tag.result c.in_ok-kind.ensures c.tag.ensures c.in_ok-item.ensures w.in_default.ensures
    ]
