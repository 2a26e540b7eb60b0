use Rattle.std.proofs.Common.{◌<◌, ◌≤◌, length, get_or, sym, arith, rules}
use Rattle.forest.specs.Stores.{nothing, picked}
use Rattle.forest.proofs.Legal.{legal-at}
use Rattle.forest.proofs.Picked.{length-picked, get_or-picked}
use Rattle.types.proofs.Exact.{exactly_same}
use Rattle.validation.specs.Walking.{tree_at}
use Rattle.validation.proofs.Going.{walk_start, walk_next, walk_on, walk_stuck, walk_over}
use Rattle.validation.proofs.reading.Walk.forest_belongs.Goals as goal

pub loop-handle-init : goal.loop-handle-init
loop-handle-init g c = record { walking = walk_start c.args.self.now.positions.now c.args.root _; known = c.requires.known }

pub returns-in_default : goal.returns-in_default
returns-in_default g c =
    let trees = (g.S.Store.means c.args.self.now.store.now).trees in
    let hs = c.args.handles.now in
    let i = c.loop-handle.handle-index in
    let lt : i < length hs = search rules in
    let within : i < length (picked trees hs) = omega (arith, length-picked trees hs) in
    let here = walk_next (picked trees hs) i (tree_at trees (get_or hs i 0)) within (sym (get_or-picked trees hs i nothing lt)) c.loop-handle.invariant.walking in
    (λ z. absurd z, walk_stuck c.args.self.now.positions.now c.requires.one_way c.args.root c.requires.root _ _ here c.in_default.ensures.step)

pub loop-handle-preserved : goal.loop-handle-preserved
loop-handle-preserved g c =
    let trees = (g.S.Store.means c.args.self.now.store.now).trees in
    let hs = c.args.handles.now in
    let i = c.loop-handle.handle-index in
    let lt : i < length hs = search rules in
    let within : i < length (picked trees hs) = omega (arith, length-picked trees hs) in
    let here = walk_next (picked trees hs) i (tree_at trees (get_or hs i 0)) within (sym (get_or-picked trees hs i nothing lt)) c.loop-handle.invariant.walking in
    record { walking = walk_on c.args.self.now.positions.now c.requires.one_way c.args.root c.requires.root _ _ (legal-at trees (get_or hs i 0) c.args.self.now.legal) here c.in-Some.ensures.step; known = c.in-Some.ensures.known }

pub returns : goal.returns
returns g c =
    let trees = (g.S.Store.means c.args.self.now.store.now).trees in
    let is = picked trees c.args.handles.now in
    let past : length is ≤ c.loop-handle.handle-index = omega (arith, length-picked trees c.args.handles.now) in
    exactly_same c.may_end.ensures (walk_over c.args.self.now.positions.now c.requires.one_way c.args.root c.requires.root is c.loop-handle.handle-index past c.loop-handle.invariant.walking)
