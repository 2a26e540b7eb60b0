use Rattle.std.proofs.Common.{◌≡◌, ◌<◌, true, false, length, get_or, arith, rules}
use Rattle.nesting.proofs.Depths.{deepest-more, depth-children}
use Rattle.nesting.proofs.level.Level.next.Goals as goal
use Rattle.nesting.proofs.level.Level.next.Goals.{then-marked, else-marked}

pub loop-handle-preserved : goal.loop-handle-preserved
loop-handle-preserved g c =
    let ts = (g.S.Store.means c.args.self.now.store.now).trees in
    let ms = c.args.self.now.marks.items in
    let h = c.loop-handle.handle in
    let lt : h < length ts = search rules in
    let within : h < length ms = search rules in
    let step = deepest-more ts ms h lt within in
    elim c.if-marked.branch [
      | then-marked w ↦
          let here : get_or ms h false ≡ true = search rules in
          let less = depth-children ts h in
          (search rules, grind (arith, here, less, step, w.mark_children.ensures.deeper, c.loop-handle.invariant.1))
      | else-marked w ↦
          let here : get_or ms h false ≡ false = search rules in
          (search rules, grind (arith, here, step, c.loop-handle.invariant.1))
    ]
