use Rattle.std.proofs.Common.{◌∙◌, rules, eq-eqb}
use Rattle.store_laws.proofs.Back.{kind-back, tag_back, count_back}
use Rattle.store_laws.proofs.make_and_compare.Goals as goal
use Rattle.store_laws.proofs.make_and_compare.Goals.{then-eq, else-eq}

pub returns-then-from-tag : goal.returns-then-from-tag
returns-then-from-tag g c =
    let made = c.in_ok-handle.ensures in (
      eq-eqb _ _ (c.child_count.ensures ∙ count_back g.S.Store.LAYER (g.S.Store.means c.args.store.now) (g.S.Store.means c.make_element.new.self) c.args.tag c.args.children.now c.in_ok-handle.handle made),
      (c.in_ok-handle.handle, made),
    )

pub returns-else-from-tag : goal.returns-else-from-tag
returns-else-from-tag g c =
    let kind = c.kind.ensures ∙ kind-back g.S.Store.LAYER (g.S.Store.means c.args.store.now) (g.S.Store.means c.make_element.new.self) c.args.tag c.args.children.now c.in_ok-handle.handle c.in_ok-handle.ensures in
    elim c.if-eq.branch [
      | then-eq w ↦
          let tag = w.tag.ensures ∙ tag_back g.S.Store.LAYER (g.S.Store.means c.args.store.now) (g.S.Store.means c.make_element.new.self) c.args.tag c.args.children.now c.in_ok-handle.handle c.in_ok-handle.ensures in
          (w.value-is ∙ eq-eqb _ _ (w.from.ensures ∙ tag), (c.in_ok-handle.handle, c.in_ok-handle.ensures))
      | else-eq w ↦ let same = rw kind at c.eq.ensures in search rules
    ]
