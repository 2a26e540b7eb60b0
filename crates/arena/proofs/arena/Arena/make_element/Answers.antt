use Rattle.std.proofs.Common.{sym, ap, ◌∙◌, rules}
use Rattle.forest.specs.Stores.{all_below}
use Rattle.arena.proofs.Trees.{element-made}
use Rattle.arena.proofs.arena.Arena.make_element.Goals as goal

pub returns : goal.returns
returns c =
    let a = c.args.self.now in
    let hs = c.args.children.now in
    let put = c.put_children-span.ensures in (
      c.add.ensures.base ∙ put.extended.base,
      λ ts e.
          element-made c.args.layer c.args.tag a c.put_children-span.new.self c.add.new.self hs c.put_children-span.result c.add.result put.extended put.span c.add.ensures (search rules) (search rules) (search rules) ts e (ap (λ n. all_below n hs) (sym (c.count.ensures.value ts e)) ∙ sym c.if-not-handles_in_range.ensures),
    )
