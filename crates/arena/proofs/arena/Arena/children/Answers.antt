use Rattle.std.proofs.Common.{◌≡◌, length, vec_items, sym, refl, ap, ◌∙◌}
use Rattle.forest.specs.Stores.{picked, all_below}
use Rattle.arena.specs.Rows.{part}
use Rattle.arena.specs.Arenas.{trees_over}
use Rattle.arena.proofs.Reading.{names}
use Rattle.arena.proofs.arena.Arena.children.Goals as goal

pub returns-in-Some-clause-named : goal.returns-in-Some-clause-named
returns-in-Some-clause-named c =
    let a = c.args.self.now in
    let is : c.part.result.now ≡ part c.in-Some.span (vec_items a.children) = c.part.ensures ∙ ap (part c.in-Some.span) c.deref.ensures.value in
    λ ts e le.
    let us = trees_over ts a in
    let named = (names a c.args.handle c.row.result c.and_then.result _ c.row.ensures c.and_then.ensures c.in-Some.is).1 ts e le in
    (named.0 ∙ ap (picked us) (sym is), ap (all_below (length us)) is ∙ named.1)

pub returns-in-None-clause-named : goal.returns-in-None-clause-named
returns-in-None-clause-named c = λ ts e le. (names c.args.self.now c.args.handle c.row.result c.and_then.result _ c.row.ensures c.and_then.ensures c.in-None.is ts e le, refl)
