use Rattle.std.proofs.Common.{◌≡◌, ◌-◌, slice_get, Option, vec_items, sym, ap, ◌∙◌, subst}
use Rattle.arena.specs.declared.row.Row.{Row}
use Rattle.arena.specs.Arenas.{Found}
use Rattle.arena.proofs.Reading.{copied-is, found}
use Rattle.arena.proofs.arena.Arena.row.Goals as goal

pub returns : goal.returns
returns c =
    let a = c.args.self.now in
    let at = c.in_ok-index.ensures in
    let look = c.get.ensures.lookup in
    let is : c.copied.result ≡ slice_get (vec_items a.rows) (c.args.handle - a.base) = c.copied.ensures ∙ copied-is c.get.result c.deref.result.now c.in_ok-index.index _ look.3 look.1 ∙ ap (λ xs. slice_get xs c.in_ok-index.index) c.deref.ensures.value ∙ ap (slice_get (vec_items a.rows)) at.1 in
    subst (λ (o : Option Row). Found a c.args.handle o) (sym is) (found a c.args.handle at.0)
