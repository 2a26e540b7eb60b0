use Rattle.std.proofs.Common.{[], vec_items, sym, refl, rules}
use Rattle.std.proofs.lemmas.List.{append-nil}
use Rattle.arena.proofs.Trees.{stays_sound, extended}
use Rattle.arena.proofs.arena.Arena.put_children.Goals as goal

pub invariant_of-self-clause-good : goal.invariant_of-self-clause-good
invariant_of-self-clause-good c =
    let a = c.args.self.now in
    stays_sound a _ (vec_items a.text) c.args.children.now [] c.put-span.ensures.items (sym (append-nil (vec_items a.text)))

pub returns-clause-extended : goal.returns-clause-extended
returns-clause-extended c =
    let a = c.args.self.now in
    extended a _ c.args.children.now [] refl refl c.put-span.ensures.items (sym (append-nil (vec_items a.text))) (search rules)
