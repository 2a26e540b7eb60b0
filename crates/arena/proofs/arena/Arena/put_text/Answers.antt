use Rattle.std.proofs.Common.{◌≡◌, true, [], vec_items, sym, refl, ap, ◌∙◌, rules}
use Rattle.std.proofs.lemmas.List.{append-nil}
use Rattle.forest.specs.Forests.{bytes_lawful}
use Rattle.forest.proofs.Legal.{bytes_append, bytes_fit}
use Rattle.arena.proofs.Trees.{stays_sound, extended}
use Rattle.arena.proofs.arena.Arena.put_text.Goals as goal

pub invariant_of-self-clause-good : goal.invariant_of-self-clause-good
invariant_of-self-clause-good c =
    let a = c.args.self.now in
    stays_sound a (vec_items a.children) _ [] c.args.text.now (sym (append-nil (vec_items a.children))) c.put-span.ensures.items

pub invariant_of-self-clause-bytes : goal.invariant_of-self-clause-bytes
invariant_of-self-clause-bytes c =
    let a = c.args.self.now in
    let legal : bytes_lawful c.args.text.now ≡ true = search (rules, bytes_fit) in
    ap bytes_lawful c.put-span.ensures.items ∙ bytes_append (vec_items a.text) c.args.text.now a.bytes legal

pub returns-clause-extended : goal.returns-clause-extended
returns-clause-extended c =
    let a = c.args.self.now in
    extended a _ [] c.args.text.now refl refl (sym (append-nil (vec_items a.children))) c.put-span.ensures.items (search rules)
