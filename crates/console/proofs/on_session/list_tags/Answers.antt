use Rattle.std.proofs.Common.{take, vec_items, ap, ◌∙◌, rules}
use Rattle.std.proofs.lemmas.List.{with_items_is}
use Rattle.std.proofs.lemmas.List.Sorted.{IsNonDecreasingBy-from_sort}
use Rattle.session.specs.Calls.{tables}
use Rattle.console.proofs.Tags.{told}
use Rattle.console.proofs.on_session.list_tags.Goals as goal

pub returns : goal.returns
returns c =
    let n = c.in_ok-count.count in
    let list = c.tags.new.list in
    let sorted = vec_items c.sort_unstable.new.self in
    told (tables c.args.session.now).program c.args.places n c.deref_mut.result.now list (vec_items c.truncate.new.self) sorted (vec_items c.insert.new.self) (search rules) (search rules) (c.truncate.ensures.items ∙ ap (take n) (with_items_is c.in_ok-tags.tags list (search rules))) c.sort_unstable.ensures.permutation (IsNonDecreasingBy-from_sort (λ x. x) sorted c.sort_unstable.ensures.sorted) c.in_ok-insert.ensures.items
