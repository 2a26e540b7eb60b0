use Rattle.std.proofs.Common.{ℕ, Bool, ◌&&◌, ltb, get_or, ◌∙◌, rules}
use Rattle.std.proofs.lemmas.Iterator.{YieldsList-from_slice}
use Rattle.std.proofs.lemmas.Iterator.Consumers.{YieldsList-from_enumerate}
use Rattle.std.proofs.lemmas.Iterator.Search.{any_from_yields_List}
use Rattle.forest.specs.Stores.{nothing}
use Rattle.nesting.specs.Levels.{item_depth}
use Rattle.nesting.proofs.Depths.{any-deep}
use Rattle.nesting.proofs.level.Level.has_element.Goals as goal

pub returns : goal.returns
returns g c =
    let ts = (g.S.Store.means c.args.self.now.store.now).trees in
    let ms = c.args.self.now.marks.items in
    let deep = λ (p : ℕ × Bool). p.1 && ltb 0 (item_depth (get_or ts p.0 nothing)) in
    any_from_yields_List deep _ _ _ c.any.ensures.ran (YieldsList-from_enumerate (YieldsList-from_slice ms (search rules)) (search rules)) (λ x b q k. search rules) ∙ any-deep ts ms (search rules)
