use Rattle.std.proofs.Common.{◌≡◌, true, false, ltb, length, rules}
use Rattle.std.proofs.lemmas.Bool.{both_ways}
use borrow.Author.Tests.{ltb-true, ltb-false}
use Rattle.forest.specs.Forests.{depth, forest}
use Rattle.forest.specs.Stores.{all_below, picked}
use Rattle.types.proofs.Exact.{shown}
use Rattle.validation.specs.Validating.{no_handle, too_deep, outside}
use Rattle.validation.proofs.validating.judge.Goals as goal

pub returns-then-not-handles_in_range : goal.returns-then-not-handles_in_range
returns-then-not-handles_in_range g c =
    let trees = (g.S.Store.means c.args.store.now).trees in
    let missing : all_below (length trees) c.args.handles.now ≡ false = search rules in
    rw c.refusal.ensures (no_handle missing)

pub returns-then-branch : goal.returns-then-branch
returns-then-branch g c =
    let trees = (g.S.Store.means c.args.store.now).trees in
    let hs = c.args.handles.now in
    let there : all_below (length trees) hs ≡ true = search rules in
    let deep : ltb 64 (depth (forest (picked trees hs))) ≡ true = search rules in
    rw c.refusal-then-branch.ensures (too_deep there (ltb-true 64 _ deep))

pub returns : goal.returns
returns g c =
    let trees = (g.S.Store.means c.args.store.now).trees in
    let hs = c.args.handles.now in
    let there : all_below (length trees) hs ≡ true = search rules in
    let flat : ltb 64 (depth (forest (picked trees hs))) ≡ false = search rules in
    rw c.refusal-else-forest_belongs.ensures (outside there (ltb-false 64 _ flat) (λ b. both_ways _ c.if-forest_belongs.false (shown c.forest_belongs.ensures b)))
