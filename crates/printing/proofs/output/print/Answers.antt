use Rattle.std.proofs.Common.{◌≡◌, ◌≤◌, true, false, ltb, map, length, Err, refl, rules}
use Rattle.printing.specs.Items.{printed_at}
use Rattle.printing.specs.Printed.{joined}
use Rattle.printing.specs.Writing.{Adds, failure_of}
use Rattle.forest.specs.Forests.{depth, forest}
use Rattle.forest.specs.Stores.{all_below, picked}
use Rattle.printing.proofs.Placing.{prints_fits, prints_short}
use Rattle.printing.proofs.output.print.Goals as goal

pub returns-in_err-write_forest : goal.returns-in_err-write_forest
returns-in_err-write_forest g c =
    let ts = (g.S.Store.means c.args.store.now).trees in
    let hs = c.args.handles.now in
    let buffer = c.args.buffer.now in
    let there : true ≡ all_below (length ts) hs = search rules in
    let flat : false ≡ ltb 64 (depth (forest (picked ts hs))) = search rules in
    let e = c.in_err-write_forest.field-0.0 in
    let failed : c.from_residual-in_err-write_forest.result ≡ Err (failure_of e) = search rules in
    let refused : Adds c.write_forest.result c.new-printer.result.text c.write_forest.new.self.text (joined (map (printed_at ts) hs)) = search rules in
    prints_short ts hs buffer there flat c.write_forest.result _ e c.new-printer.result.text c.write_forest.new.self.text c.in_err-write_forest.was failed (search rules) (search rules) refused

pub returns : goal.returns
returns g c =
    let ts = (g.S.Store.means c.args.store.now).trees in
    let hs = c.args.handles.now in
    let buffer = c.args.buffer.now in
    let text = c.text-text.result.now in
    let there : true ≡ all_below (length ts) hs = search rules in
    let flat : false ≡ ltb 64 (depth (forest (picked ts hs))) = search rules in
    let short : length text ≤ length buffer = search rules in
    let written : text ≡ joined (map (printed_at ts) hs) = search rules in
    prints_fits ts hs buffer there flat text c.copy_from_slice.new.self (length text) written short c.copy_from_slice.ensures.after refl
