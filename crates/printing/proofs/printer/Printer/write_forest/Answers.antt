use Rattle.std.proofs.Common.{◌≡◌, ◌<◌, Err, length, sym, ◌∙◌, arith, rules}
use Rattle.printing.specs.Items.{printed_at}
use Rattle.printing.proofs.Adding.{refused_part}
use Rattle.printing.proofs.Lists.{left_more}
use Rattle.printing.proofs.printer.Printer.write_forest.Goals as goal

pub returns-in_err-push_separator : goal.returns-in_err-push_separator
returns-in_err-push_separator g c =
    let texts = printed_at (g.S.Store.means c.args.self.now.store.now).trees in
    let hs = c.args.handles.now in
    let i = c.loop-place.place in
    let e = c.in_err-push_separator.field-0.0 in
    let failed : c.from_residual.result ≡ Err e = search rules in
    let lt : i < length hs = omega arith in
    let more = left_more texts 0 c.loop-place.self.text.bytes.items hs i lt in
    refused_part c.push_separator.result _ e _ _ _ _ _ _ _ c.in_err-push_separator.was failed (sym more ∙ c.loop-place.invariant.2) c.loop-place.invariant.1 c.push_separator.ensures
