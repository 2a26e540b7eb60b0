use Rattle.std.proofs.Common.{◌+◌, vec_items, vec_len, sym, ap, ◌∙◌}
use Rattle.table.specs.Tables.{sound_if}
use Rattle.table.proofs.Fill.{took, converted}
use Rattle.table.proofs.load.add_row.Goals as goal

pub returns-in_err-row : goal.returns-in_err-row
returns-in_err-row c =
    let a = c.args.own.now in
    rw c.from_residual.ensures (sym (ap (sound_if (a.base + vec_len a.rows) (vec_items a.children) (vec_items a.text)) (sym c.in_err-row.was ∙ converted c.args.raw c.try_from.result c.ok.result c.try_from.ensures c.ok.ensures.value)))

pub returns : goal.returns
returns c = took c.args.own.now c.append.new.self c.args.raw c.in_ok-row.row c.append.result (sym c.in_ok-row.was ∙ converted c.args.raw c.try_from.result c.ok.result c.try_from.ensures c.ok.ensures.value) c.requires c.append.ensures
