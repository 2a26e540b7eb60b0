use Rattle.std.proofs.Common.{◌<◌, [], length, ap, ◌∙◌, arith}
use Rattle.std.proofs.lemmas.List.{take_more_set, length-take-le}
use Rattle.rows.specs.TypeTables.{types_lawful}
use Rattle.session.specs.Tables.{declared_of}
use Rattle.session.proofs.Laws.{types-push, right}
use Rattle.session.proofs.type_table.TypeTable.push.Goals as goal

pub invariant_of-self-2-clause-lawful : goal.invariant_of-self-2-clause-lawful
invariant_of-self-2-clause-lawful c =
    let t = c.args.self.now in
    let n = t.counts.declared in
    let lt : n < length t.rows = omega arith in
    let good = right (declared_of t) n c.args.row (length-take-le n t.rows (omega arith)) c.requires.fits c.requires.once c.requires.free in
    ap (types_lawful []) (take_more_set t.rows n c.args.row lt) ∙ types-push [] (declared_of t) c.args.row t.lawful good
