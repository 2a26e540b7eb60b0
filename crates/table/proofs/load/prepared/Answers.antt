use Rattle.table.proofs.Fill.{prepared}
use Rattle.table.proofs.load.prepared.Goals as goal

pub returns : goal.returns
returns c = prepared c.args.rows c.args.children.now c.args.text.now c.in_ok-own.own c.fill.new.self c.fill.result c.requires.few_rows c.requires.few_children c.requires.few_bytes c.in_ok-own.ensures c.fill.ensures
