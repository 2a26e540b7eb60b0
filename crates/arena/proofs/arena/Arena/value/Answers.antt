use Rattle.std.proofs.Common.{pos, rules}
use Rattle.forest.specs.Stores.{item_value}
use Rattle.arena.specs.Rows.{row_value}
use Rattle.arena.proofs.Reading.{reads_or, value_alone}
use Rattle.arena.proofs.arena.Arena.value.Goals as goal

pub returns : goal.returns
returns c = λ ts e le. let is = reads_or item_value row_value value_alone (pos 0) _ _ _ c.map_or.result c.row.ensures c.map_or.ensures ts e le in search rules
