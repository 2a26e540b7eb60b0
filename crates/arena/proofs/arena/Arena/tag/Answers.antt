use Rattle.forest.specs.Stores.{item_tag}
use Rattle.arena.specs.Rows.{row_tag}
use Rattle.arena.proofs.Reading.{reads_or, tag-alone}
use Rattle.arena.proofs.arena.Arena.tag.Goals as goal

pub returns : goal.returns
returns c = reads_or item_tag row_tag tag-alone 0 _ _ _ _ c.row.ensures c.map_or.ensures
