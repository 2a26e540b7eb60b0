use Rattle.std.proofs.Common.{◌≡◌, ℕ, Some, None, Option, sym, ap, ◌∙◌}
use Rattle.types.specs.Parts.{row, content}
use Rattle.types.proofs.OfTable.{table-lawful, content-small}
use Rattle.positions.specs.declared.tables.Positions.{Positions}
use Rattle.positions.specs.Built.{types_of}
use Rattle.subtyping.specs.Comparison.{Small}
use Rattle.subtyping.proofs.search.Search.content_of.Goals as goal

small : (p : Positions) (n : ℕ) (r : Option ℕ) → r ≡ content (row (types_of p) n) → Small r
small p n None e = tt
small p n (Some c) e = content-small n c (table-lawful p.types) (sym e)

pub returns-clause-small : goal.returns-clause-small
returns-clause-small c = small c.args.self.now.positions.now c.args.row c.content.result (c.content.ensures ∙ ap content c.row.ensures)
