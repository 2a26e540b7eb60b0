use Rattle.types.proofs.OfTable.{table-lawful}
use Rattle.types.proofs.type_rows.TypeRows.as_slice.Goals as goal

pub returns-clause-lawful : goal.returns-clause-lawful
returns-clause-lawful c = table-lawful c.args.self.now
