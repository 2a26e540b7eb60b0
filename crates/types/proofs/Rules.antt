-- Rows that pass the tests keep the rules.
use Rattle.std.proofs.Common.{◌≡◌, ◌≤◌, true, List, [], length}
use Rattle.rows.specs.declared.type_row.TypeRow.{TypeRow}
use Rattle.rows.specs.TypeTables.{types_lawful}
use Rattle.rows.proofs.TypeTables.{keeps}
use Rattle.types.specs.Parts.{Lawful}

pub lawful : (ts : List TypeRow) → length ts ≤ 512 → types_lawful [] ts ≡ true → Lawful ts
lawful ts few law =
    let k = keeps ts law in
    record { few = few; lower = k.lower; one_owner = k.one_owner; once = k.once; fit = k.fit }
