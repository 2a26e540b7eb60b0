use Rattle.std.proofs.Common.{length, sym, subst}
use Rattle.types.specs.declared.type_rows.TypeRows.{TypeRows}
use Rattle.types.specs.Places.{Checked}
use Rattle.types.specs.Tables.{rows_of}
use Rattle.types.proofs.Asked.{refused_for}
use Rattle.types.proofs.Exact.{known, shown}
use Rattle.types.proofs.OfTable.{asked_checked}
use Rattle.validation.specs.Validating.{by_types}
use Rattle.validation.proofs.validating.validate.Goals as goal

pub judge-requires-clause-one_way : goal.judge-requires-clause-one_way
judge-requires-clause-one_way g c =
    record {
      built = c.in-Ok.ensures.built;
      checked = subst (λ (t : TypeRows). Checked (rows_of t) (length (rows_of t))) (sym c.in-Ok.ensures.types) (asked_checked c.args.types c.in-Ok.ensures.askable);
    }

pub returns-in-Err : goal.returns-in-Err
returns-in-Err g c = by_types (refused_for (known c.is_root.ensures) (shown c.is_root.ensures) c.in-Err.ensures)
