use Rattle.std.proofs.Common.{subst, sym}
use Rattle.typing.specs.declared.fault.TypeFault.{TypeFault}
use Rattle.typing.specs.Outcomes.{stops, Gives}
use Rattle.typing.specs.Typing.{made}
use Rattle.session.specs.Progress.{spot_of, progress_of}
use Rattle.session.proofs.Making.{full, pushed}
use Rattle.session.proofs.checking.making.push_row.Goals as goal

pub returns-then-place-ge-TYPE_ROWS-clause-makes : goal.returns-then-place-ge-TYPE_ROWS-clause-makes
returns-then-place-ge-TYPE_ROWS-clause-makes c = record {
  gives = λ error.
      let a = c.args in
      subst (λ (f : TypeFault). Gives (made (spot_of a.spot) a.row (progress_of a.types.now a.counts.now error)) (stops f)) (sym c.fault.ensures) (full a.types.now a.counts.now (spot_of a.spot) a.row error c.requires c.if-place-ge-TYPE_ROWS.true);
}

pub returns-clause-makes : goal.returns-clause-makes
returns-clause-makes c = record {
  gives = λ error.
      let a = c.args in
      pushed a.types.now a.counts.now (spot_of a.spot) a.row error c.requires c.if-place-ge-TYPE_ROWS.false;
}
