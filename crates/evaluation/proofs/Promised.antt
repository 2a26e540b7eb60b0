-- An accepted check keeps its promises.
use Rattle.std.proofs.Common.{◌≡◌, true, List, Ok, Err}
use Rattle.forest.specs.Forests.{bytes_lawful}
use Rattle.rows.specs.declared.type_row.TypeRow.{TypeRow}
use Rattle.rows.specs.Programs.{ProgramRows}
use Rattle.types.specs.Parts.{Lawful}
use Rattle.typing.specs.declared.answer.QueryType.{QueryType}
use Rattle.typing.specs.declared.fault.TypeFault.{TypeFault}
use Rattle.typing.specs.Programs.{Orderly}
use Rattle.typing.specs.Checking.{Checks}
use Rattle.typing.proofs.Accepted.{accepted}
use Rattle.typing.proofs.GrowthAccepted.{accepted_keeps, ready_checked}
use Rattle.typing.proofs.GrowthMeaning.{grown_forests, grown_subtypes}
use Rattle.typing.proofs.OneAnswer.{checked_once}
use Rattle.evaluation.specs.Promises.{Promises, NotAccepted}
use Rattle.evaluation.proofs.Sound.{accepted_runs_keep_type}

pub promised : {ts us : List TypeRow} {g : ProgramRows} {a : QueryType} → Orderly g → Lawful ts → bytes_lawful g.text ≡ true → Checks ts g (Ok a) us → Promises ts g a us
promised {ts} {us} {g} {a} orderly law text checks =
    let by = (accepted orderly law).0 checks in
    let keeps = accepted_keeps orderly law by in
    let start = ready_checked law by.ready in
    let grows = keeps.kept.grows in
    let now = keeps.kept.checked in
    record {
      by_rules = by;
      made = grows.more;
      behind = grows.table;
      lawful = now.lawful;
      contents = λ n l c e. now.contents n c e;
      root = keeps.fresh.free.root;
      same_forests = grown_forests start grows;
      same_fits = grown_subtypes start grows;
      runs = λ q is l f s b small. accepted_runs_keep_type ts us g a q law orderly text by is l f s b small;
    }

-- what is refused, the rules do not accept
pub refused_by_rules : {ts us : List TypeRow} {g : ProgramRows} {f : TypeFault} → Orderly g → Lawful ts → Checks ts g (Err f) us → NotAccepted ts g
refused_by_rules {ts} {us} {g} {f} orderly law refused a vs by =
    let one = checked_once ts vs us g (Ok a) (Err f) ((accepted orderly law).1 by) refused in
    let no : Ok a ≡ Err f = one.0 in
    cc
