use Rattle.std.proofs.Common.{rules}
use Rattle.fields.specs.Lists.{texts}
use Rattle.script.proofs.Lookups.{call_of-other}
use Rattle.script.proofs.forms.read_form.Goals as goal

pub returns-in_default : goal.returns-in_default
returns-in_default c =
    let n = c.in_default in
    let other = call_of-other c.args.name.now (texts c.args.words.now) (n.not-capture, (n.not-table, (n.not-tray, (n.not-space, (n.not-integer, (n.not-boolean, (n.not-string, (n.not-element, (n.not-print, tt))))))))) in
    rw other (search rules)
