use Rattle.std.proofs.Common.{[]}
use Rattle.fields.specs.Lists.{texts}
use Rattle.script.specs.Forms.{types_forms}
use Rattle.script.proofs.Lookups.{look_up-past}
use Rattle.script.proofs.type_forms.read_type_form.Goals as goal

pub returns-in_default : goal.returns-in_default
returns-in_default c =
    let n = c.in_default in
    look_up-past types_forms [] c.args.name.now (texts c.args.words.now) (n.not-oneway, (n.not-fits, (n.not-validate, tt)))
