use Rattle.std.proofs.Common.{ap, ◌∙◌, rules}
use Rattle.std.specs.Option.{option_map}
use Rattle.fields.specs.Lists.{texts}
use Rattle.script.specs.Calls.{on_types}
use Rattle.script.proofs.Lookups.{other_call_of-types}
use Rattle.script.proofs.session_forms.read_session_form.Goals as goal

pub returns-in_err-read_type_form-in_default : goal.returns-in_err-read_type_form-in_default
returns-in_err-read_type_form-in_default c =
    let n = c.in_default in
    let named = other_call_of-types c.args.name.now (texts c.args.words.now) (n.not-text, (n.not-type, (n.not-function, (n.not-arm, (n.not-expression, (n.not-body, (n.not-query, (n.not-check, (n.not-tags, (n.not-clear, tt)))))))))) in
    rw named (search rules)

pub returns-in_default : goal.returns-in_default
returns-in_default c =
    let n = c.in_default in
    other_call_of-types c.args.name.now (texts c.args.words.now) (n.not-text, (n.not-type, (n.not-function, (n.not-arm, (n.not-expression, (n.not-body, (n.not-query, (n.not-check, (n.not-tags, (n.not-clear, tt))))))))))
    ∙ ap (option_map on_types) c.in_ok-read_type_form-in_default.ensures
