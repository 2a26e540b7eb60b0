use Rattle.std.proofs.Common.{ap, ◌∙◌}
use Rattle.fields.specs.Lists.{texts}
use Rattle.script.proofs.Lookups.{call_in-no_text}
use Rattle.script.proofs.line.read_words.Goals as goal

pub returns : goal.returns
returns c =
    call_in-no_text c.as_slice.result.now c.args.line.now _ (ap texts c.as_slice.ensures.value ∙ c.in_ok-words.ensures) c.in-len1-up.len_at_least c.in-Err.ensures.cases.0
