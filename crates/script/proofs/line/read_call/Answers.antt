use Rattle.std.proofs.Common.{◌≡◌, sym, subst, rules}
use Rattle.script.specs.Calls.{asked}
use Rattle.script.specs.Lines.{Named, call, read_line}
use Rattle.script.proofs.Names.{named}
use Rattle.script.proofs.line.read_call.Goals as goal

pub returns-in-Ok : goal.returns-in-Ok
returns-in-Ok c =
    let line = c.args.line.now in
    let is : call (asked c.in-Ok.call) ≡ read_line line = search rules in
    record { meaning = is; named = subst (Named line) (sym is) (named line) }
