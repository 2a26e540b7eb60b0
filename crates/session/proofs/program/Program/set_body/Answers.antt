use Rattle.std.proofs.Common.{length, ap, ◌∙◌, lt-ltb}
use Rattle.session.specs.Rules.{functions_lawful}
use Rattle.session.proofs.Laws.{functions-set}
use Rattle.session.proofs.program.Program.set_body.Goals as goal

pub invariant_of-self-clause-functions_known : goal.invariant_of-self-clause-functions_known
invariant_of-self-clause-functions_known c =
    let p = c.args.self.now in
    let n = length p.expressions.items in
    ap (functions_lawful n) c.set_body.ensures ∙ functions-set n p.functions.rows.items c.args.function c.args.row p.functions_known (lt-ltb c.args.row n c.requires.row)
