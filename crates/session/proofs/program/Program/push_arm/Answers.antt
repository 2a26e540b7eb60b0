use Rattle.std.proofs.Common.{length, ap, ◌∙◌, arith}
use Rattle.rows.specs.Arms.{arm_fits}
use Rattle.session.specs.Rules.{arms_lawful, matches_lawful}
use Rattle.session.proofs.Laws.{list_all-push, expressions-more, matches-more}
use Rattle.session.proofs.program.Program.push_arm.Goals as goal

pub invariant_of-self-clause-expressions_known : goal.invariant_of-self-clause-expressions_known
invariant_of-self-clause-expressions_known c =
    let p = c.args.self.now in
    let l = length p.text.items in
    expressions-more 0 (length p.arms.items) l _ l p.expressions.items (omega (arith, c.push.ensures.len)) (omega arith) p.expressions_known

pub invariant_of-self-clause-arms_known : goal.invariant_of-self-clause-arms_known
invariant_of-self-clause-arms_known c =
    let p = c.args.self.now in
    let n = length p.expressions.items in
    ap (arms_lawful n) c.push.ensures.items ∙ list_all-push (arm_fits n) p.arms.items c.args.row p.arms_known c.requires.fits

pub invariant_of-self-clause-matches_known : goal.invariant_of-self-clause-matches_known
invariant_of-self-clause-matches_known c =
    let p = c.args.self.now in
    ap (λ xs. matches_lawful 0 xs p.expressions.items) c.push.ensures.items ∙ matches-more 0 (length p.text.items) p.arms.items c.args.row p.expressions.items p.expressions_known p.matches_known
