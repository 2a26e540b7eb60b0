use Rattle.std.proofs.Common.{◌≡◌, ◌+◌, length, refl, ap, ◌∙◌, arith}
use Rattle.rows.specs.Expressions.{expression_fits}
use Rattle.session.specs.Rules.{expressions_lawful, matches_lawful}
use Rattle.session.specs.Tables.{program_rows}
use Rattle.session.proofs.Laws.{expressions-push, matches-push_at, arms-grow, functions-grow, query-grow}
use Rattle.session.proofs.program.Program.push_expression.Goals as goal

pub invariant_of-self-clause-expressions_known : goal.invariant_of-self-clause-expressions_known
invariant_of-self-clause-expressions_known c =
    let p = c.args.self.now in
    let rows = program_rows p in
    let n = length rows.expressions in
    let m = length rows.arms in
    let l = length rows.text in
    let z : 0 + n ≡ n = omega arith in
    ap (expressions_lawful 0 m l) c.push.ensures.items ∙ expressions-push 0 m l rows.expressions c.args.row p.expressions_known (ap (λ k. expression_fits (record { expressions = k; arms = m; bytes = l }) c.args.row) z ∙ c.requires.fits)

pub invariant_of-self-clause-arms_known : goal.invariant_of-self-clause-arms_known
invariant_of-self-clause-arms_known c =
    let p = c.args.self.now in
    arms-grow (length p.expressions.items) _ p.arms.items (omega (arith, c.push.ensures.len)) p.arms_known

pub invariant_of-self-clause-functions_known : goal.invariant_of-self-clause-functions_known
invariant_of-self-clause-functions_known c =
    let p = c.args.self.now in
    functions-grow (length p.expressions.items) _ p.functions.rows.items (omega (arith, c.push.ensures.len)) p.functions_known

pub invariant_of-self-clause-query_known : goal.invariant_of-self-clause-query_known
invariant_of-self-clause-query_known c =
    let p = c.args.self.now in
    query-grow (length p.expressions.items) _ p.query (omega (arith, c.push.ensures.len)) p.query_known

pub invariant_of-self-clause-matches_known : goal.invariant_of-self-clause-matches_known
invariant_of-self-clause-matches_known c =
    let p = c.args.self.now in
    let n = length p.expressions.items in
    ap (matches_lawful 0 p.arms.items) c.push.ensures.items ∙ matches-push_at n p.arms.items p.expressions.items c.args.row refl p.arms_known p.matches_known
