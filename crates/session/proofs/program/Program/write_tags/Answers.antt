use Rattle.std.proofs.Common.{rules, ◌≡◌, ◌+◌, [], length, get_or, take, None, sym, ap, ◌∙◌, subst, arith}
use Rattle.std.proofs.lemmas.List.{take_all}
use Rattle.std.proofs.lemmas.List.Sums.{count_by-le-length}
use Rattle.std.specs.Option.{is_some}
use Rattle.rows.specs.Arms.{arm_tag}
use Rattle.session.specs.Tables.{program_rows}
use Rattle.session.specs.Tags.{marks, with_marks}
use Rattle.session.proofs.Firsts.{Written, written-more, written-room, firsts-long, firsts-few, mark-row, mark-arm, marks-long, no_arm}
use Rattle.session.proofs.program.Program.write_tags.Goals as goal

pub put-count-requires-clause-room : goal.put-count-requires-clause-room
put-count-requires-clause-room c =
    let p = program_rows c.args.self.now in
    let i = c.loop-row.row-index in
    let at = mark-row p i (search rules) in
    let is : get_or (marks p) i None ≡ c.tag.result = at.1 ∙ search rules in
    (written-room (marks p) i c.tag.result c.args.list.now c.loop-row.list c.loop-row.count at.0 is c.loop-row.invariant c.requires).1

pub loop-row-preserved : goal.loop-row-preserved
loop-row-preserved c =
    let p = program_rows c.args.self.now in
    let i = c.loop-row.row-index in
    let at = mark-row p i (search rules) in
    let is : get_or (marks p) i None ≡ c.tag.result = at.1 ∙ search rules in
    written-more (marks p) i c.tag.result c.args.list.now c.loop-row.list _ c.loop-row.count _ at.0 is c.loop-row.invariant c.put-count.ensures.count c.put-count.ensures.list

pub put-count-requires-in-loop-arm-clause-room : goal.put-count-requires-in-loop-arm-clause-room
put-count-requires-in-loop-arm-clause-room c =
    let p = program_rows c.args.self.now in
    let i = c.loop-arm.arm-index in
    let arms = c.as_slice-arm-items.ensures.value in
    let at = mark-arm p i (omega (arith, ap length arms, c.loop-arm-test.true)) in
    let is = at.1 ∙ ap (λ xs. arm_tag (get_or xs i no_arm)) (sym arms) ∙ sym c.tag-in-loop-arm.ensures in
    (written-room (marks p) (length p.expressions + i) c.tag-in-loop-arm.result c.args.list.now c.loop-arm.list c.loop-arm.count at.0 is c.loop-arm.invariant c.requires).1

pub loop-arm-preserved : goal.loop-arm-preserved
loop-arm-preserved c =
    let p = program_rows c.args.self.now in
    let i = c.loop-arm.arm-index in
    let arms = c.as_slice-arm-items.ensures.value in
    let at = mark-arm p i (omega (arith, ap length arms, c.loop-arm-test.true)) in
    let is = at.1 ∙ ap (λ xs. arm_tag (get_or xs i no_arm)) (sym arms) ∙ sym c.tag-in-loop-arm.ensures in
    let z : length p.expressions + i + 1 ≡ length p.expressions + (i + 1) = omega arith in
    subst (λ k. Written (take k (marks p)) c.args.list.now c.put-count-in-loop-arm.result c.put-count-in-loop-arm.new.list) z
    (written-more (marks p) (length p.expressions + i) c.tag-in-loop-arm.result c.args.list.now c.loop-arm.list _ c.loop-arm.count _ at.0 is c.loop-arm.invariant c.put-count-in-loop-arm.ensures.count c.put-count-in-loop-arm.ensures.list)

pub returns-clause-count : goal.returns-clause-count
returns-clause-count c =
    let p = program_rows c.args.self.now in
    let all : take (length p.expressions + c.loop-arm.arm-index) (marks p) ≡ marks p = take_all _ (marks p) (omega (arith, marks-long p, ap length c.as_slice-arm-items.ensures.value, c.loop-arm-test.false)) in
    c.loop-arm.invariant.0 ∙ ap (λ os. length (with_marks [] os)) all ∙ firsts-long (marks p)

pub returns-clause-few : goal.returns-clause-few
returns-clause-few c =
    let p = program_rows c.args.self.now in
    omega (arith, returns-clause-count c, firsts-long (marks p), firsts-few [] (marks p), count_by-le-length is_some (marks p), marks-long p, c.args.self.now.expressions_few, c.args.self.now.arms_few)

pub returns-clause-there : goal.returns-clause-there
returns-clause-there c =
    let p = program_rows c.args.self.now in
    omega (arith, returns-clause-count c, firsts-long (marks p), firsts-few [] (marks p), c.requires, c.loop-arm.auto.list, c.loop-row.auto.list)
