use Rattle.std.proofs.Common.{◌≤◌, length, rules}
use Rattle.session.specs.Tables.{program_rows}
use Rattle.session.proofs.Firsts.{first_lists}
use Rattle.session.proofs.session.Session.tags.Goals as goal

pub returns-then-marks-list : goal.returns-then-marks-list
returns-then-marks-list c =
    let p = program_rows c.args.self.now.program in
    let n = c.write_tags.result in
    let list = c.args.list.now in
    let le : n ≤ length list = search rules in
    first_lists p n list _ c.write_tags.ensures.count le c.write_tags.ensures.list
