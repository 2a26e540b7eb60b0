use Rattle.std.proofs.Common.{◌≡◌, ◌≤◌, ◌++◌, [], length, take, drop, ap, sym, ◌∙◌, rules, take_at}
use Rattle.session.specs.Tables.{program_rows}
use Rattle.session.specs.Tags.{marks, with_marks}
use Rattle.session.proofs.Firsts.{first_lists, firsts-long}
use Rattle.session.proofs.program.Program.list_tags.Goals as goal

pub returns : goal.returns
returns c =
    let p = program_rows c.args.self.now in
    let n = c.write_tags-count.result in
    let list = c.args.list.now in
    let beside = c.write_tags-count.new.list in
    let ts = with_marks [] (marks p) in
    let le : n ≤ length list = search rules in
    let front : take n beside ≡ ts = ap (take n) c.write_tags-count.ensures.list ∙ take_at ts _ n (firsts-long (marks p) ∙ sym c.write_tags-count.ensures.count) in
    first_lists p n list _ c.write_tags-count.ensures.count le (ap (λ xs. xs ++ drop n list) (c.copy_from_slice.ensures.after ∙ front))
