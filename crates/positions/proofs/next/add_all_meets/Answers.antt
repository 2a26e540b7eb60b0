use Rattle.std.proofs.Common.{◌≡◌, ℕ, ◌<◌, ◌≤◌, List, length, get_or, take, sym, ap, ◌∙◌, subst, arith}
use Rattle.std.proofs.lemmas.List.{get_or-take, length-take-le}
use Rattle.rows.specs.declared.type_row.TypeRow.{TypeRow}
use Rattle.rows.specs.declared.type_row.TypeRow.TheVariants.{EmptyChoice}
use Rattle.types.specs.Parts.{row}
use Rattle.types.specs.Tables.{rows_of}
use Rattle.types.proofs.OfTable.{table-lawful}
use Rattle.positions.specs.Filling.{meets_by, Followed}
use Rattle.positions.proofs.Meeting.{Met, met_more}
use Rattle.positions.proofs.next.add_all_meets.Goals as goal

-- the first rows of a table
front : (ts us : List TypeRow) (end : ℕ) → us ≡ ts → end ≤ length ts → length (take end us) ≡ end
front ts us end e l = length-take-le end us (subst (λ (vs : List TypeRow). end ≤ length vs) (sym e) l)

pub loop-row-preserved : goal.loop-row-preserved
loop-row-preserved c lasts firsts none =
    let ts = rows_of c.args.types.now in
    let us = c.as_slice-rows.result.now in
    let k = c.loop-row.row-index in
    let ls = c.args.lasts.now.words in
    let here : k < c.args.end = (let l = front ts us c.args.end c.as_slice-rows.ensures.rows c.requires in let t = c.loop-row-test.true in omega arith) in
    let is : get_or (take c.args.end us) k EmptyChoice ≡ row ts k = get_or-take c.args.end us k EmptyChoice here ∙ ap (λ (vs : List TypeRow). get_or vs k EmptyChoice) c.as_slice-rows.ensures.rows in
    met_more (table-lawful c.args.types.now) ls lasts c.loop-row.next.words c.add_meets.new.next.words k (omega (arith, here, c.requires)) (c.loop-row.invariant lasts firsts none)
    (subst (λ w. Followed c.loop-row.next.words c.add_meets.new.next.words (meets_by ls c.loop-row.next.words w)) is c.add_meets.ensures)

pub returns-clause-follows : goal.returns-clause-follows
returns-clause-follows c lasts firsts none =
    let ts = rows_of c.args.types.now in
    let l = front ts c.as_slice-rows.result.now c.args.end c.as_slice-rows.ensures.rows c.requires in
    let all : c.loop-row.row-index ≡ c.args.end = omega arith in
    (subst (Met ts c.loop-row.next.words) all (c.loop-row.invariant lasts firsts none)).follows
