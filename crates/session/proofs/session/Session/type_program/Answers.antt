use Rattle.std.proofs.Common.{rules, ◌≡◌, ℕ, ◌-◌, false, List, [], length, take, Err, refl, sym, ap, ◌∙◌, subst, arith}
use Rattle.rows.specs.declared.type_row.TypeRow.{TypeRow}
use Rattle.rows.specs.TypeTables.{types_lawful}
use Rattle.typing.specs.Outcomes.{Progress}
use Rattle.typing.specs.Checking.{Ready}
use Rattle.session.specs.Tables.{declared_of, program_rows}
use Rattle.session.proofs.Making.{table-long}
use Rattle.session.proofs.CheckCall.{first_standing, input_root, all_declared, declared_same, all_of, declared_long, call_refused, call_accepted}
use Rattle.session.proofs.session.Session.type_program.Goals as goal

pub type_all-requires-clause-ready : goal.type_all-requires-clause-ready
type_all-requires-clause-ready c = first_standing c.drop_made.new.self c.drop_made.ensures.all c.declared_rows.result c.declared_rows.ensures c.in_ok-query.ensures (record { variables = c.new.result; error = false }) c.new.ensures

pub type_all-requires-clause-input : goal.type_all-requires-clause-input
type_all-requires-clause-input c = input_root c.drop_made.new.self c.drop_made.ensures.all c.declared_rows.result c.declared_rows.ensures c.in_ok-query.ensures

pub invariant_of-self : goal.invariant_of-self
invariant_of-self c =
    let d = c.drop_made.new.self in
    record {
      long = search rules;
      lawful = ap (types_lawful []) (declared_same d c.drop_made.ensures.all c.type_all.ensures.stays.grows c.drop-guard.new.self.0.declared c.drop-guard.ensures.declared) ∙ d.lawful;
    }

pub returns-in_err-row : goal.returns-in_err-row
returns-in_err-row c =
    let d = c.drop_made.new.self in
    let g = program_rows c.args.self.now.program in
    let same = c.drop_made.ensures.declared in
    let ready = subst (λ (ts : List TypeRow). Ready ts g c.in_ok-query.query) (c.declared_rows.ensures ∙ same) c.in_ok-query.ensures in
    let start : Progress = record { types = declared_of c.args.self.now.types; error = false } in
    let begin = ap (λ (ts : List TypeRow). (let p : Progress = record { types = ts; error = false } in p)) (all_declared d c.drop_made.ensures.all ∙ same) in
    let types = declared_same d c.drop_made.ensures.all c.type_all.ensures.stays.grows c.drop-guard.new.self.0.declared c.drop-guard.ensures.declared ∙ same in
    let failed : c.from_residual-in_err-row.result ≡ Err c.in_err-row.field-0.0 = search rules in
    rw failed (call_refused ready begin _ types refl c.in_err-row.ensures.types refl)

pub invariant_of-self-2 : goal.invariant_of-self-2
invariant_of-self-2 c =
    let d = c.drop_made.new.self in
    record {
      long = search rules;
      lawful = ap (types_lawful []) (declared_same d c.drop_made.ensures.all c.type_all.ensures.stays.grows c.drop-guard-2.new.self.0.declared c.drop-guard-2.ensures.declared) ∙ d.lawful;
    }

pub returns : goal.returns
returns c =
    let d = c.drop_made.new.self in
    let g = program_rows c.args.self.now.program in
    let same = c.drop_made.ensures.declared in
    let ready = subst (λ (ts : List TypeRow). Ready ts g c.in_ok-query.query) (c.declared_rows.ensures ∙ same) c.in_ok-query.ensures in
    let begin = ap (λ (ts : List TypeRow). (let p : Progress = record { types = ts; error = false } in p)) (all_declared d c.drop_made.ensures.all ∙ same) in
    let types = declared_same d c.drop_made.ensures.all c.type_all.ensures.stays.grows c.drop-guard-2.new.self.0.declared c.drop-guard-2.ensures.declared ∙ same in
    let rows = c.type_all.new.types in
    let n = c.type_all.new.counts in
    let all = all_of rows c.drop-guard-2.new.self.0 ∙ ap (λ (k : ℕ). take k rows) c.drop-guard-2.ensures.all in
    let here = table-long rows n (let l : length rows ≡ 512 = search rules in l) in
    let there = ap (λ (ts : List TypeRow). length ts) (sym same) ∙ declared_long d in
    let kept = c.type_all.ensures.stays.grows.declared in
    let some = n.ordered in
    call_accepted ready begin _ types refl c.in_ok-row.ensures.types _ refl all (n.all - n.declared) (omega arith)
