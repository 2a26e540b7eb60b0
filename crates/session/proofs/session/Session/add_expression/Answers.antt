use Rattle.std.proofs.Common.{rules, ◌≡◌, length, Ok, Err, Some, None, true, nat_lt, false, sym, ap, ◌∙◌}
use Rattle.std.specs.Result.{is_ok}
use Rattle.forest.specs.declared.fault.Reason.TheVariants.{FieldOutOfRange}
use Rattle.session.specs.Calls.{tables, expression_put}
use Rattle.session.proofs.Given.{given, not_given, expression_put_at}
use Rattle.session.proofs.session.Session.add_expression.Goals as goal

pub returns-in_err-row : goal.returns-in_err-row
returns-in_err-row c =
    let t = tables c.args.self.now in
    let few : nat_lt (length t.program.expressions) 512 ≡ true = search rules in
    let failed : c.map_err.result ≡ Err c.in_err-row.field-0.0 = c.in_err-row.was in
    let fails : is_ok c.try_from.result ≡ false = sym c.map_err.ensures.variant ∙ ap is_ok failed in
    let why : c.try_from.result ≡ Err FieldOutOfRange = (not_given _ _ _ c.try_from.ensures fails).1 in
    let put : (c.from_residual-in_err-row.result, t) ≡ expression_put t None = search rules in
    put ∙ sym (expression_put_at t c.args.row None few (not_given _ _ _ c.try_from.ensures fails).0)

pub returns-in_err-allow-2 : goal.returns-in_err-allow-2
returns-in_err-allow-2 c =
    let t = tables c.args.self.now in
    let few : nat_lt (length t.program.expressions) 512 ≡ true = search rules in
    let got : c.try_from.result ≡ Ok c.in_ok-row.row = search rules in
    let put : (c.from_residual-in_err-allow-2.result, t) ≡ expression_put t (Some c.in_ok-row.row) = search rules in
    put ∙ sym (expression_put_at t c.args.row (Some c.in_ok-row.row) few (given _ _ _ (sym got ∙ c.try_from.ensures)))

pub returns : goal.returns
returns c =
    let t = tables c.args.self.now in
    let few : nat_lt (length t.program.expressions) 512 ≡ true = search rules in
    let got : c.try_from.result ≡ Ok c.in_ok-row.row = search rules in
    let put : (Ok c.room-room.result.expressions, tables c.settle.new.self) ≡ expression_put t (Some c.in_ok-row.row) = search rules in
    put ∙ sym (expression_put_at t c.args.row (Some c.in_ok-row.row) few (given _ _ _ (sym got ∙ c.try_from.ensures)))
