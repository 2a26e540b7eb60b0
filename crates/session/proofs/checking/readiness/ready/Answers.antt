use Rattle.std.proofs.Common.{ℕ, Option, subst, sym, ◌∙◌}
use Rattle.std.proofs.lemmas.Bool.{true≢false}
use Rattle.types.specs.declared.type_rows.TypeRows.{TypeRows}
use Rattle.types.specs.Tables.{rows_of, Lowest}
use Rattle.types.specs.Asking.{OneWay}
use Rattle.types.proofs.Exact.{known, shown}
use Rattle.typing.specs.Checking.Unready.{no_query, no_body, no_content, no_function_type, no_input_type, no_target_type, not_one_way}
use Rattle.session.proofs.checking.readiness.ready.Goals as goal

pub returns-in_default : goal.returns-in_default
returns-in_default c = rw c.refusal.ensures (no_query c.in_default.is)

pub returns-in-Some-first_bodiless : goal.returns-in-Some-first_bodiless
returns-in-Some-first_bodiless c = rw c.refusal-in-Some-first_bodiless.ensures (no_body c.in-Some.is c.in-Some-first_bodiless.ensures)

pub returns-in-Some-first_unrooted : goal.returns-in-Some-first_unrooted
returns-in-Some-first_unrooted c = rw c.refusal-in-Some-first_unrooted.ensures (no_content c.in-Some.is c.in_default-first_bodiless.ensures c.in-Some-first_unrooted.ensures)

pub returns-in-Some-first_unrooted_function : goal.returns-in-Some-first_unrooted_function
returns-in-Some-first_unrooted_function c = rw c.refusal-in-Some-first_unrooted_function.ensures
    (no_function_type c.in-Some.is c.in_default-first_bodiless.ensures c.in_default-first_unrooted.ensures c.in-Some-first_unrooted_function.ensures)

pub returns-then-not-is_root : goal.returns-then-not-is_root
returns-then-not-is_root c = rw c.refusal-then-not-is_root.ensures
    (no_input_type c.in-Some.is c.in_default-first_bodiless.ensures c.in_default-first_unrooted.ensures c.in_default-first_unrooted_function.ensures (λ root. true≢false (sym (shown c.is_root.ensures root) ∙ c.if-not-is_root.true)))

pub returns-in-Some-first_unrooted_target : goal.returns-in-Some-first_unrooted_target
returns-in-Some-first_unrooted_target c = rw c.refusal-in-Some-first_unrooted_target.ensures
    (no_target_type c.in-Some.is c.in_default-first_bodiless.ensures c.in_default-first_unrooted.ensures c.in_default-first_unrooted_function.ensures (known c.is_root.ensures c.if-not-is_root.false) c.in-Some-first_unrooted_target.ensures)

pub returns-in-Some-first_ambiguous : goal.returns-in-Some-first_ambiguous
returns-in-Some-first_ambiguous c =
    let ts = rows_of c.args.types in
    let lowest = subst (λ (t : TypeRows). Lowest c.first_ambiguous.result (rows_of t) (OneWay (rows_of t))) c.of.ensures.types (c.first_ambiguous.ensures c.of.ensures.built) in
    rw c.refusal-in-Some-first_ambiguous.ensures
    (not_one_way c.in-Some.is c.in_default-first_bodiless.ensures c.in_default-first_unrooted.ensures c.in_default-first_unrooted_function.ensures (known c.is_root.ensures c.if-not-is_root.false) c.in_default-first_unrooted_target.ensures
    (subst (λ (o : Option ℕ). Lowest o ts (OneWay ts)) c.in-Some-first_ambiguous.is lowest))
