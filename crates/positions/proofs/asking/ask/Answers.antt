use Rattle.std.proofs.Common.{ℕ, Option, subst, sym, ◌∙◌}
use Rattle.std.proofs.lemmas.Bool.{true≢false}
use Rattle.types.specs.declared.type_rows.TypeRows.{TypeRows}
use Rattle.types.specs.Parts.{Rooted}
use Rattle.types.specs.Tables.{rows_of, Lowest}
use Rattle.types.specs.Asking.{OneWay}
use Rattle.types.specs.Asking.Unaskable.{no_content, not_there, not_one_way}
use Rattle.positions.proofs.asking.ask.Goals as goal

pub returns-in-Some : goal.returns-in-Some
returns-in-Some c = rw c.refusal.ensures (no_content (subst (λ (o : Option ℕ). Lowest o (rows_of c.args.types) (Rooted (rows_of c.args.types))) c.in-Some.is c.first_unrooted.ensures))

pub returns-then-not-there : goal.returns-then-not-there
returns-then-not-there c = rw c.refusal-then-not-there.ensures (not_there (c.in_default.ensures) (λ t. true≢false (sym t ∙ c.if-not-there.true)))

pub returns-in-Some-first_ambiguous : goal.returns-in-Some-first_ambiguous
returns-in-Some-first_ambiguous c =
    let ts = rows_of c.args.types in
    let lowest = subst (λ (t : TypeRows). Lowest c.first_ambiguous.result (rows_of t) (OneWay (rows_of t))) c.of-positions.ensures.types (c.first_ambiguous.ensures c.of-positions.ensures.built) in
    rw c.refusal-in-Some-first_ambiguous.ensures (not_one_way (c.in_default.ensures) c.if-not-there.false (subst (λ (o : Option ℕ). Lowest o ts (OneWay ts)) c.in-Some-first_ambiguous.is lowest))
