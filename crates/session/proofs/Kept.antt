-- Every session keeps the rules.
use Rattle.std.proofs.Common.{◌≡◌, ◌+◌, ◌≤◌, length, get_or, ap, ◌∙◌, arith}
use Rattle.std.proofs.lemmas.List.{length-take-le}
use Rattle.rows.specs.declared.expression.Expression.TheVariants.{Error}
use Rattle.rows.specs.Expressions.{expression_fits}
use Rattle.rows.specs.Arms.{arm_fits}
use Rattle.session.specs.declared.session.Session.{Session}
use Rattle.rows.proofs.TypeTables.{keeps}
use Rattle.session.specs.Rules.{match_right}
use Rattle.session.specs.Tables.{declared_of, program_rows}
use Rattle.session.specs.Calls.{tables}
use Rattle.session.specs.Lawful.{Lawful}
use Rattle.session.proofs.Laws.{list_all-get_or, function_at}
use Rattle.session.proofs.Orders.{expression_fits_at, match_at}

pub lawful : (s : Session) → Lawful (tables s)
lawful s =
    let p = s.program in
    let rows = program_rows p in
    let rs = declared_of s.types in
    let k = keeps rs s.types.lawful in
    let declared : s.types.counts.declared ≤ length s.types.rows = omega (arith, s.types.counts.ordered, s.types.counts.few, s.types.long) in
    record {
      types_few = omega (arith, length-take-le s.types.counts.declared s.types.rows declared, s.types.counts.ordered, s.types.counts.few);
      expressions_few = p.expressions_few;
      arms_few = p.arms_few;
      functions_few = p.functions.few;
      text_few = p.text_few;
      lower = k.lower;
      one_owner = k.one_owner;
      once = k.once;
      types_fit = k.fit;
      expressions_fit = λ i.
          let z : i ≡ 0 + i = omega arith in
          ap (λ k. expression_fits (record { expressions = k; arms = length rows.arms; bytes = length rows.text }) (get_or rows.expressions i Error)) z
          ∙ expression_fits_at 0 (length rows.arms) (length rows.text) rows.expressions i p.expressions_known;
      bodies_lower = λ i.
          let z : i ≡ 0 + i = omega arith in
          ap (λ k. match_right k rows.arms (get_or rows.expressions i Error)) z ∙ match_at 0 rows.arms rows.expressions i p.matches_known;
      arms_fit = λ i lt. list_all-get_or (arm_fits (length rows.expressions)) rows.arms i _ lt p.arms_known;
      functions_fit = λ i. function_at (length rows.expressions) rows.functions i p.functions_known;
      query_fits = p.query_known;
    }
