-- The rows of every program keep the rules that typing relies on.
use Rattle.std.proofs.Common.{◌≡◌, ℕ, zero, suc, ◌+◌, true, ltb, List, [], ◌∷◌, length, get_or, refl, ap, ◌∙◌, subst, arith}
use Rattle.std.proofs.lemmas.Bool.{and_parts}
use Rattle.std.proofs.lemmas.List.Elements.{All-weaker}
use Rattle.std.proofs.lemmas.List.Sums.{AllPass-from_list_all, list_all-from_AllPass}
use Rattle.rows.specs.declared.expression.Expression.{Expression}
use Rattle.rows.specs.declared.expression.Expression.TheVariants.{Error}
use Rattle.rows.specs.declared.arm.Arm.{Arm}
use Rattle.rows.specs.Expressions.{expression_fits}
use Rattle.rows.specs.Arms.{pattern_fits, arm_fits}
use Rattle.typing.specs.Programs.{Orderly}
use Rattle.session.specs.declared.program.Program.{Program}
use Rattle.session.specs.Rules.{expressions_lawful, match_right, matches_lawful}
use Rattle.session.specs.Tables.{program_rows}

pub expression_fits_at : (n m l : ℕ) (es : List Expression) (i : ℕ) → expressions_lawful n m l es ≡ true → expression_fits (record { expressions = n + i; arms = m; bytes = l }) (get_or es i Error) ≡ true
expression_fits_at n m l [] i law = refl
expression_fits_at n m l (e ∷ es) zero law =
    let z : n + 0 ≡ n = omega arith in
    ap (λ k. expression_fits (record { expressions = k; arms = m; bytes = l }) e) z ∙ (and_parts (expression_fits (record { expressions = n; arms = m; bytes = l }) e) (expressions_lawful (n + 1) m l es) law).0
expression_fits_at n m l (e ∷ es) (suc i) law =
    let z : n + suc i ≡ n + 1 + i = omega arith in
    ap (λ k. expression_fits (record { expressions = k; arms = m; bytes = l }) (get_or es i Error)) z ∙ expression_fits_at (n + 1) m l es i (and_parts (expression_fits (record { expressions = n; arms = m; bytes = l }) e) (expressions_lawful (n + 1) m l es) law).1

pub match_at : (n : ℕ) (xs : List Arm) (es : List Expression) (i : ℕ) → matches_lawful n xs es ≡ true → match_right (n + i) xs (get_or es i Error) ≡ true
match_at n xs [] i law = refl
match_at n xs (e ∷ es) zero law =
    let z : n + 0 ≡ n = omega arith in
    ap (λ k. match_right k xs e) z ∙ (and_parts (match_right n xs e) (matches_lawful (n + 1) xs es) law).0
match_at n xs (e ∷ es) (suc i) law =
    let z : n + suc i ≡ n + 1 + i = omega arith in
    ap (λ k. match_right k xs (get_or es i Error)) z ∙ match_at (n + 1) xs es i (and_parts (match_right n xs e) (matches_lawful (n + 1) xs es) law).1

pub orderly : (p : Program) → Orderly (program_rows p)
orderly p =
    let g = program_rows p in
    let fit = λ (e : ℕ). (
    let z : e ≡ 0 + e = omega arith in
    ap (λ k. expression_fits (record { expressions = k; arms = length g.arms; bytes = length g.text }) (get_or g.expressions e Error)) z ∙ expression_fits_at 0 (length g.arms) (length g.text) g.expressions e p.expressions_known) in
    record {
      fit = fit;
      arms_lower = λ e a from long else is. (
          let z : e ≡ 0 + e = omega arith in
          let at = ap (λ k. match_right k g.arms (get_or g.expressions e Error)) z ∙ match_at 0 g.arms g.expressions e p.matches_known in
          subst (λ (x : Expression). match_right e g.arms x ≡ true) is at);
      arms_fit = list_all-from_AllPass (λ arm. pattern_fits arm.pattern) g.arms (All-weaker (λ arm. arm_fits (length g.expressions) arm ≡ true) (λ arm. pattern_fits arm.pattern ≡ true)
          (λ arm fits. (and_parts (pattern_fits arm.pattern) (ltb arm.body (length g.expressions)) fits).0) g.arms (AllPass-from_list_all (arm_fits (length g.expressions)) g.arms p.arms_known));
    }
