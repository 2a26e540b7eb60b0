-- The worked query's typing and its check compute, and the mixed type is refused.
use Rattle.std.proofs.Common.{◌≡◌, ℕ, zero, suc, ◌<◌, Bool, true, List, length, refl, sym, ap, ◌∙◌, inl, arith}
use Rattle.std.proofs.lemmas.Bool.{agree_below, agree_below_at}
use Rattle.rows.specs.declared.type_row.TypeRow.{TypeRow}
use Rattle.rows.specs.declared.expression.Expression.{Expression}
use Rattle.rows.specs.declared.expression.Expression.TheVariants.{As}
use Rattle.rows.specs.Programs.{ProgramRows}
use Rattle.types.specs.Parts.{Root}
use Rattle.types.specs.Worked.{many_then_one}
use Rattle.types.specs.Asking.{OneWay}
use Rattle.types.specs.Tables.{FailsFirst}
use Rattle.types.proofs.Tested.{root_test, tested-root, tested-contents, tested-one-way}
use Rattle.types.proofs.WorkedCases.{worked_types}
use Rattle.typing.specs.Outcomes.{all_hold}
use Rattle.typing.specs.Typing.{expression_at}
use Rattle.typing.specs.Checking.{Everywhere, TargetRooted, Ready, not_one_way}
use Rattle.typing.specs.Worked.{capture_types, every_off, WorkedTyping, WorkedCheck, input_itself, MixedRefused}

pub worked_typing : WorkedTyping
worked_typing = refl

-- of no numbers everything holds
of_none : (P : ℕ → Type 0) → Everywhere 0 P
of_none P i lt = absurd (omega arith)

-- THE TYPES OF "AS" ROWS

module _ (ts : List TypeRow) (g : ProgramRows) where
  abbrev target_test : Expression → Bool
  target_test (As a t) = root_test ts t
  target_test e = true

  abbrev targets_test : Bool
  targets_test = agree_below (λ e. target_test (expression_at g e)) (λ e. true) (length g.expressions)

  tested-targets : targets_test ≡ true → Everywhere (length g.expressions) (TargetRooted ts g)
  tested-targets h e lt a t i = tested-root ts t (ap target_test (sym i) ∙ agree_below_at (λ e. target_test (expression_at g e)) (λ e. true) (length g.expressions) e h lt)

-- THE WORKED QUERY

capture_ready : Ready capture_types every_off (record { input = 12; row = 6 })
capture_ready = record {
  query = refl;
  bodies = of_none _;
  contents = tested-contents capture_types refl;
  functions = of_none _;
  input = tested-root capture_types 12 refl;
  targets = tested-targets capture_types every_off refl;
  one_way = λ r lt root. tested-one-way capture_types refl r;
}

pub worked_check : WorkedCheck
worked_check = (record { input = 12; row = 6 }, capture_ready, all_hold, refl)

-- INTEGER*, INTEGER

-- rows 0 to 2 are parts
mixed-part : (r : ℕ) → r < 3 → Root many_then_one r → ⊥
mixed-part zero lt root = let e = root.unowned 1 in let z : ◌≡◌ {A = ℕ} 0 1 = cc in omega arith
mixed-part (suc zero) lt root = let e = root.unowned 3 in let z : ◌≡◌ {A = ℕ} 0 1 = cc in omega arith
mixed-part (suc (suc zero)) lt root = let e = root.unowned 3 in let z : ◌≡◌ {A = ℕ} 0 1 = cc in omega arith
mixed-part (suc (suc (suc r))) lt root = omega arith

mixed-root : Root many_then_one 3
mixed-root = tested-root many_then_one 3 refl

-- row 3 is the first that is not one-way
mixed-fails : FailsFirst many_then_one (OneWay many_then_one) 3
mixed-fails = record {
  there = omega arith;
  fails = λ h. worked_types.many_then_one_not (h mixed-root);
  before = λ r lt root. absurd (mixed-part r lt root);
}

pub mixed_refused : MixedRefused
mixed_refused = record {
  never = λ g a us c. mixed-fails.fails (c.1.one_way 3 mixed-fails.there);
  at_row_three = (inl (not_one_way refl (of_none _) (tested-contents many_then_one refl) (of_none _) mixed-root (tested-targets many_then_one (input_itself 3) refl) mixed-fails), refl);
}
