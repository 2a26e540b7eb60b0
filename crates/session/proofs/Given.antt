-- A row that its numbers stand for, and numbers that stand for none.
use Rattle.std.proofs.Common.{◌≡◌, true, false, cond, length, Some, None, Ok, Err, Option, Result, nat_lt, refl, ap, ◌∙◌}
use Rattle.std.specs.Option.{ok_or}
use Rattle.std.specs.Result.{is_ok}
use Rattle.forest.specs.declared.fault.Reason.TheVariants.{TableFull}
use Rattle.rows.specs.declared.expression.RawExpression.{RawExpression}
use Rattle.rows.specs.Expressions.{expression_of}
use Rattle.session.specs.Calls.{Tables, expression_added, expression_put, refused}

pub given : {T E : Type 0} (o : Option T) (e : E) (x : T) → Ok x ≡ ok_or o e → o ≡ Some x
given None e x is = cc
given (Some y) e x is = cc

pub not_given : {T E : Type 0} (o : Option T) (e : E) (r : Result T E) → r ≡ ok_or o e → is_ok r ≡ false → (o ≡ None) × (r ≡ Err e)
not_given None e r is fails = (refl, is)
not_given (Some y) e r is fails = let ok = ap is_ok is in cc

pub expression_put_at : (t : Tables) (raw : RawExpression) (o : Option _) → nat_lt (length t.program.expressions) 512 ≡ true → expression_of raw.kind raw.a raw.b raw.c raw.d ≡ o → expression_added t raw ≡ expression_put t o
expression_put_at t raw o few is =
    ap (λ b. cond b (expression_put t (expression_of raw.kind raw.a raw.b raw.c raw.d)) (refused TableFull (length t.program.expressions) t)) few ∙ ap (expression_put t) is
