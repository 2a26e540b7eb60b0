-- A store refuses for want of space alone.
use Rattle.std.proofs.Common.{ℕ, zero, suc, ◌-◌, Bool, true, false, List, leb, refl}
use Rattle.forest.specs.Forests.{Forest, none, Item, before}
use Rattle.forest.specs.Stores.{Meaning, make_if, holds, cost}
use Rattle.rows.specs.Programs.{ProgramRows}
use Rattle.typing.specs.Typing.{expression_at}
use Rattle.evaluation.specs.Values.{size}
use Rattle.evaluation.specs.Evaluation.{State, Why, fuel_spent, store_refused, error_row, sum_out_of_range, End, gives, stops, then, pay, pay_if, made_as, run_row, run_to, run}
use Rattle.evaluation.specs.Laws.{ShortOnly, RefusedForSpace, RunsRefusedForSpace}
use Rattle.evaluation.proofs.Beside.{ByItself, Keeps, row_keeps}

short_paid : (l n r : ℕ) (s : State) (k : State → End) → ((t : State) → RefusedForSpace l (k t)) → RefusedForSpace l (pay n r s k)
unfolding pay
short_paid l n r s k h = go (leb n s.fuel)
  where
    go : (b : Bool) → RefusedForSpace l (pay_if b n r s k)
    go true = h (record { fuel = s.fuel - n; store = s.store })
    go false = tt

short_made : (l r : ℕ) (f : Forest) (n : ℕ) (b : Bool) (i : Item) (m : Meaning) → RefusedForSpace l (made_as r f n (make_if b l i m))
short_made l r f n true i m = short_paid l (size f) r _ (gives f) (λ t. tt)
short_made l r f n false i m = refl

short_next : (l : ℕ) (o : End) (k : Forest → State → End) → RefusedForSpace l o → ((f : Forest) (s : State) → RefusedForSpace l (k f s)) → RefusedForSpace l (then o k)
short_next l (gives f s) k h g = g f s
short_next l (stops w r s) k h g = h

by_itself : (l : ℕ) (w : Why) → ByItself w → ShortOnly l w
by_itself l fuel_spent i = tt
by_itself l (store_refused why) i = absurd i
by_itself l sum_out_of_range i = tt
by_itself l error_row i = tt

short_keeps : (l : ℕ) → Keeps l (λ s t. Unit {0}) (λ o q. RefusedForSpace l o)
short_keeps l = record {
  given = λ f e. tt;
  stopped = λ w r i e. by_itself l w i;
  paid = λ {s} r f e. short_paid l (size f) r s (gives f) (λ t. tt);
  made = λ {s} r i e. short_made l r (before i none) s.fuel (holds s.store.space (cost i)) i s.store;
  next = λ {o} k m h g. short_next l o k h (λ f s. g f s s tt);
}

short_to : (d l : ℕ) (g : ProgramRows) (r : ℕ) (env : List Forest) (s t : State) → Unit {0} → RefusedForSpace l (run_to d l g r env s)
short_to zero l g r env s t e = tt
short_to (suc d) l g r env s t e =
    short_paid l 1 r s (run_row l g (run_to d l g) r (expression_at g r) env) (λ u. row_keeps (short_keeps l) g (run_to d l g) (run_to d l g) (short_to d l g) r (expression_at g r) env u u tt)

pub runs_refused_for_space : RunsRefusedForSpace
unfolding run
runs_refused_for_space l g r env s = short_to s.fuel l g r env s s tt
