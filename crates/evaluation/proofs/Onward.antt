-- Fuel is only spent, and trees that were made stay.
use Rattle.std.proofs.Common.{ℕ, zero, suc, ◌-◌, Bool, true, false, List, [], ◌∷◌, ◌++◌, leb, Some, Ok, Err, Result, sym, refl, ap, ◌∙◌, arith, append_assoc}
use Rattle.std.proofs.lemmas.List.{append-nil}
use Rattle.forest.specs.declared.fault.Fault.{Fault}
use Rattle.forest.specs.Forests.{Forest, none, Item, before}
use Rattle.forest.specs.Stores.{Meaning, make, make_if, holds, cost}
use Rattle.rows.specs.Programs.{ProgramRows}
use Rattle.typing.specs.Typing.{expression_at}
use Rattle.evaluation.specs.Values.{size}
use Rattle.evaluation.specs.Evaluation.{State, End, gives, stops, then, pay, pay_if, made_as, run_row, run_to, run}
use Rattle.evaluation.specs.Laws.{left_by, Onward, RunsOnward}
use Rattle.evaluation.proofs.Beside.{Keeps, row_keeps}

onward_same : (s : State) → Onward s s
onward_same s = record { fuel = omega arith; more = []; trees = sym (append-nil s.store.trees) }

onward_on : {s t u : State} → Onward s t → Onward t u → Onward s u
onward_on {s} a b = let f = a.fuel in let k = b.fuel in record {
  fuel = omega arith;
  more = a.more ++ b.more;
  trees = b.trees ∙ ap (λ z. z ++ b.more) a.trees ∙ append_assoc s.store.trees a.more b.more;
}

-- fuel is spent
spent : {s t : State} (n : ℕ) → Onward s t → Onward s (record { fuel = t.fuel - n; store = t.store })
spent n a = let f = a.fuel in record { fuel = omega arith; more = a.more; trees = a.trees }

-- a tree is made, or making is refused
tree_made : (b : Bool) (l : ℕ) (i : Item) (s : State) → Onward s (record { fuel = s.fuel; store = (make_if b l i s.store).1 })
tree_made true l i s = record { fuel = omega arith; more = i ∷ []; trees = refl }
tree_made false l i s = onward_same s

module _ (s : State) where
  -- a run that started at s
  abbrev Since : End → Type 0
  Since o = Onward s (left_by o)

  since_paid : (n r : ℕ) (t : State) (k : State → End) → Onward s t → ((u : State) → Onward s u → Since (k u)) → Since (pay n r t k)
  unfolding pay
  since_paid n r t k a h = go (leb n t.fuel)
    where
      go : (b : Bool) → Since (pay_if b n r t k)
      go true = h _ (spent n a)
      go false = a

  since_made : (r : ℕ) (f : Forest) (n : ℕ) (a : Result ℕ Fault × Meaning) → Onward s (record { fuel = n; store = a.1 }) → Since (made_as r f n a)
  since_made r f n (Ok h, m) a = since_paid (size f) r (record { fuel = n; store = m }) (gives f) a (λ u b. b)
  since_made r f n (Err w, m) a = a

  since_next : (o : End) (k : Forest → State → End) → Since o → ((f : Forest) (t : State) → Onward s t → Since (k f t)) → Since (then o k)
  since_next (gives f t) k a h = h f t a
  since_next (stops w r t) k a h = a

  since_keeps : (l : ℕ) → Keeps l (λ t u. Onward s t) (λ o q. Since o)
  since_keeps l = record {
    given = λ f a. a;
    stopped = λ w r i a. a;
    paid = λ {s = t} r f a. since_paid (size f) r t (gives f) a (λ u b. b);
    made = λ {s = t} r i a. since_made r (before i none) t.fuel (make l (Some i) t.store) (onward_on a (tree_made (holds t.store.space (cost i)) l i t));
    next = λ {o} k m a h. since_next o k a (λ f t b. h f t t b);
  }

  since_run : (d l : ℕ) (g : ProgramRows) (r : ℕ) (env : List Forest) (t u : State) → Onward s t → Since (run_to d l g r env t)
  since_run zero l g r env t u a = a
  since_run (suc d) l g r env t u a =
      since_paid 1 r t (run_row l g (run_to d l g) r (expression_at g r) env) a
      (λ t b. row_keeps (since_keeps l) g (run_to d l g) (run_to d l g) (since_run d l g) r (expression_at g r) env t t b)

pub runs_onward : RunsOnward
unfolding run
runs_onward l g r env s = since_run s s.fuel l g r env s s (onward_same s)
