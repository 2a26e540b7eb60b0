-- The rules by which a query runs: what each row gives, what it costs, and where it stops.
use Rattle.std.specs.Prelude.{ℕ, zero, suc, ◌-◌, Bool, true, false, cond, List, [], ◌∷◌, ◌++◌, take, drop, ℤ, pos, ◌+ℤ◌, Some, None, Ok, Err, Option, Result, nat_le, slice_index_or}
use Rattle.forest.specs.declared.fault.Fault.{Fault}
use Rattle.forest.specs.Forests.{Scalar, integer, string, boolean, Forest, none, leaf, node, Item, scalar, element, before, integer_lawful}
use Rattle.forest.specs.Stores.{Meaning, make}
use Rattle.rows.specs.declared.expression.Expression.{Expression}
use Rattle.rows.specs.declared.expression.Expression.TheVariants.{Error, Integer, Boolean, String, Variable, Element, Sequence, Empty, If, Let, For, Match, Call, Add, Equal, IsEmpty, Count, Children, As}
use Rattle.rows.specs.Programs.{ProgramRows}
use Rattle.types.specs.Belonging.{join}
use Rattle.typing.specs.Typing.{expression_at}
use Rattle.evaluation.specs.Values.{size, is_none, inside, truth, number, same, chosen}

-- What a run has: the fuel that is left, and what its store means.
pub record State : Type 0 where
  pub fuel : ℕ
  pub store : Meaning

-- Why a run stops.
pub data Why : Type 0 where
  fuel_spent : Why
  store_refused : Fault → Why
  sum_out_of_range : Why
  error_row : Why

-- A row ends with a forest, or the run stops at a row. Either way the trees that were made stay in the store.
pub data End : Type 0 where
  gives : Forest → State → End
  stops : Why → ℕ → State → End

abbrev pub then : End → (Forest → State → End) → End
then (gives f s) k = k f s
then (stops w r s) k = stops w r s

-- row r pays n units, and goes on
abbrev pub pay_if : Bool → ℕ → ℕ → State → (State → End) → End
pay_if true n r s k = k (record { fuel = s.fuel - n; store = s.store })
pay_if false n r s k = stops fuel_spent r s

unfoldable pub pay : ℕ → ℕ → State → (State → End) → End
pay n r s k = pay_if (nat_le n s.fuel) n r s k

-- row r ends with a forest: one unit for each item
abbrev pub result : ℕ → Forest → State → End
result r f s = pay (size f) r s (gives f)

-- row r makes one tree in a store of layer l, and then pays for it
abbrev pub made_as : ℕ → Forest → ℕ → Result ℕ Fault × Meaning → End
made_as r f fuel (Ok h, m) = result r f (record { fuel = fuel; store = m })
made_as r f fuel (Err why, m) = stops (store_refused why) r (record { fuel = fuel; store = m })

abbrev pub fresh : ℕ → ℕ → Item → State → End
fresh l r i s = made_as r (before i none) s.fuel (make l (Some i) s.store)

abbrev pub fresh_scalar : ℕ → ℕ → Scalar → State → End
fresh_scalar l r v s = fresh l r (scalar v) s

-- for each item, from left to right; the results are joined in order
abbrev pub each : (Forest → State → End) → Forest → State → End
each k none s = gives none s
each k (leaf v f) s = then (k (leaf v none) s) (λ g s. then (each k f s) (λ h s. gives (join g h) s))
each k (node t c f) s = then (k (node t c none) s) (λ g s. then (each k f s) (λ h s. gives (join g h) s))

abbrev pub sum_if : Bool → ℕ → ℕ → ℤ → State → End
sum_if true l r z s = fresh_scalar l r (integer z) s
sum_if false l r z s = stops sum_out_of_range r s

-- How parts run: a row, the variables' forests, and a state.
abbrev pub Runner : Type 0
Runner = ℕ → List Forest → State → End

-- the body of a function runs on its argument alone
abbrev pub called : Runner → ℕ → Option ℕ → Forest → State → End
called run r None f s = stops error_row r s
called run r (Some body) f s = run body (f ∷ []) s

abbrev pub body_of : ProgramRows → ℕ → Option ℕ
body_of g n = (slice_index_or g.functions n (record { parameter = 0; result = 0; body = None })).body

-- One row, by its kind, after it began; parts run in the order written, and only the branch that is taken.
abbrev pub run_row : ℕ → ProgramRows → Runner → ℕ → Expression → List Forest → State → End
run_row l g run r Error env s = stops error_row r s
run_row l g run r (Integer z) env s = fresh_scalar l r (integer z) s
run_row l g run r (Boolean b) env s = fresh_scalar l r (boolean b) s
run_row l g run r (String from long) env s = fresh_scalar l r (string (take long (drop from g.text))) s
run_row l g run r (Variable i) env s = result r (slice_index_or env i none) s
run_row l g run r (Element t a) env s = then (run a env s) (λ f s. fresh l r (element t f) s)
run_row l g run r (Sequence a b) env s = then (run a env s) (λ f s. then (run b env s) (λ h s. result r (join f h) s))
run_row l g run r Empty env s = result r none s
run_row l g run r (If a b c) env s = then (run a env s) (λ f s. then (run (cond (truth f) b c) env s) (result r))
run_row l g run r (Let a b) env s = then (run a env s) (λ f s. then (run b (env ++ (f ∷ [])) s) (result r))
run_row l g run r (For a b) env s = then (run a env s) (λ f s. then (each (λ x s. run b (env ++ (x ∷ [])) s) f s) (result r))
run_row l g run r (Match a from long else) env s =
    then (run a env s) (λ f s. let branch = chosen (take long (drop from g.arms)) else f env in then (run branch.0 branch.1 s) (result r))
run_row l g run r (Call n a) env s = then (run a env s) (λ f s. then (called run r (body_of g n) f s) (result r))
run_row l g run r (Add a b) env s = then (run a env s) (λ f s. then (run b env s) (λ h s. let z = number f +ℤ number h in sum_if (integer_lawful z) l r z s))
run_row l g run r (Equal a b) env s = then (run a env s) (λ f s. then (run b env s) (λ h s. fresh_scalar l r (boolean (same f h)) s))
run_row l g run r (IsEmpty a) env s = then (run a env s) (λ f s. fresh_scalar l r (boolean (is_none f)) s)
run_row l g run r (Count a) env s = then (run a env s) (λ f s. fresh_scalar l r (integer (pos (size f))) s)
run_row l g run r (Children a) env s = then (run a env s) (λ f s. result r (inside f) s)
run_row l g run r (As a t) env s = then (run a env s) (result r)

-- a row costs one unit when it begins
abbrev pub begin : ℕ → ProgramRows → Runner → Runner
begin l g run r env s = pay 1 r s (run_row l g run r (expression_at g r) env)

-- Rows run to a depth. Each row takes a unit, so a depth past the fuel makes no difference.
abbrev pub run_to : ℕ → ℕ → ProgramRows → Runner
run_to zero l g r env s = stops fuel_spent r s
run_to (suc d) l g r env s = begin l g (run_to d l g) r env s

-- A row runs, over a store of layer l.
unfoldable pub run : ℕ → ProgramRows → Runner
run l g r env s = run_to s.fuel l g r env s
