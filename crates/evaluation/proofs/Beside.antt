-- Two runs side by side: what holds of both after each single step, holds after each row.
use Rattle.std.proofs.Common.{ℕ, Bool, true, false, cond, List, [], ◌∷◌, ◌++◌, take, drop, Some, None, Option}
use Rattle.std.specs.Prelude.{◌+ℤ◌, ℤ, pos}
use Rattle.forest.specs.Forests.{integer, boolean, string, Forest, none, leaf, node, Item, scalar, element, integer_lawful}
use Rattle.rows.specs.declared.expression.Expression.{Expression}
use Rattle.rows.specs.declared.expression.Expression.TheVariants.{Error, Integer, Boolean, String, Variable, Element, Sequence, Empty, If, Let, For, Match, Call, Add, Equal, IsEmpty, Count, Children, As}
use Rattle.rows.specs.Programs.{ProgramRows}
use Rattle.types.specs.Belonging.{join}
use Rattle.evaluation.specs.Values.{size, is_none, truth, number, same, chosen}
use Rattle.evaluation.specs.Evaluation.{State, Why, fuel_spent, store_refused, error_row, sum_out_of_range, End, gives, stops, then, result, fresh, each, sum_if, Runner, called, body_of, run_row}

-- the row stops the run by itself, neither fuel nor the store
abbrev pub ByItself : Why → Type 0
ByItself fuel_spent = ⊥
ByItself (store_refused why) = ⊥
ByItself sum_out_of_range = Unit {0}
ByItself error_row = Unit {0}

-- `low` of two states under way, `out` of two ends, over stores of layer l
pub record Keeps (l : ℕ) (low : State → State → Type 0) (out : End → End → Type 0) : Type 0 where
  pub given : {s t : State} (f : Forest) → low s t → out (gives f s) (gives f t)
  pub stopped : {s t : State} (w : Why) (r : ℕ) → ByItself w → low s t → out (stops w r s) (stops w r t)
  pub paid : {s t : State} (r : ℕ) (f : Forest) → low s t → out (result r f s) (result r f t)
  pub made : {s t : State} (r : ℕ) (i : Item) → low s t → out (fresh l r i s) (fresh l r i t)
  pub next : {o q : End} (k m : Forest → State → End) → out o q → ((f : Forest) (s t : State) → low s t → out (k f s) (m f t)) → out (then o k) (then q m)

module _ {l : ℕ} {low : State → State → Type 0} {out : End → End → Type 0} (keeps : Keeps l low out) where
  each_keeps : (k m : Forest → State → End) → ((x : Forest) (s t : State) → low s t → out (k x s) (m x t)) → (f : Forest) (s t : State) → low s t → out (each k f s) (each m f t)
  each_keeps k m h none s t e = keeps.given none e
  each_keeps k m h (leaf v f) s t e = keeps.next _ _ (h (leaf v none) s t e) (λ a s t e. keeps.next _ _ (each_keeps k m h f s t e) (λ b s t e. keeps.given (join a b) e))
  each_keeps k m h (node n c f) s t e = keeps.next _ _ (h (node n c none) s t e) (λ a s t e. keeps.next _ _ (each_keeps k m h f s t e) (λ b s t e. keeps.given (join a b) e))

  sum_keeps : (b : Bool) (r : ℕ) (z : ℤ) (s t : State) → low s t → out (sum_if b l r z s) (sum_if b l r z t)
  sum_keeps true r z s t e = keeps.made r (scalar (integer z)) e
  sum_keeps false r z s t e = keeps.stopped sum_out_of_range r tt e

  -- parts run alike
  abbrev pub RunnersKeep : Runner → Runner → Type 0
  RunnersKeep run walk = (r : ℕ) (env : List Forest) (s t : State) → low s t → out (run r env s) (walk r env t)

  called_keeps : (run walk : Runner) → RunnersKeep run walk → (r : ℕ) (b : Option ℕ) (f : Forest) (s t : State) → low s t → out (called run r b f s) (called walk r b f t)
  called_keeps run walk h r None f s t e = keeps.stopped error_row r tt e
  called_keeps run walk h r (Some b) f s t e = h b (f ∷ []) s t e

  pub row_keeps : (g : ProgramRows) (run walk : Runner) → RunnersKeep run walk → (r : ℕ) (e : Expression) (env : List Forest) (s t : State) → low s t → out (run_row l g run r e env s) (run_row l g walk r e env t)
  row_keeps g run walk h r Error env s t e = keeps.stopped error_row r tt e
  row_keeps g run walk h r (Integer z) env s t e = keeps.made r (scalar (integer z)) e
  row_keeps g run walk h r (Boolean b) env s t e = keeps.made r (scalar (boolean b)) e
  row_keeps g run walk h r (String from long) env s t e = keeps.made r (scalar (string (take long (drop from g.text)))) e
  row_keeps g run walk h r (Variable i) env s t e = keeps.paid r _ e
  row_keeps g run walk h r (Element n a) env s t e = keeps.next _ _ (h a env s t e) (λ f s t e. keeps.made r (element n f) e)
  row_keeps g run walk h r (Sequence a b) env s t e = keeps.next _ _ (h a env s t e) (λ f s t e. keeps.next _ _ (h b env s t e) (λ y s t e. keeps.paid r _ e))
  row_keeps g run walk h r Empty env s t e = keeps.paid r none e
  row_keeps g run walk h r (If a b c) env s t e = keeps.next _ _ (h a env s t e) (λ f s t e. keeps.next _ _ (h (cond (truth f) b c) env s t e) (λ y s t e. keeps.paid r y e))
  row_keeps g run walk h r (Let a b) env s t e = keeps.next _ _ (h a env s t e) (λ f s t e. keeps.next _ _ (h b (env ++ (f ∷ [])) s t e) (λ y s t e. keeps.paid r y e))
  row_keeps g run walk h r (For a b) env s t e = keeps.next _ _ (h a env s t e) (λ f s t e. keeps.next _ _ (each_keeps _ _ (λ x s t e. h b (env ++ (x ∷ [])) s t e) f s t e) (λ y s t e. keeps.paid r y e))
  row_keeps g run walk h r (Match a from long else) env s t e = keeps.next _ _ (h a env s t e) (λ f s t e.
      let branch : ℕ × List Forest = chosen (take long (drop from g.arms)) else f env in
      keeps.next _ _ (h branch.0 branch.1 s t e) (λ y s t e. keeps.paid r y e))
  row_keeps g run walk h r (Call n a) env s t e = keeps.next _ _ (h a env s t e) (λ f s t e. keeps.next _ _ (called_keeps run walk h r (body_of g n) f s t e) (λ y s t e. keeps.paid r y e))
  row_keeps g run walk h r (Add a b) env s t e = keeps.next _ _ (h a env s t e) (λ f s t e. keeps.next _ _ (h b env s t e) (λ y s t e. sum_keeps (integer_lawful (number f +ℤ number y)) r _ s t e))
  row_keeps g run walk h r (Equal a b) env s t e = keeps.next _ _ (h a env s t e) (λ f s t e. keeps.next _ _ (h b env s t e) (λ y s t e. keeps.made r (scalar (boolean (same f y))) e))
  row_keeps g run walk h r (IsEmpty a) env s t e = keeps.next _ _ (h a env s t e) (λ f s t e. keeps.made r (scalar (boolean (is_none f))) e)
  row_keeps g run walk h r (Count a) env s t e = keeps.next _ _ (h a env s t e) (λ f s t e. keeps.made r (scalar (integer (pos (size f)))) e)
  row_keeps g run walk h r (Children a) env s t e = keeps.next _ _ (h a env s t e) (λ f s t e. keeps.paid r _ e)
  row_keeps g run walk h r (As a n) env s t e = keeps.next _ _ (h a env s t e) (λ f s t e. keeps.paid r f e)
