-- A depth past the fuel makes no difference.
use Rattle.std.proofs.Common.{◌≡◌, ℕ, zero, suc, ◌-◌, ◌<◌, ◌≤◌, Bool, true, false, List, leb, Some, Ok, Err, Result, sym, refl, ap, ◌∙◌, subst, arith}
use Rattle.std.proofs.lemmas.Bool.{leb-true, lt-leb}
use Rattle.forest.specs.declared.fault.Fault.{Fault}
use Rattle.forest.specs.Forests.{Forest, none, before}
use Rattle.forest.specs.Stores.{Meaning, make}
use Rattle.rows.specs.Programs.{ProgramRows}
use Rattle.typing.specs.Typing.{expression_at}
use Rattle.evaluation.specs.Values.{size}
use Rattle.evaluation.specs.Evaluation.{State, Why, fuel_spent, End, gives, stops, then, pay, pay_if, result, made_as, fresh, Runner, run_row, begin, run_to, run}
use Rattle.evaluation.specs.Laws.{Unfolds, DeepEnough}
use Rattle.evaluation.proofs.Beside.{Keeps, row_keeps}

-- if the run went on, at most n units are left
data Within (n : ℕ) : End → Type 0 where
  went : {f : Forest} {s : State} → s.fuel ≤ n → Within n (gives f s)
  halted : {w : Why} {r : ℕ} {s : State} → Within n (stops w r s)

-- the same, with at most n units
abbrev Same : ℕ → State → State → Type 0
Same n s t = (s ≡ t) × (s.fuel ≤ n)

abbrev SameEnd : ℕ → End → End → Type 0
SameEnd n o q = (o ≡ q) × Within n o

within_more : {m n : ℕ} {o : End} → m ≤ n → Within m o → Within n o
within_more h (went l) = went (omega arith)
within_more h halted = halted

within_paid : (m n r : ℕ) (s : State) (k : State → End) → s.fuel ≤ m → ((t : State) → t.fuel ≤ m → Within m (k t)) → Within m (pay n r s k)
unfolding pay
within_paid m n r s k l h = go (leb n s.fuel)
  where
    go : (b : Bool) → Within m (pay_if b n r s k)
    go true = h (record { fuel = s.fuel - n; store = s.store }) (omega arith)
    go false = halted

within_made : (m r : ℕ) (f : Forest) (n : ℕ) (a : Result ℕ Fault × Meaning) → n ≤ m → Within m (made_as r f n a)
within_made m r f n (Ok h, z) l = within_paid m (size f) r (record { fuel = n; store = z }) (gives f) l (λ t e. went e)
within_made m r f n (Err w, z) l = halted

same_next : {n : ℕ} {o q : End} (k m : Forest → State → End) → SameEnd n o q → ((f : Forest) (s t : State) → Same n s t → SameEnd n (k f s) (m f t)) → SameEnd n (then o k) (then q m)
same_next {n} {o} {q} k m e h = subst (λ z. SameEnd n (then o k) (then z m)) e.0 (go o e.1)
  where
    go : (o : End) → Within n o → SameEnd n (then o k) (then o m)
    go _ (went {f} {s} l) = h f s s (refl, l)
    go _ halted = (refl, halted)

same_keeps : (l n : ℕ) → Keeps l (Same n) (SameEnd n)
same_keeps l n = record {
  given = λ f e. (ap (gives f) e.0, went e.1);
  stopped = λ w r i e. (ap (stops w r) e.0, halted);
  paid = λ {s} r f e. (ap (result r f) e.0, within_paid n (size f) r s (gives f) e.1 (λ t m. went m));
  made = λ {s} r i e. (ap (fresh l r i) e.0, within_made n r (before i none) s.fuel (make l (Some i) s.store) e.1);
  next = same_next;
}

dry : (d l : ℕ) (g : ProgramRows) (r : ℕ) (env : List Forest) (s : State) → s.fuel ≡ 0 → run_to d l g r env s ≡ stops fuel_spent r s
unfolding pay
dry zero l g r env s e = refl
dry (suc d) l g r env s e = let h : leb 1 s.fuel ≡ false = lt-leb 1 s.fuel (omega arith) in rw h

-- a row of which the parts run alike
begin_same : (n l : ℕ) (g : ProgramRows) (run walk : Runner) (r : ℕ) (env : List Forest) (s : State) → s.fuel ≤ n
    → ((m : ℕ) → m < n → (r : ℕ) (env : List Forest) (s t : State) → Same m s t → SameEnd m (run r env s) (walk r env t)) → SameEnd n (begin l g run r env s) (begin l g walk r env s)
unfolding pay
begin_same n l g run walk r env s le h = go (leb 1 s.fuel) refl
  where
    go : (b : Bool) → leb 1 s.fuel ≡ b → SameEnd n (pay_if b 1 r s (run_row l g run r (expression_at g r) env)) (pay_if b 1 r s (run_row l g walk r (expression_at g r) env))
    go true e =
        let q = leb-true 1 s.fuel e in
        let t : State = record { fuel = s.fuel - 1; store = s.store } in
        let b = row_keeps (same_keeps l (n - 1)) g run walk (h (n - 1) (omega arith)) r (expression_at g r) env t t (refl, omega arith) in
        (b.0, within_more (omega arith) b.1)
    go false e = (refl, halted)

stable : (d c n l : ℕ) (g : ProgramRows) → n ≤ d → n ≤ c → (r : ℕ) (env : List Forest) (s t : State) → Same n s t → SameEnd n (run_to d l g r env s) (run_to c l g r env t)
stable zero c n l g h k r env s t e = (sym (rw (← e.0) (dry c l g r env s (omega (arith, e.1)))), halted)
stable (suc d) zero n l g h k r env s t e = let z = dry (suc d) l g r env s (omega (arith, e.1)) in (z ∙ ap (stops fuel_spent r) e.0, subst (Within n) (sym z) halted)
stable (suc d) (suc c) n l g h k r env s t e =
    subst (λ t. SameEnd n (run_to (suc d) l g r env s) (run_to (suc c) l g r env t)) e.0
    (begin_same n l g (run_to d l g) (run_to c l g) r env s e.1 (λ m lt. stable d c m l g (omega arith) (omega arith)))

pub deep_enough : DeepEnough
unfolding run
deep_enough l g r env s d h = (stable d s.fuel s.fuel l g h (omega arith) r env s s (refl, omega arith)).0

pub unfolds : Unfolds
unfolds l g r env s =
    sym (deep_enough l g r env s (suc s.fuel) (omega arith)) ∙ (begin_same s.fuel l g (run_to s.fuel l g) (run l g) r env s (omega arith) (λ m lt r env u t e.
    let w = deep_enough l g r env u s.fuel (omega (arith, e.1)) in
    let b = stable s.fuel m m l g (omega arith) (omega arith) r env u u (refl, e.1) in
    (w ∙ ap (run l g r env) e.0, b.1))).0
