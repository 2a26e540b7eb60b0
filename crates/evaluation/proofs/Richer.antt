-- More fuel and more space change nothing but where either was lacking.
use Rattle.std.proofs.Common.{◌≡◌, ℕ, zero, suc, ◌+◌, ◌-◌, Bool, true, false, ◌&&◌, List, leb, Some, Ok, Err, Result, refl, arith}
use Rattle.std.proofs.lemmas.Bool.{leb-true, le-leb, and_parts, and_from}
use Rattle.forest.specs.declared.fault.Fault.{Fault}
use Rattle.forest.specs.declared.space.Space.{Space}
use Rattle.forest.specs.Forests.{Forest, none, Item, before}
use Rattle.forest.specs.Stores.{Meaning, make, make_if, holds, less, cost}
use Rattle.rows.specs.Programs.{ProgramRows}
use Rattle.typing.specs.Typing.{expression_at}
use Rattle.evaluation.specs.Values.{size}
use Rattle.evaluation.specs.Evaluation.{State, End, gives, then, pay, pay_if, made_as, run_row, run_to}
use Rattle.evaluation.specs.Laws.{plus, wider, richer, Alike, gave, stopped, lacked_fuel, lacked_space, RunsAlike}
use Rattle.evaluation.proofs.Beside.{Keeps, row_keeps}
use Rattle.evaluation.proofs.Depth.{deep_enough}

-- MAKING: all that is used of it

-- what was made is made with more space too, and the space over is left over
data MadeAlike (x : Space) : Result ℕ Fault × Meaning → Result ℕ Fault × Meaning → Type 0 where
  made_both : {h : ℕ} {m : Meaning} → MadeAlike x (Ok h, m) (Ok h, wider x m)
  refused : {why : Fault} {m : Meaning} {a : Result ℕ Fault × Meaning} → MadeAlike x (Err why, m) a

leb_more : (a b n : ℕ) → leb a b ≡ true → leb a (b + n) ≡ true
leb_more a b n e = let h = leb-true a b e in le-leb a (b + n) (omega arith)

-- the space holds what is asked
record Room (s c : Space) : Type 0 where
  trees : leb c.trees s.trees ≡ true
  children : leb c.children s.children ≡ true
  bytes : leb c.bytes s.bytes ≡ true

room : (s c : Space) → holds s c ≡ true → Room s c
room s c e =
    let a = and_parts (leb c.trees s.trees) (leb c.children s.children && leb c.bytes s.bytes) e in
    let b = and_parts (leb c.children s.children) (leb c.bytes s.bytes) a.1 in
    record { trees = a.0; children = b.0; bytes = b.1 }

holds_more : (s c x : Space) → Room s c → holds (plus s x) c ≡ true
holds_more s c x h =
    and_from (leb c.trees (s.trees + x.trees)) (leb c.children (s.children + x.children) && leb c.bytes (s.bytes + x.bytes)) (leb_more c.trees s.trees x.trees h.trees)
    (and_from (leb c.children (s.children + x.children)) (leb c.bytes (s.bytes + x.bytes)) (leb_more c.children s.children x.children h.children) (leb_more c.bytes s.bytes x.bytes h.bytes))

less_more : (s c x : Space) → Room s c → less (plus s x) c ≡ plus (less s c) x
less_more s c x h =
    let a = leb-true c.trees s.trees h.trees in
    let b = leb-true c.children s.children h.children in
    let d = leb-true c.bytes s.bytes h.bytes in
    let p : s.trees + x.trees - c.trees ≡ s.trees - c.trees + x.trees = omega arith in
    let q : s.children + x.children - c.children ≡ s.children - c.children + x.children = omega arith in
    let r : s.bytes + x.bytes - c.bytes ≡ s.bytes - c.bytes + x.bytes = omega arith in
    cc

make_alike : (x : Space) (l : ℕ) (i : Item) (m : Meaning) → MadeAlike x (make l (Some i) m) (make l (Some i) (wider x m))
make_alike x l i m = go (holds m.space (cost i)) refl
  where
    go : (b : Bool) → holds m.space (cost i) ≡ b → MadeAlike x (make_if b l i m) (make_if (holds (plus m.space x) (cost i)) l i (wider x m))
    go true e =
        let h = room m.space (cost i) e in
        rw (holds_more m.space (cost i) x h) (grown_alike m (less_more m.space (cost i) x h))
      where
        grown_alike : (m : Meaning) → less (plus m.space x) (cost i) ≡ plus (less m.space (cost i)) x → MadeAlike x (make_if true l i m) (make_if true l i (wider x m))
        grown_alike m e = rw e made_both
    go false e = refused

-- RUNS

module _ (n : ℕ) (x : Space) where
  pay_alike : (k r : ℕ) (s : State) (c : State → End) → ((s : State) → Alike n x (c s) (c (richer n x s))) → Alike n x (pay k r s c) (pay k r (richer n x s) c)
  unfolding pay
  pay_alike k r s c h = go (leb k s.fuel) refl
    where
      go : (b : Bool) → leb k s.fuel ≡ b → Alike n x (pay_if b k r s c) (pay_if (leb k (s.fuel + n)) k r (richer n x s) c)
      go true e =
          let l = leb-true k s.fuel e in
          let m : s.fuel + n - k ≡ s.fuel - k + n = omega arith in
          rw (leb_more k s.fuel n e, m) (h (record { fuel = s.fuel - k; store = s.store }))
      go false e = lacked_fuel

  made_alike : (r : ℕ) (f : Forest) (m : ℕ) {a b : Result ℕ Fault × Meaning} → MadeAlike x a b → Alike n x (made_as r f m a) (made_as r f (m + n) b)
  made_alike r f m (made_both {m = z}) = pay_alike (size f) r (record { fuel = m; store = z }) (gives f) (λ s. gave)
  made_alike r f m refused = lacked_space

  next_alike : {o q : End} (k m : Forest → State → End) → Alike n x o q → ((f : Forest) (s t : State) → t ≡ richer n x s → Alike n x (k f s) (m f t)) → Alike n x (then o k) (then q m)
  next_alike k m (gave {f} {s}) h = h f s (richer n x s) refl
  next_alike k m stopped h = stopped
  next_alike k m lacked_fuel h = lacked_fuel
  next_alike k m lacked_space h = lacked_space

  alike_keeps : (l : ℕ) → Keeps l (λ s t. t ≡ richer n x s) (Alike n x)
  alike_keeps l = record {
    given = λ f e. rw e gave;
    stopped = λ w r i e. rw e stopped;
    paid = λ {s} r f e. rw e (pay_alike (size f) r s (gives f) (λ s. gave));
    made = λ {s} r i e. rw e (made_alike r (before i none) s.fuel (make_alike x l i s.store));
    next = next_alike;
  }

  alike_to : (d l : ℕ) (g : ProgramRows) (r : ℕ) (env : List Forest) (s t : State) → t ≡ richer n x s → Alike n x (run_to d l g r env s) (run_to d l g r env t)
  alike_to zero l g r env s t e = lacked_fuel
  alike_to (suc d) l g r env s t e =
      rw e (pay_alike 1 r s (run_row l g (run_to d l g) r (expression_at g r) env)
      (λ s. row_keeps (alike_keeps l) g (run_to d l g) (run_to d l g) (alike_to d l g) r (expression_at g r) env s (richer n x s) refl))

pub runs_alike : RunsAlike
runs_alike n x l g r env s =
    rw (← deep_enough l g r env s (s.fuel + n) (omega arith), ← deep_enough l g r env (richer n x s) (s.fuel + n) (omega arith))
    (alike_to n x (s.fuel + n) l g r env s (richer n x s) refl)
