-- A text that fits a buffer fits a longer one, and reads the same.
use Rattle.std.proofs.Common.{◌≡◌, ℕ, ◌≤◌, Bool, true, false, cond, ltb, List, ◌++◌, length, drop, replicate, Ok, sym, refl, ap, ◌∙◌, subst, arith, ltb-false, le-ltb}
use lib.ListN.{length-replicate}
use Rattle.std.proofs.lemmas.List.{take_at}
use Rattle.forest.specs.declared.fault.Reason.TheVariants.{BufferShort, NestedTooDeep, NoSuchHandle}
use Rattle.forest.specs.Faults.{faulted}
use Rattle.forest.specs.Forests.{Item, Forest, forest, depth}
use Rattle.forest.specs.Stores.{Meaning, picked, all_below}
use Rattle.printing.specs.Outcomes.{printing, placed, placed_forest, refused as refusal}
use Rattle.printing.specs.Printed.{printed}
use Rattle.answers.specs.Answers.{Said, done, text, refused, check_refused, malformed, unsupported}
use Rattle.script.specs.Calls.{print}
use Rattle.probe.specs.Performing.{printed_as, NotShort, Performs}

-- what a placed text says, in a buffer of n places
fits : (t b : List ℕ) → ltb (length b) (length t) ≡ false → printed_as (placed t b) ≡ text t
fits t b is = ap (λ c. printed_as (cond c (refusal BufferShort b) (record { answer = Ok (length t); buffer = t ++ drop (length t) b }))) is ∙ ap text (take_at t (drop (length t) b) (length t) refl)

short : (t b : List ℕ) → ltb (length b) (length t) ≡ true → printed_as (placed t b) ≡ refused (faulted BufferShort 3 0)
short t b is = ap (λ c. printed_as (cond c (refusal BufferShort b) (record { answer = Ok (length t); buffer = t ++ drop (length t) b }))) is

placed-wider : (c : Bool) (t : List ℕ) (n k : ℕ) → ltb n (length t) ≡ c → n ≤ k → NotShort (printed_as (placed t (replicate n 0))) → printed_as (placed t (replicate n 0)) ≡ printed_as (placed t (replicate k 0))
placed-wider false t n k e le not =
    let a : ltb (length (replicate {A = ℕ} n 0)) (length t) ≡ false = ap (λ m. ltb m (length t)) (length-replicate n 0) ∙ e in
    let small = ltb-false n (length t) e in
    let b : ltb (length (replicate {A = ℕ} k 0)) (length t) ≡ false = ap (λ m. ltb m (length t)) (length-replicate k 0) ∙ le-ltb k (length t) (omega arith) in
    fits t (replicate n 0) a ∙ sym (fits t (replicate k 0) b)
placed-wider true t n k e le not =
    let a : ltb (length (replicate {A = ℕ} n 0)) (length t) ≡ true = ap (λ m. ltb m (length t)) (length-replicate n 0) ∙ e in
    absurd (subst (λ (s : Said). NotShort s) (short t (replicate n 0) a) not refl)

nested_wider : (c : Bool) (f : Forest) (n k : ℕ) → n ≤ k → NotShort (printed_as (cond c (refusal NestedTooDeep (replicate n 0)) (placed (printed f) (replicate n 0)))) → printed_as (cond c (refusal NestedTooDeep (replicate n 0)) (placed (printed f) (replicate n 0))) ≡ printed_as (cond c (refusal NestedTooDeep (replicate k 0)) (placed (printed f) (replicate k 0)))
nested_wider true f n k le not = refl
nested_wider false f n k le not = placed-wider (ltb n (length (printed f))) (printed f) n k refl le not

there-wider : (c : Bool) (f : Forest) (n k : ℕ) → n ≤ k → NotShort (printed_as (cond c (placed_forest f (replicate n 0)) (refusal NoSuchHandle (replicate n 0)))) → printed_as (cond c (placed_forest f (replicate n 0)) (refusal NoSuchHandle (replicate n 0))) ≡ printed_as (cond c (placed_forest f (replicate k 0)) (refusal NoSuchHandle (replicate k 0)))
there-wider true f n k le not = nested_wider (ltb 64 (depth f)) f n k le not
there-wider false f n k le not = refl

printing-wider : (ts : List Item) (hs : List ℕ) (n k : ℕ) → n ≤ k → NotShort (printed_as (printing ts hs (replicate n 0))) → printed_as (printing ts hs (replicate n 0)) ≡ printed_as (printing ts hs (replicate k 0))
printing-wider ts hs n k le not = there-wider (all_below (length ts) hs) (forest (picked ts hs)) n k le not

same : (m : Meaning) (hs : List ℕ) (n k : ℕ) (s : Said) → n ≤ k → NotShort s → ◌≡◌ {A = Said × Meaning} (s, m) (printed_as (printing m.trees hs (replicate n 0)), m) → ◌≡◌ {A = Said × Meaning} (s, m) (printed_as (printing m.trees hs (replicate k 0)), m)
same m hs n k s le not e =
    let is = ap (λ p. p.0) e in
    e ∙ ap (λ q. (q, m)) (printing-wider m.trees hs n k le (subst (λ (q : Said). NotShort q) is not))

pub wider : (l : ℕ) (m : Meaning) (hs : List ℕ) (n k : ℕ) (s : Said) → n ≤ k → NotShort s → Performs l (print n hs) m s m → Performs l (print k hs) m s m
wider l m hs n k (done ns) le not p = same m hs n k _ le not p
wider l m hs n k (text bs) le not p = same m hs n k _ le not p
wider l m hs n k (refused f) le not p = same m hs n k _ le not p
wider l m hs n k (check_refused f function) le not p = p
wider l m hs n k malformed le not p = p
wider l m hs n k unsupported le not p = p
