use Rattle.std.proofs.Common.{◌≡◌, ℕ, ◌<◌, length, Some, None, rules, arith}
use borrow.Author.Tests.{tests}
use Rattle.std.specs.List.{AllWithin, HoldsAt}
use Rattle.std.proofs.lemmas.Iterator.{YieldsList-from_slice, IsFirst-from_position}
use Rattle.rows.specs.declared.function.Function.{Function}
use Rattle.session.specs.Bodies.{no_function}
use Rattle.session.specs.Tables.{program_rows}
use Rattle.session.proofs.checking.readiness.first_bodiless.Goals as goal

pub returns-in_err-function : goal.returns-in_err-function
returns-in_err-function c =
    let fs = (program_rows c.args.program.now).functions in
    let Has : Function → Type 0 = λ f. (b : ℕ) × (f.body ≡ Some b) in
    let all : AllWithin Has fs 0 (length fs) =
    IsFirst-from_position _ _ _ (λ f. Has f → ⊥) Has c.in_err-function.ensures.ran (YieldsList-from_slice fs cc) (λ x q k. search (rules, tests)) (λ x q k. search (rules, tests)) in
    let none : c.from_residual.result ≡ None = search rules in
    rw none (λ n l. all n no_function (omega arith) l)

pub returns : goal.returns
returns c =
    let fs = (program_rows c.args.program.now).functions in
    let function = c.in_ok-function.function in
    let Has : Function → Type 0 = λ f. (b : ℕ) × (f.body ≡ Some b) in
    let m : (function < length fs) × HoldsAt (λ f. Has f → ⊥) fs function × AllWithin Has fs 0 function =
    IsFirst-from_position _ _ _ (λ f. Has f → ⊥) Has c.in_ok-function.ensures.ran (YieldsList-from_slice fs cc) (λ x q k. search (rules, tests)) (λ x q k. search (rules, tests)) in
    record { there = m.0; fails = m.1 no_function; before = λ n l. m.2 n no_function (omega arith) l }
