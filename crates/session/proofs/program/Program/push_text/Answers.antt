use Rattle.std.proofs.Common.{◌≡◌, ℕ, true, List, ◌++◌, Ok, Err, Result, OnOk, OnErr, ap, ◌∙◌, rules, length, arith}
use Rattle.forest.specs.Forests.{bytes_lawful}
use Rattle.forest.proofs.Legal.{bytes_append, bytes_fit}
use Rattle.session.proofs.Laws.{expressions-more}
use Rattle.session.proofs.program.Program.push_text.Goals as goal

pub invariant_of-self-clause-expressions_known : goal.invariant_of-self-clause-expressions_known
invariant_of-self-clause-expressions_known c =
    let p = c.args.self.now in
    let m = length p.arms.items in
    expressions-more 0 m (length p.text.items) m (length c.try_extend_from_slice.new.self.items) p.expressions.items (omega arith) (search rules) p.expressions_known

-- bytes with bytes behind them, or as they were
still-bytes : {U E : Type 0} (r : Result U E) (old new more : List ℕ) → OnOk r (new ≡ old ++ more) → OnErr r (new ≡ old) → bytes_lawful old ≡ true → bytes_lawful more ≡ true → bytes_lawful new ≡ true
still-bytes (Ok u) old new more longer same a b = ap bytes_lawful longer ∙ bytes_append old more a b
still-bytes (Err e) old new more longer same a b = ap bytes_lawful same ∙ a

on_err : {U E : Type 0} {P Q : Type 0} (r : Result U E) → (P → Q) → OnErr r P → OnErr r Q
on_err (Ok u) f x = tt
on_err (Err e) f x = f x

pub invariant_of-self-clause-text_bytes : goal.invariant_of-self-clause-text_bytes
invariant_of-self-clause-text_bytes c =
    let p = c.args.self.now in
    let legal : bytes_lawful c.args.text.now ≡ true = search (rules, bytes_fit) in
    still-bytes c.try_extend_from_slice.result p.text.items c.try_extend_from_slice.new.self.items c.args.text.now c.try_extend_from_slice.ensures.ok (on_err c.try_extend_from_slice.result (ap (λ v. v.items)) c.try_extend_from_slice.ensures.err) p.text_bytes legal
