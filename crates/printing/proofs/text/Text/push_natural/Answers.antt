use Rattle.std.proofs.Common.{sym, arith, subst}
use Rattle.std.proofs.lemmas.Fmt.{decimal_digit}
use Rattle.printing.specs.Writing.{Adds}
use Rattle.printing.proofs.text.Text.push_natural.Goals as goal

pub returns-then-number-lt10 : goal.returns-then-number-lt10
returns-then-number-lt10 c = subst (λ bs. Adds c.push.result c.args.self.now c.push.new.self bs) (sym (decimal_digit c.args.number (omega arith))) c.push.ensures
