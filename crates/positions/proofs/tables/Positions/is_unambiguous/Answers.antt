use Rattle.std.proofs.Common.{Bool, not, T, sym, ◌∙◌, subst}
use Rattle.std.proofs.lemmas.Bool.{ne_eqb}
use Rattle.positions.proofs.OneWay.{root_of, at_itself}
use Rattle.positions.proofs.tables.Positions.is_unambiguous.Goals as goal

pub returns-then-top-row : goal.returns-then-top-row
returns-then-top-row c b l = (
  λ t r. absurd (c.if-top-row.true (c.top.ensures ∙ at_itself c.args.self.now b c.args.row r)),
  λ h. subst (λ (z : Bool). T (not z)) (sym (ne_eqb _ _ c.if-top-row.true)) tt,
)

pub returns-else-top-row : goal.returns-else-top-row
returns-else-top-row c b l =
    let r = root_of c.args.self.now b c.args.row l (sym c.top.ensures ∙ c.if-top-row.false) in
    (λ t _. (c.is_one_way.ensures b r).0 t, λ h. (c.is_one_way.ensures b r).1 (h r))
