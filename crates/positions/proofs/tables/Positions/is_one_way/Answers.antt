use Rattle.std.proofs.Common.{T, sym, ◌∙◌, subst}
use Rattle.std.proofs.lemmas.Bool.{both_ways, le-ltb}
use Rattle.positions.proofs.OneWay.{one_way_of, items_of}
use Rattle.positions.proofs.tables.Positions.is_one_way.Goals as goal
use Rattle.positions.proofs.tables.Positions.is_one_way.Goals.{then-root-self, else-root-self}

pub returns-then-is_clear : goal.returns-then-is_clear
returns-then-is_clear c b x =
    let p = c.args.self.now in
    let r = c.args.root in
    elim c.if-root-self.branch [
      | then-root-self w ↦ (
        λ t. one_way_of p b r x (w.is_clear.ensures.0 (subst T (sym (sym w.value-is ∙ c.if-is_clear.true)) tt)) (c.items_clear.ensures.0 t),
        λ d. c.items_clear.ensures.1 (items_of p b r d),
      )
      | else-root-self w ↦ absurd (both_ways _ (w.value-is ∙ le-ltb _ _ w.if-root-self.false) c.if-is_clear.true)
    ]
