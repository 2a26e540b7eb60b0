use Rattle.positions.proofs.tables.Positions.up_to.Goals as goal

pub returns : goal.returns
returns c built here = c.moves_below.ensures built.nullable built.alive built.lasts
