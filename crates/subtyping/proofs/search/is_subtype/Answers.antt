use Rattle.subtyping.proofs.Meaning.{verdict_exact}
use Rattle.subtyping.proofs.search.is_subtype.Goals as goal

pub returns : goal.returns
returns c = λ built low root declared checked less.
    verdict_exact c.args.positions.now c.up_to-local.result c.args.row built (c.up_to-local.ensures built low) low
    c.args.root declared checked less root c.passes.ensures
