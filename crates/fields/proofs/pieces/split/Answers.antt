use Rattle.std.proofs.Common.{rules, tests}
use Rattle.std.proofs.lemmas.Iterator.Consumers.{map_from_collect}
use Rattle.fields.proofs.Cuts.{YieldsList-pieces}
use Rattle.fields.proofs.pieces.split.Goals as goal

pub returns : goal.returns
returns c = map_from_collect _ c.collect.ensures.ran (YieldsList-pieces c.args.separator _ c.args.bytes.now (search rules) (search rules) (λ x r q k. search (rules, tests)))
