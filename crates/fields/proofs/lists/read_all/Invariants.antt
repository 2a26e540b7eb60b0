use Rattle.std.proofs.Common.{◌≡◌, drop, vec_items}
use Rattle.fields.specs.Lists.{each, texts}
use Rattle.fields.proofs.Pairs.{onto}
use Rattle.fields.proofs.lists.read_all.Given as goal

abbrev pub invariant-loop-word : goal.invariant-loop-word
invariant-loop-word g l =
    let meaning = g.T.Field.meaning in
    onto (vec_items l.values) (each meaning (texts (drop l.word-index l.words))) ≡ each meaning (texts l.words)
