use Rattle.std.proofs.Common.{◌≡◌, ◌+◌, true, length, vec_items, sym, refl, ap, ◌∙◌, arith, rules}
use Rattle.arena.specs.Rows.{built, sound, row_sound}
use Rattle.arena.proofs.Builds.{sound-push, built-push, length-built}
use Rattle.arena.proofs.arena.Arena.add.Goals as goal

pub invariant_of-self-clause-good : goal.invariant_of-self-clause-good
invariant_of-self-clause-good c =
    let a = c.args.self.now in
    let es = vec_items a.children in
    let bs = vec_items a.text in
    let good : row_sound (a.base + length (vec_items a.rows)) es bs c.args.row ≡ true = ap (λ n. row_sound (a.base + n) es bs c.args.row) (sym a.rows.ok.0) ∙ c.requires.good in
    ap (sound a.base es bs) c.push_reserved.ensures.items ∙ sound-push a.base es bs (vec_items a.rows) c.args.row a.good good

pub returns : goal.returns
returns c =
    let a = c.args.self.now in
    let es = vec_items a.children in
    let bs = vec_items a.text in
    record {
      base = refl;
      rows = c.push_reserved.ensures.items;
      children = refl;
      text = refl;
      space = search rules;
      handle = λ ts e. omega (arith, length-built ts es bs (vec_items a.rows), a.rows.ok.0, c.len.ensures);
      trees = λ ts e. ap (built ts es bs) c.push_reserved.ensures.items ∙ built-push ts es bs (vec_items a.rows) c.args.row;
    }
