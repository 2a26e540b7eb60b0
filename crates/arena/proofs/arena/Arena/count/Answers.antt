use Rattle.std.proofs.Common.{vec_items, arith}
use Rattle.arena.proofs.Builds.{length-built, built-lawful}
use Rattle.arena.proofs.arena.Arena.count.Goals as goal

pub returns-clause-value : goal.returns-clause-value
returns-clause-value c =
    let a = c.args.self.now in
    λ ts e. omega (arith, length-built ts (vec_items a.children) (vec_items a.text) (vec_items a.rows), a.rows.ok.0, c.len.ensures)

pub returns-clause-sound : goal.returns-clause-sound
returns-clause-sound c =
    let a = c.args.self.now in
    λ ts e l.
    record {
      few = omega (arith, length-built ts (vec_items a.children) (vec_items a.text) (vec_items a.rows), a.rows.ok.0);
      legal = built-lawful a.base ts (vec_items a.children) (vec_items a.text) (vec_items a.rows) l a.bytes a.good;
    }
