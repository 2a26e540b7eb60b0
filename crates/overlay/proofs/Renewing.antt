-- An overlay whose allowances are renewed.
use Rattle.std.proofs.Common.{◌≡◌, ◌≤◌, min, List, length, vec_items, ap, ◌∙◌, arith}
use Rattle.forest.specs.Forests.{Item}
use Rattle.forest.specs.declared.space.Space.{Space}
use Rattle.arena.specs.declared.arena.Arena.{Arena}
use Rattle.arena.specs.Arenas.{means_over, trees_over}
use Rattle.arena.specs.Renewal.{Renewed}
use Rattle.arena.proofs.Builds.{length-built}
use Rattle.overlay.specs.Overlays.{opened}

same_space : (x y : Space) → x.trees ≡ y.trees → x.children ≡ y.children → x.bytes ≡ y.bytes → x ≡ y
same_space x y t c b = ap (λ n. record { trees = n; children = x.children; bytes = x.bytes }) t ∙ ap (λ n. record { trees = y.trees; children = n; bytes = x.bytes }) c ∙ ap (λ n. record { trees = y.trees; children = y.children; bytes = n }) b

pub renewed-is : (ts : List Item) (a b : Arena) (s cut : Space) → a.base ≡ length ts → Renewed a cut b → cut ≡ record { trees = min s.trees 2048; children = min s.children 4096; bytes = min s.bytes 4096 } → cut.children ≤ b.space.children → cut.bytes ≤ b.space.bytes → means_over ts b ≡ record { trees = trees_over ts a; space = opened (length (trees_over ts a)) s }
renewed-is ts a b s cut fits r is children bytes =
    let long = length-built ts (vec_items a.children) (vec_items a.text) (vec_items a.rows) in
    let t = ap (λ x. x.trees) r.space in
    let c = ap (λ x. x.children) r.space in
    let e = ap (λ x. x.bytes) r.space in
    let ct = ap (λ x. x.trees) is in
    let cc' = ap (λ x. x.children) is in
    let ce = ap (λ x. x.bytes) is in
    let space = same_space b.space (opened (length (trees_over ts a)) s) (omega arith) (omega arith) (omega arith) in
    ap (λ us. record { trees = us; space = b.space }) (r.trees ts) ∙ ap (λ x. record { trees = trees_over ts a; space = x }) space
