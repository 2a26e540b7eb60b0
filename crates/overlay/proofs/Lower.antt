-- Reading below an overlay's base.
use Rattle.std.proofs.Common.{◌≡◌, ℕ, ◌<◌, List, [], map, length, get_or, Some, vec_items, option_map, sym, ap, ◌∙◌, arith}
use Rattle.std.proofs.lemmas.List.{get_or-map}
use Rattle.std.proofs.lemmas.Option.{slice_get-get_or, slice_get-map}
use Rattle.forest.specs.Forests.{Item}
use Rattle.forest.specs.Stores.{nothing, Child, item_children, item_kind, kind_at}
use Rattle.arena.specs.declared.arena.Arena.{Arena}
use Rattle.arena.specs.Arenas.{trees_over}
use Rattle.arena.proofs.Builds.{length-built, built-before}

-- what is read below the base is read of the trees below
pub reads_below : {X : Type 0} (f : Item → X) (d : X) (a : Arena) (ts : List Item) (h : ℕ) → h < length ts → get_or (map f (trees_over ts a)) h d ≡ get_or (map f ts) h d
reads_below f d a ts h lt =
    let us = trees_over ts a in
    let long = length-built ts (vec_items a.children) (vec_items a.text) (vec_items a.rows) in
    get_or-map f us h nothing d (omega arith) ∙ ap f (built-before ts _ _ _ h nothing lt) ∙ sym (get_or-map f ts h nothing d lt)

pub child_below : (a : Arena) (ts : List Item) (h j r : ℕ) → h < length ts → Child ts h j r → Child (trees_over ts a) h j r
child_below a ts h j r lt k =
    let us = trees_over ts a in
    let same = reads_below item_children [] a ts h lt in
    let n = ap length same in
    let long = length-built ts (vec_items a.children) (vec_items a.text) (vec_items a.rows) in
    record {
      there = λ l. let x = k.there (omega arith) in omega arith;
      tree = λ d l. built-before ts _ _ _ r d (k.there (omega arith)) ∙ k.tree d (omega arith) ∙ ap (λ is. get_or is j d) (sym same);
      absent = λ le. k.absent (omega arith);
    }

pub kind_below : (a : Arena) (ts : List Item) (h : ℕ) → h < length ts → kind_at (trees_over ts a) h ≡ kind_at ts h
kind_below a ts h lt =
    let long = length-built ts (vec_items a.children) (vec_items a.text) (vec_items a.rows) in
    slice_get-map item_kind (trees_over ts a) h ∙ ap (option_map item_kind) (slice_get-get_or (trees_over ts a) h nothing (omega arith) ∙ ap Some (built-before ts _ _ _ h nothing lt) ∙ sym (slice_get-get_or ts h nothing lt)) ∙ sym (slice_get-map item_kind ts h)

-- what is read below is read of the store below
pub ruleset below = (reads_below, kind_below, child_below)
