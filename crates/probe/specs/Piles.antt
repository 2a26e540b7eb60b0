-- What a pile of overlays over a store means, and its layer.
use Rattle.std.specs.Prelude.{ℕ}
use Rattle.forest.specs.Stores.{Meaning}
use Rattle.forest.specs.declared.store.Store.{Ghosts}
use Rattle.arena.specs.Arenas.{means_over}
use Rattle.probe.specs.declared.pile.Pile.{Pile}
use Rattle.probe.specs.declared.pile.Pile.TheVariants.{Bare, Covered}

-- an overlay's meaning, by that of the store below
abbrev pub pile_meaning : {S : Type 0} {g : Ghosts S} → (S → Meaning) → Pile S g → Meaning
pile_meaning m (Bare s) = m s
pile_meaning m (Covered t n) = means_over (m t.below).trees t.own

-- how many overlays stand one over the other
abbrev pub pile_height : {S : Type 0} {g : Ghosts S} → Pile S g → ℕ
pile_height (Bare s) = 0
pile_height (Covered t n) = n

-- the layer that a pile names: the store's own, or that of the overlay on top
abbrev pub pile_layer : {S : Type 0} {g : Ghosts S} → ℕ → Pile S g → ℕ
pile_layer l (Bare s) = l
pile_layer l (Covered t n) = 6
