-- The space that an overlay opens with.
use Rattle.std.specs.Prelude.{ℕ, ◌-◌, min}
use Rattle.forest.specs.declared.space.Space.{Space}

-- as far as an overlay may have them
abbrev pub cut : Space → Space
cut s = record { trees = min s.trees 2048; children = min s.children 4096; bytes = min s.bytes 4096 }

-- The allowances asked for, cut to 2,048 trees, 4,096 children and 4,096 bytes, the trees also to what a million leaves above n.
abbrev pub opened : ℕ → Space → Space
opened n s = record { trees = min (min s.trees 2048) (1000000 - n); children = min s.children 4096; bytes = min s.bytes 4096 }
