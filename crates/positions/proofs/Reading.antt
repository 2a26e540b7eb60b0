-- What the tables of positions say of places.
use Rattle.std.proofs.Common.{◌≡◌, ℕ, ◌+◌, ◌<◌, true, List, sym, refl, ◌∙◌, inl, inr, arith}
use Rattle.std.proofs.lemmas.Bool.{false≢true}
use Rattle.rows.specs.declared.type_row.TypeRow.{TypeRow}
use Rattle.types.specs.Parts.{Lawful, Within, itself, part}
use Rattle.types.specs.Places.{Place, start, behind, FollowsIn, Next, next_first, next_follow, Inhabited, Useful, useful}
use Rattle.types.proofs.Exact.{known, shown}
pub use Rattle.types.proofs.Inside.{item-there, within_low, last_within, line, one-root}
use Rattle.types.proofs.Inside.{meets-from, meets-to, first-within}
use Rattle.types.proofs.Contexts.{within-left}
use Rattle.positions.specs.declared.moves.Moves.{Moves}
use Rattle.bits.specs.Bits.{related}
use Rattle.positions.specs.Below.{flag, MeetsBelow, FreeBelow}
use Rattle.positions.specs.Tables.{MovesBelow}

-- THE TABLES OF MOVES

-- the number of a place of the type c in a table of moves
pub data At (ts : List TypeRow) (c : ℕ) : Place → ℕ → Type 0 where
  at_start : At ts c (start c) c
  at_item : {x : ℕ} → Within ts c x → At ts c (behind c x) (512 + x)

module _ {ts : List TypeRow} (law : Lawful ts) {end : ℕ} {m : Moves} (below : MovesBelow ts end m) {c : ℕ} (low-c : c < end) (small : c < 512) (free : FreeBelow ts end c) where
  -- meeting below `end`, and within c
  meets-within : {x n : ℕ} → Within ts c x → MeetsBelow ts end x n → FollowsIn ts c x n
  meets-within {x} {n} w (s, (lt, h)) = elim (line law w (meets-from law h)) [ inl v ↦ (s, (v, h)) | inr v ↦ (s, (top v, h)) ]
    where
      top : Within ts s c → Within ts c s
      top (itself e) = itself (sym e)
      top (part {s = q} v o) = let k = within_low law v in absurd (false≢true (sym (free q (omega arith)) ∙ o))

  within-meets : {x n : ℕ} → FollowsIn ts c x n → MeetsBelow ts end x n
  within-meets (s, (w, h)) = let k = within_low law w in (s, (omega arith, h))

  pub next-within : {p : Place} {at n : ℕ} → At ts c p at → Next ts p n → Within ts c n
  next-within at_start (next_first f) = first-within law (itself refl) f
  next-within (at_item w) (next_follow f) = meets-to law f.1.0 f.1.1

  pub next_small : {p : Place} {at n : ℕ} → At ts c p at → Next ts p n → n < 512
  next_small t x = let k = within_low law (next-within t x) in omega arith

  pub read_next : {p : Place} {at n : ℕ} → At ts c p at → n < 512 → related m.next.words at n ≡ true → Next ts p n
  read_next {n = n} at_start lt e = next_first (known (below.firsts c n small lt) e)
  read_next {n = n} (at_item {x} w) lt e = let k = within_low law w in next_follow (meets-within w (known (below.follows x n (omega arith) lt) e))

  pub next-read : {p : Place} {at n : ℕ} → At ts c p at → Next ts p n → related m.next.words at n ≡ true
  next-read {n = n} at_start (next_first f) = shown (below.firsts c n small (next_small at_start (next_first f))) f
  next-read {n = n} (at_item {x} w) (next_follow f) = let k = within_low law w in shown (below.follows x n (omega arith) (next_small (at_item w) (next_follow f))) (within-meets f)

  pub read_useful : {n : ℕ} → Within ts c n → Inhabited ts n → flag m.live.marks n ≡ true → Useful ts c n
  read_useful {n} w i e = let k = within-left law w in useful i k.1 (known (below.live c n k.0 low-c free k.1) e)

  pub useful-live : {n : ℕ} → Useful ts c n → flag m.live.marks n ≡ true
  useful-live {n} (useful {k} i h a) = shown (below.live c n k low-c free h) a

pub useful-alive : {ts : List TypeRow} {c n : ℕ} → Useful ts c n → Inhabited ts n
useful-alive (useful i h a) = i
