-- The search for a difference between two types: over pairs of places, by the tables of positions.
use Rattle.std.specs.Prelude.{◌≡◌, ℕ, ◌+◌, ◌*◌, ◌/◌, ◌%◌, ◌<◌, Bool, true, false, cond, Some, None, Option, nat_lt}
use Rattle.types.specs.Parts.{row, content}
use Rattle.types.specs.Places.{covers}
use Rattle.positions.specs.declared.tables.Positions.{Positions}
use Rattle.positions.specs.declared.moves.Moves.{Moves}
use Rattle.bits.specs.Bits.{related}
use Rattle.positions.specs.Below.{flag}
use Rattle.positions.specs.Built.{types_of, top, ends_at}
use Rattle.subtyping.specs.declared.pairs.Pairs.{Pairs}
use Rattle.subtyping.specs.Worklist.{pair, Visited, Grown}

-- PLACES BY NUMBER
-- A place in a whole type has the number of its row at the start, and 512 more than the item behind it.
-- A place within the row asked about has 1,024 more. A pair of places has the number of the left one and the row of the right one, which stands alike.

-- the place behind the item n
abbrev pub behind_item : ℕ → ℕ → ℕ
behind_item left n = left / 1024 * 1024 + (512 + n)

abbrev pub moves_at : Positions → Moves → ℕ → Moves
moves_at p l left = cond (nat_lt left 1024) p.whole l

-- the place on the right
abbrev pub right_place : ℕ → ℕ → ℕ
right_place left right = cond (nat_lt (left % 1024) 512) right (512 + right)

abbrev pub ends_left : Positions → ℕ → ℕ → Bool
ends_left p a left = ends_at p (cond (nat_lt left 1024) (top p (left % 512)) a) (left % 1024)

abbrev pub ends_right : Positions → ℕ → ℕ → Bool
ends_right p left right = ends_at p (top p right) (right_place left right)

-- where the forest may end on the left it may on the right
abbrev pub ends_alike : Positions → ℕ → ℕ → ℕ → Bool
ends_alike p a left right = cond (ends_left p a left) (ends_right p left right) true

-- STEPS

-- the item n may come next at a place, and can occur
pub record Goes (p : Positions) (m : Moves) (place n : ℕ) : Type 0 where
  pub inside : n < 512
  pub next : related m.next.words place n ≡ true
  pub live : flag m.live.marks n ≡ true
  pub alive : flag p.alive.marks n ≡ true

-- the item m may come next at a place of whole types, and covers n
pub record Answers (p : Positions) (place n m : ℕ) : Type 0 where
  pub inside : m < 512
  pub next : related p.whole.next.words place m ≡ true
  pub cover : covers (row (types_of p) n) (row (types_of p) m) ≡ true

-- the pairs that two items lead to
pub data Leads (p : Positions) (left n m : ℕ) (x : ℕ) : Type 0 where
  on : x ≡ pair (behind_item left n) m → Leads p left n m x
  into : {c d : ℕ} → content (row (types_of p) n) ≡ Some c → content (row (types_of p) m) ≡ Some d → x ≡ pair c d → Leads p left n m x

-- the pairs that a pair leads to, by items below `end`
pub data Steps (p : Positions) (moves : Moves) (left right end : ℕ) (x : ℕ) : Type 0 where
  step : {n m : ℕ} → n < end → Goes p moves (left % 1024) n → Answers p (right_place left right) n m → Leads p left n m x → Steps p moves left right end x

-- n is answered, and the pairs that this leads to are in V
pub record Answered (p : Positions) (V : ℕ → Type 0) (left right n : ℕ) : Type 0 where
  pub by : ℕ
  pub answers : Answers p (right_place left right) n by
  pub leads : (x : ℕ) → Leads p left n by x → V x

-- every item below `end` that goes is answered
abbrev pub AllAnswered : Positions → Moves → (ℕ → Type 0) → ℕ → ℕ → ℕ → Type 0
AllAnswered p moves V left right end = (n : ℕ) → n < end → Goes p moves (left % 1024) n → Answered p V left right n

-- some item that goes has no answer
abbrev pub Unanswered : Positions → Moves → ℕ → ℕ → Type 0
Unanswered p moves left right = (n : ℕ) × (Goes p moves (left % 1024) n × ((m : ℕ) → Answers p (right_place left right) n m → ⊥))

pub record Passes (p : Positions) (l : Moves) (a : ℕ) (V : ℕ → Type 0) (left right : ℕ) : Type 0 where
  pub ends : ends_alike p a left right ≡ true
  pub steps : AllAnswered p (moves_at p l left) V left right 512

-- where the search fails
pub data Fails (p : Positions) (l : Moves) (a left right : ℕ) : Type 0 where
  no_end : ends_alike p a left right ≡ false → Fails p l a left right
  no_answer : Unanswered p (moves_at p l left) left right → Fails p l a left right

-- the pairs that the search comes to
pub data Reached (p : Positions) (l : Moves) (a b : ℕ) : ℕ → Type 0 where
  first : {x : ℕ} → x ≡ pair (1024 + a) b → Reached p l a b x
  more : {x y : ℕ} → Reached p l a b x → Steps p (moves_at p l (x / 512)) (x / 512) (x % 512) 512 y → Reached p l a b y

-- The search ends with a set of pairs that all pass, or at a pair that fails.
pub data Verdict (p : Positions) (l : Moves) (a b : ℕ) : Bool → Type 0 where
  alike : (q : Pairs) → Visited q (pair (1024 + a) b) → ((x : ℕ) → Visited q x → Passes p l a (Visited q) (x / 512) (x % 512)) → Verdict p l a b true
  unlike : {x : ℕ} → Reached p l a b x → Fails p l a (x / 512) (x % 512) → Verdict p l a b false

-- WHAT THE PARTS OF THE SEARCH GIVE

-- the content of a row is below 512
abbrev pub Small : Option ℕ → Type 0
Small None = Unit {0}
Small (Some c) = c < 512

-- each item that goes at one pair is answered, and what that leads to is put; or one is not
pub data Expanded (p : Positions) (moves : Moves) (left right : ℕ) (old q : Pairs) : Bool → Type 0 where
  all_answered : Grown old q (Steps p moves left right 512) → AllAnswered p moves (Visited q) left right 512 → Expanded p moves left right old q true
  one_unanswered : Unanswered p moves left right → Expanded p moves left right old q false

-- one pair passes, and what it leads to is put; or it fails
pub data Looked (p : Positions) (l : Moves) (a left right : ℕ) (old q : Pairs) : Bool → Type 0 where
  passed : Grown old q (Steps p (moves_at p l left) left right 512) → Passes p l a (Visited q) left right → Looked p l a left right old q true
  failed : Fails p l a left right → Looked p l a left right old q false
