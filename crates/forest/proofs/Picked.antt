-- The trees that handles name.
use Rattle.std.proofs.Common.{◌≡◌, ℕ, zero, suc, ◌<◌, ◌≤◌, true, ltb, List, [], ◌∷◌, length, get_or, refl, ap, ◌∙◌, le_of_suc-le-suc, not-suc-le-zero, arith, ltb-true, lt-ltb}
use Rattle.std.proofs.lemmas.Bool.{and_from, and_parts}
use Rattle.forest.specs.Forests.{Item}
use Rattle.forest.specs.Stores.{nothing, picked, all_below}

pub length-picked : (ts : List Item) (hs : List ℕ) → length (picked ts hs) ≡ length hs
length-picked ts [] = refl
length-picked ts (h ∷ hs) = ap suc (length-picked ts hs)

pub get_or-picked : (ts : List Item) (hs : List ℕ) (j : ℕ) (d : Item) → j < length hs → get_or (picked ts hs) j d ≡ get_or ts (get_or hs j 0) nothing
get_or-picked ts [] j d lt = absurd (not-suc-le-zero lt)
get_or-picked ts (h ∷ hs) zero d lt = refl
get_or-picked ts (h ∷ hs) (suc j) d lt = get_or-picked ts hs j d (le_of_suc-le-suc lt)

pub below_at : (n : ℕ) (hs : List ℕ) (j : ℕ) → all_below n hs ≡ true → j < length hs → get_or hs j 0 < n
below_at n [] j e lt = absurd (not-suc-le-zero lt)
below_at n (h ∷ hs) zero e lt = ltb-true h n (and_parts (ltb h n) (all_below n hs) e).0
below_at n (h ∷ hs) (suc j) e lt = below_at n hs j (and_parts (ltb h n) (all_below n hs) e).1 (le_of_suc-le-suc lt)

pub below_mono : (m n : ℕ) (hs : List ℕ) → m ≤ n → all_below m hs ≡ true → all_below n hs ≡ true
below_mono m n [] le e = refl
below_mono m n (h ∷ hs) le e =
    let p = and_parts (ltb h m) (all_below m hs) e in
    let lt = ltb-true h m p.0 in
    and_from _ _ (lt-ltb h n (omega arith)) (below_mono m n hs le p.1)

-- lists that agree below n pick alike
pub picked_same : (n : ℕ) (ts us : List Item) (hs : List ℕ) → ((h : ℕ) → h < n → get_or ts h nothing ≡ get_or us h nothing) → all_below n hs ≡ true → picked ts hs ≡ picked us hs
picked_same n ts us [] same e = refl
picked_same n ts us (h ∷ hs) same e =
    let p = and_parts (ltb h n) (all_below n hs) e in
    ap (λ i. i ∷ picked ts hs) (same h (ltb-true h n p.0)) ∙ ap (λ is. get_or us h nothing ∷ is) (picked_same n ts us hs same p.1)
