-- Lawful forests, item by item.
use Rattle.std.proofs.Common.{◌≡◌, ℕ, zero, suc, Bool, true, ◌&&◌, ltb, List, [], ◌∷◌, ◌++◌, get_or, take, drop, refl, w8, Fits, lt-ltb}
use Rattle.forest.specs.Forests.{Forest, none, Item, scalar, element, before, forest, lawful, bytes_lawful, scalar_lawful, tag_lawful}
use Rattle.forest.specs.Stores.{nothing, picked}
use Rattle.std.proofs.lemmas.Bool.{and_from, and_parts}

-- one item is lawful
abbrev pub legal : Item → Bool
legal i = lawful (before i none)

and_split : (a b c : Bool) → (a && (b && true)) ≡ true → c ≡ true → (a && (b && c)) ≡ true
and_split a b c e f =
    let p = and_parts a (b && true) e in
    and_from a (b && c) p.0 (and_from b c (and_parts b true p.1).0 f)

pub legal-before : (i : Item) (f : Forest) → legal i ≡ true → lawful f ≡ true → lawful (before i f) ≡ true
legal-before (scalar s) f e l = and_from _ _ (and_parts (scalar_lawful s) true e).0 l
legal-before (element t c) f e l = and_split (tag_lawful t) (lawful c) (lawful f) e l

pub before-legal : (i : Item) (f : Forest) → lawful (before i f) ≡ true → (legal i ≡ true) × (lawful f ≡ true)
before-legal (scalar s) f e = let p = and_parts (scalar_lawful s) (lawful f) e in (and_from _ _ p.0 refl, p.1)
before-legal (element t c) f e =
    let p = and_parts (tag_lawful t) (lawful c && lawful f) e in
    let q = and_parts (lawful c) (lawful f) p.1 in
    (and_from _ _ p.0 (and_from _ _ q.0 refl), q.1)

pub lawful-append : (xs ys : List Item) → lawful (forest xs) ≡ true → lawful (forest ys) ≡ true → lawful (forest (xs ++ ys)) ≡ true
lawful-append [] ys e f = f
lawful-append (x ∷ xs) ys e f =
    let p = before-legal x (forest xs) e in
    legal-before x (forest (xs ++ ys)) p.0 (lawful-append xs ys p.1 f)

pub legal-at : (xs : List Item) (h : ℕ) → lawful (forest xs) ≡ true → legal (get_or xs h nothing) ≡ true
legal-at [] h e = refl
legal-at (x ∷ xs) zero e = (before-legal x (forest xs) e).0
legal-at (x ∷ xs) (suc h) e = legal-at xs h (before-legal x (forest xs) e).1

pub lawful-picked : (ts : List Item) (hs : List ℕ) → lawful (forest ts) ≡ true → lawful (forest (picked ts hs)) ≡ true
lawful-picked ts [] e = refl
lawful-picked ts (h ∷ hs) e = legal-before (get_or ts h nothing) (forest (picked ts hs)) (legal-at ts h e) (lawful-picked ts hs e)

pub bytes_append : (xs ys : List ℕ) → bytes_lawful xs ≡ true → bytes_lawful ys ≡ true → bytes_lawful (xs ++ ys) ≡ true
bytes_append [] ys e f = f
bytes_append (x ∷ xs) ys e f = let p = and_parts (ltb x 256) (bytes_lawful xs) e in and_from _ _ p.0 (bytes_append xs ys p.1 f)

pub bytes_take : (n : ℕ) (xs : List ℕ) → bytes_lawful xs ≡ true → bytes_lawful (take n xs) ≡ true
bytes_take zero xs e = refl
bytes_take (suc n) [] e = refl
bytes_take (suc n) (x ∷ xs) e = let p = and_parts (ltb x 256) (bytes_lawful xs) e in and_from _ _ p.0 (bytes_take n xs p.1)

pub bytes_drop : (n : ℕ) (xs : List ℕ) → bytes_lawful xs ≡ true → bytes_lawful (drop n xs) ≡ true
bytes_drop zero xs e = e
bytes_drop (suc n) [] e = refl
bytes_drop (suc n) (x ∷ xs) e = bytes_drop n xs (and_parts (ltb x 256) (bytes_lawful xs) e).1

-- what a slice of bytes holds
pub bytes_fit : (xs : List ℕ) → ((i : ℕ) → Fits w8 (get_or xs i 0)) → bytes_lawful xs ≡ true
bytes_fit [] fits = refl
bytes_fit (x ∷ xs) fits = and_from _ _ (lt-ltb x 256 (fits 0).fits) (bytes_fit xs (λ i. fits (suc i)))
