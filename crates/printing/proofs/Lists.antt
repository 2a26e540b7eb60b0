-- Steps and ends of the loops that write texts one after another.
use Rattle.std.proofs.Common.{◌≡◌, ℕ, zero, suc, ◌+◌, ◌<◌, ◌≤◌, List, [], ◌∷◌, ◌++◌, map, length, get_or, drop, codes, sym, refl, ap, ◌∙◌, append_assoc, arith}
use Rattle.std.proofs.lemmas.List.{append-nil, at_drop_more, at_drop_all}
use Rattle.printing.specs.Printed.{escaped, all_escaped, after_commas, joined}
use Rattle.printing.specs.Items.{separator}

pub escaped_more : (t bs end : List ℕ) (i : ℕ) → i < length bs → t ++ (all_escaped (drop i bs) ++ end) ≡ t ++ (escaped (get_or bs i 0) ++ (all_escaped (drop (i + 1) bs) ++ end))
escaped_more t bs end i lt = at_drop_more (λ xs. t ++ (all_escaped xs ++ end)) bs i 0 lt ∙ ap (λ xs. t ++ xs) (append_assoc (escaped (get_or bs i 0)) (all_escaped (drop (i + 1) bs)) end)

pub escaped_all : (t bs end : List ℕ) (i : ℕ) → length bs ≤ i → t ++ (all_escaped (drop i bs) ++ end) ≡ t ++ end
escaped_all t bs end i past = at_drop_all (λ xs. t ++ (all_escaped xs ++ end)) bs i past

-- the texts that are left at a place
abbrev pub left : ℕ → List (List ℕ) → List ℕ
left zero xs = joined xs
left (suc n) xs = after_commas xs

left_one : (n : ℕ) (x : List ℕ) (xs : List (List ℕ)) → left n (x ∷ xs) ≡ separator n ++ (x ++ left (n + 1) xs)
left_one zero x xs = refl
left_one (suc n) x xs = let e : suc (suc n) ≡ suc n + 1 = omega arith in ap (λ k. codes "," ++ (x ++ left k xs)) e

left_none : (n : ℕ) → left n [] ≡ []
left_none zero = refl
left_none (suc n) = refl

pub left_more : {X : Type 0} (f : X → List ℕ) (d : X) (t : List ℕ) (xs : List X) (i : ℕ) → i < length xs → t ++ left i (map f (drop i xs)) ≡ t ++ (separator i ++ (f (get_or xs i d) ++ left (i + 1) (map f (drop (i + 1) xs))))
left_more f d t xs i lt = at_drop_more (λ ys. t ++ left i (map f ys)) xs i d lt ∙ ap (λ ys. t ++ ys) (left_one i (f (get_or xs i d)) (map f (drop (i + 1) xs)))

-- after the separator, and after the item
module _ {X : Type 0} (f : X → List ℕ) (d : X) (t u : List ℕ) (xs : List X) (i : ℕ) (x : List ℕ) {w : List ℕ} (lt : i < length xs) (same : x ≡ f (get_or xs i d)) (parted : u ≡ t ++ separator i) (all : t ++ left i (map f (drop i xs)) ≡ w) where
  rest : List ℕ
  rest = left (i + 1) (map f (drop (i + 1) xs))

  pub left_part : u ++ (x ++ left (i + 1) (map f (drop (i + 1) xs))) ≡ w
  unfolding rest
  left_part = ap (λ ys. ys ++ (x ++ rest)) parted ∙ append_assoc t (separator i) (x ++ rest) ∙ ap (λ y. t ++ (separator i ++ (y ++ rest))) same ∙ sym (left_more f d t xs i lt) ∙ all

  pub left_step : (v : List ℕ) → v ≡ u ++ x → v ++ left (i + 1) (map f (drop (i + 1) xs)) ≡ w
  unfolding rest
  left_step v added = ap (λ ys. ys ++ rest) added ∙ append_assoc u x rest ∙ left_part

pub left_all : {X : Type 0} (f : X → List ℕ) (t : List ℕ) (xs : List X) (i : ℕ) → length xs ≤ i → t ++ left i (map f (drop i xs)) ≡ t
left_all f t xs i past = at_drop_all (λ ys. t ++ left i (map f ys)) xs i past ∙ ap (λ ys. t ++ ys) (left_none i) ∙ append-nil t
