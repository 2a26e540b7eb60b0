-- Depths of items, of lists of items, and of what is marked.
use Rattle.std.proofs.Common.{◌≡◌, ℕ, zero, suc, ◌+◌, ◌-◌, ◌<◌, ◌≤◌, max, Bool, true, false, cond, ltb, List, [], ◌∷◌, length, get_or, drop, set, replicate, sym, refl, ap, ◌∙◌, arith, Some, ◌&&◌, ◌||◌}
use Rattle.std.specs.List.{list_any, enumerate_from}
use Rattle.std.proofs.lemmas.Bool.{lt-ltb}
use Rattle.std.proofs.lemmas.List.{drop_more, drop_all}
use Rattle.forest.proofs.Items.{forest-items}
use Rattle.forest.specs.Forests.{integer, string, boolean, Forest, Item, scalar, element, before, forest, depth}
use Rattle.forest.specs.declared.kind.Kind.TheVariants.{Element}
use Rattle.forest.specs.Stores.{nothing, children_at, kind_at}
use Rattle.std.specs.Option.{option_eq}
use Rattle.forest.specs.contracts.kind.KindPartialEq.TheImpl.{eq-value as same_kind_of}
use Rattle.nesting.specs.Levels.{item_depth, deepest}

pub depth-before : (i : Item) (f : Forest) → depth (before i f) ≡ max (item_depth i) (depth f)
depth-before (scalar s) f = omega arith
depth-before (element t c) f = refl

-- one mark more
mark_more : (m : Bool) (d : ℕ) → max (cond m d 0) d ≡ d
mark_more true d = omega arith
mark_more false d = omega arith

pub deepest-set : (ts : List Item) (ms : List Bool) (h : ℕ) → length ms ≡ length ts → deepest ts (set ms h true) ≡ max (deepest ts ms) (item_depth (get_or ts h nothing))
deepest-set [] ms h e = omega arith
deepest-set (t ∷ ts) [] h e = absurd (omega arith)
deepest-set (t ∷ ts) (m ∷ ms) zero e = omega (arith, mark_more m (item_depth t))
deepest-set (t ∷ ts) (m ∷ ms) (suc h) e = omega (arith, deepest-set ts ms h (omega arith))

pub deepest-none : (ts : List Item) (n : ℕ) → deepest ts (replicate n false) ≡ 0
deepest-none [] n = refl
deepest-none (t ∷ ts) zero = refl
deepest-none (t ∷ ts) (suc n) = omega (arith, deepest-none ts n)

-- the children of an element are one level less deep
pub depth-children : (ts : List Item) (h : ℕ) → depth (forest (children_at ts h)) ≡ item_depth (get_or ts h nothing) - 1
depth-children [] h = refl
depth-children (scalar s ∷ ts) zero = refl
depth-children (element t c ∷ ts) zero = ap depth (forest-items c) ∙ omega arith
depth-children (t ∷ ts) (suc h) = depth-children ts h

-- one place of a walk along the marks
pub deepest-more : (ts : List Item) (ms : List Bool) (h : ℕ) → h < length ts → h < length ms → deepest (drop h ts) (drop h ms) ≡ max (cond (get_or ms h false) (item_depth (get_or ts h nothing)) 0) (deepest (drop (h + 1) ts) (drop (h + 1) ms))
deepest-more ts ms h lt within = rw (drop_more ts h nothing, drop_more ms h false)

pub deepest-all : (ts : List Item) (ms : List Bool) (h : ℕ) → length ts ≤ h → deepest (drop h ts) (drop h ms) ≡ 0
deepest-all ts ms h le = ap (λ is. deepest is (drop h ms)) (drop_all h ts le)

-- an element is what has a depth
pub element-deep : (ts : List Item) (h : ℕ) → option_eq same_kind_of.it (kind_at ts h) (Some Element) ≡ ltb 0 (item_depth (get_or ts h nothing))
element-deep [] h = refl
element-deep (scalar (integer z) ∷ ts) zero = refl
element-deep (scalar (string bs) ∷ ts) zero = refl
element-deep (scalar (boolean b) ∷ ts) zero = refl
element-deep (element t c ∷ ts) zero = sym (lt-ltb 0 (1 + depth c) (omega arith))
element-deep (i ∷ ts) (suc h) = element-deep ts h

-- whether an element is among the marked trees
either-deep : (m : Bool) (a b : ℕ) → (m && ltb 0 a) || ltb 0 b ≡ ltb 0 (max (cond m a 0) b)
either-deep false a b = ap (ltb 0) (omega arith)
either-deep true zero b = ap (ltb 0) (omega arith)
either-deep true (suc a) b = ap (λ c. c || ltb 0 b) (lt-ltb 0 (suc a) (omega arith)) ∙ sym (lt-ltb 0 (max (suc a) b) (omega arith))

any-from : (k : ℕ) (f : ℕ → Bool) (ts : List Item) (ms : List Bool) → length ms ≡ length ts → ((j : ℕ) → f (k + j) ≡ ltb 0 (item_depth (get_or ts j nothing))) → list_any (λ p. p.1 && f p.0) (enumerate_from k ms) ≡ ltb 0 (deepest ts ms)
any-from k f [] [] e at = refl
any-from k f [] (m ∷ ms) e at = absurd (omega arith)
any-from k f (t ∷ ts) [] e at = absurd (omega arith)
any-from k f (t ∷ ts) (m ∷ ms) e at =
    let here : f k ≡ ltb 0 (item_depth t) = ap f (omega arith) ∙ at 0 in
    let rest = any-from (k + 1) f ts ms (omega arith) (λ j. ap f (omega arith) ∙ at (suc j)) in
    ap (λ b. (m && b) || list_any (λ p. p.1 && f p.0) (enumerate_from (k + 1) ms)) here
    ∙ ap (λ b. (m && ltb 0 (item_depth t)) || b) rest
    ∙ either-deep m (item_depth t) (deepest ts ms)

pub any-deep : (ts : List Item) (ms : List Bool) → length ms ≡ length ts → list_any (λ p. p.1 && ltb 0 (item_depth (get_or ts p.0 nothing))) (enumerate_from 0 ms) ≡ ltb 0 (deepest ts ms)
any-deep ts ms e = let deep = λ (h : ℕ). ltb 0 (item_depth (get_or ts h nothing)) in any-from 0 deep ts ms e (λ j. ap deep (omega arith))
