-- A tree that was made is there to be read.
use Rattle.std.proofs.Common.{◌≡◌, ℕ, ◌<◌, ◌&&◌, List, [], ◌∷◌, ◌++◌, map, length, get_or, ℤ, pos, Some, Ok, Option, Result, sym, ap, ◌∙◌, arith}
use lib.ListN.{length-map}
use Rattle.std.proofs.lemmas.List.{length_push}
use Rattle.std.proofs.lemmas.Option.{slice_get-get_or}
use Rattle.forest.specs.declared.fault.Fault.{Fault}
use Rattle.forest.specs.declared.kind.Kind.TheVariants.{Element}
use Rattle.forest.specs.Forests.{Item, scalar, element, integer, forest, integer_lawful, tag_lawful}
use Rattle.forest.specs.Stores.{Meaning, make, asked_integer, asked_element, picked, all_below, item_kind, item_tag, item_children, item_value, kind_at, tag_at, children_at}
use Rattle.forest.proofs.Items.{items-forest}
use Rattle.forest.proofs.Picked.{length-picked}
use Rattle.forest.proofs.Making.{Success, success, when-is, reads-new, reads_old}
use Rattle.store_laws.specs.Laws.{BothStand}

-- the new tree, by any function of a tree
new-reads : {X : Type 0} (f : Item → X) (d : X) (o : Option Item) (i : Item) (m n : Meaning) (h : ℕ) (s : Success o m n h) → s.item ≡ i → get_or (map f n.trees) h d ≡ f i
new-reads f d o i m n h s is = ap (λ k. get_or (map f k.trees) h d) s.after ∙ ap (λ k. get_or (map f (m.trees ++ (s.item ∷ []))) k d) s.handle ∙ reads-new f d m.trees s.item ∙ ap f is

module _ (l : ℕ) (m n : Meaning) (t : ℕ) (hs : List ℕ) (h : ℕ) (e : ◌≡◌ {A = Result ℕ Fault × Meaning} (Ok h, n) (make l (asked_element m.trees t hs) m)) where
  back : {X : Type 0} (f : Item → X) (d : X) → get_or (map f n.trees) h d ≡ f (element t (forest (picked m.trees hs)))
  back f d =
      let s = success l (asked_element m.trees t hs) m n h e in
      new-reads f d _ _ m n h s (sym (when-is (tag_lawful t && all_below (length m.trees) hs) _ s.item s.asked).1)

  pub kind-back : kind_at n.trees h ≡ Some Element
  kind-back =
      let s = success l (asked_element m.trees t hs) m n h e in
      let there : h < length (map item_kind n.trees) = omega (arith, s.handle, length-map n.trees item_kind, ap (λ k. length k.trees) s.after, length_push m.trees s.item) in
      slice_get-get_or (map item_kind n.trees) h Element there ∙ ap Some (back item_kind Element)

  pub tag_back : tag_at n.trees h ≡ t
  tag_back = back item_tag 0

  pub count_back : length (children_at n.trees h) ≡ length hs
  count_back = ap length (back item_children [] ∙ items-forest (picked m.trees hs)) ∙ length-picked m.trees hs

pub both-stand : (l : ℕ) (m n k : Meaning) (x y : ℤ) (h j : ℕ) → ◌≡◌ {A = Result ℕ Fault × Meaning} (Ok h, n) (make l (asked_integer x) m) → ◌≡◌ {A = Result ℕ Fault × Meaning} (Ok j, k) (make l (asked_integer y) n) → BothStand m k x y h j
both-stand l m n k x y h j e d =
    let s = success l (asked_integer x) m n h e in
    let q = success l (asked_integer y) n k j d in
    let i = sym (when-is (integer_lawful x) _ s.item s.asked).1 in
    let o = sym (when-is (integer_lawful y) _ q.item q.asked).1 in
    let ns : n.trees ≡ m.trees ++ (scalar (integer x) ∷ []) = ap (λ r. r.trees) s.after ∙ ap (λ z. m.trees ++ (z ∷ [])) i in
    let ks : k.trees ≡ n.trees ++ (scalar (integer y) ∷ []) = ap (λ r. r.trees) q.after ∙ ap (λ z. n.trees ++ (z ∷ [])) o in
    let lt : h < length n.trees = omega (arith, s.handle, ap length ns, length_push m.trees (scalar (integer x))) in
    record {
      first = ap (λ ts. get_or (map item_value ts) h (pos 0)) ks ∙ reads_old item_value (pos 0) n.trees _ h lt ∙ new-reads item_value (pos 0) _ _ m n h s i;
      second = new-reads item_value (pos 0) _ _ n k j q o;
      kept = ks ∙ ap (λ ts. ts ++ (scalar (integer y) ∷ [])) ns;
    }
