-- What is read of an arena is what its trees have.
use Rattle.std.proofs.Common.{◌≡◌, ℕ, ◌+◌, ◌-◌, ◌<◌, ◌≤◌, true, List, [], map, length, get_or, drop, Some, None, vec_items, Option, option_map, option_and_then, option_copied, MatchOption, IfSome, IsSomeAnd, slice_get, Bor, sym, refl, ap, ◌∙◌, subst, inl, inr, arith, length-take, length-drop}
use Rattle.std.specs.Option.{unwrap_or}
use Rattle.std.proofs.lemmas.Option.{slice_get-map, slice_get-get_or, slice_get_cases, slice_get_past, slice_get_read, slice_get_within, unwrap_or-slice_get}
use Rattle.std.proofs.lemmas.List.{get_or_default, get_or_past}
use Rattle.std.proofs.lemmas.Bool.{and_parts}
use Rattle.forest.specs.declared.kind.Kind.{Kind}
use Rattle.forest.specs.Forests.{Item, tag_lawful}
use Rattle.forest.specs.Stores.{nothing, picked, all_below, item_kind, item_tag, item_value, item_children, item_text, kind_at, children_at, text_at, Child}
use Rattle.forest.proofs.Items.{items-forest}
use Rattle.forest.proofs.Picked.{length-picked, get_or-picked, below_at, below_mono}
use Rattle.arena.specs.declared.row.Row.{Row}
use Rattle.arena.specs.declared.row.Row.TheVariants.{Boolean, Integer, String, Element}
use Rattle.arena.specs.declared.row.Span.{Span}
use Rattle.arena.specs.declared.arena.Arena.{Arena}
use Rattle.arena.specs.Rows.{part, within, row_item, row_sound, row_kind, row_tag, row_value, row_children, row_text, sound}
use Rattle.arena.specs.Arenas.{trees_over, Reads, Found}
use Rattle.arena.proofs.Builds.{length-built, tree_is, sound-at}

-- by any function of a tree
reads : {X : Type 0} (f : Item → X) (d : X) (us : List Item) (h : ℕ) (o : Option Item) → slice_get us h ≡ o → get_or (map f us) h d ≡ unwrap_or (option_map f o) d
reads f d us h o e = sym (unwrap_or-slice_get (map f us) h d) ∙ ap (λ p. unwrap_or p d) (slice_get-map f us h ∙ ap (option_map f) e)

kind-alone : (us : List Item) (es bs : List ℕ) (r : Row) → row_kind r ≡ item_kind (row_item us es bs r)
kind-alone us es bs (Boolean b) = refl
kind-alone us es bs (Integer z) = refl
kind-alone us es bs (String s) = refl
kind-alone us es bs (Element t s) = refl

pub tag-alone : (us : List Item) (es bs : List ℕ) (r : Row) → row_tag r ≡ item_tag (row_item us es bs r)
tag-alone us es bs (Boolean b) = refl
tag-alone us es bs (Integer z) = refl
tag-alone us es bs (String s) = refl
tag-alone us es bs (Element t s) = refl

pub value_alone : (us : List Item) (es bs : List ℕ) (r : Row) → row_value r ≡ item_value (row_item us es bs r)
value_alone us es bs (Boolean b) = refl
value_alone us es bs (Integer z) = refl
value_alone us es bs (String s) = refl
value_alone us es bs (Element t s) = refl

-- what `map` and `map_or` give of the row that is there

mapped : (us : List Item) (es bs : List ℕ) (o : Option Row) (v : Option Kind) → MatchOption o (v ≡ None) (λ r. IsSomeAnd v (λ k. k ≡ row_kind r)) → v ≡ option_map item_kind (option_map (row_item us es bs) o)
mapped us es bs None v e = e
mapped us es bs (Some r) (Some k) e = ap Some (e ∙ kind-alone us es bs r)
mapped us es bs (Some r) None e = absurd e

pub kind-read : (a : Arena) (h : ℕ) (o : Option Row) (v : Option Kind) → Found a h o → MatchOption o (v ≡ None) (λ r. IsSomeAnd v (λ k. k ≡ row_kind r)) → Reads a h (λ us. v ≡ kind_at us h)
kind-read a h o v f e = λ ts l le.
    let us = trees_over ts a in
    mapped us _ _ o v e ∙ sym (slice_get-map item_kind us h ∙ ap (option_map item_kind) (f.tree ts l le))

module _ {X : Type 0} (f : Item → X) (g : Row → X) (alone : (us : List Item) (es bs : List ℕ) (r : Row) → g r ≡ f (row_item us es bs r)) (d : X) where
  mapped_or : (us : List Item) (es bs : List ℕ) (o : Option Row) (v : X) → MatchOption o (v ≡ d) (λ r. v ≡ g r) → v ≡ unwrap_or (option_map f (option_map (row_item us es bs) o)) d
  mapped_or us es bs None v e = e
  mapped_or us es bs (Some r) v e = e ∙ alone us es bs r

  pub reads_or : (a : Arena) (h : ℕ) (o : Option Row) (v : X) → Found a h o → MatchOption o (v ≡ d) (λ r. v ≡ g r) → Reads a h (λ us. v ≡ get_or (map f us) h d)
  reads_or a h o v t e = λ ts l le.
      let us = trees_over ts a in
      mapped_or us _ _ o v e ∙ sym (reads f d us h _ (t.tree ts l le))

pub names-child : (us : List Item) (h j r : ℕ) (es : List ℕ) → children_at us h ≡ picked us es → all_below (length us) es ≡ true → r ≡ get_or es j 0 → Child us h j r
names-child us h j r es is below at =
    let long : length (children_at us h) ≡ length es = ap length is ∙ length-picked us es in
    record {
      there = λ lt. let l = below_at (length us) es j below (omega arith) in omega arith;
      tree = λ d lt. let l = below_at (length us) es j below (omega arith) in get_or_default us r d nothing (omega arith) ∙ ap (λ k. get_or us k nothing) at ∙ sym (get_or-picked us es j d (omega arith)) ∙ ap (λ is. get_or is j d) (sym is);
      absent = λ le. at ∙ get_or_past es j 0 (omega arith);
    }

entries_of : (o : Option Row) (f : Row → Option Span) (v : Option Span) → MatchOption o (v ≡ None) (λ r. v ≡ f r) → v ≡ option_and_then f o
entries_of None f v e = e
entries_of (Some r) f v e = e

-- what the part that a row names is, or that there is none

abbrev pub Names : Arena → ℕ → Option Span → Type 0
Names a h None = Reads a h (λ us. children_at us h ≡ [])
Names a h (Some s) = (within s (length (vec_items a.children)) ≡ true) × Reads a h (λ us. (children_at us h ≡ picked us (part s (vec_items a.children))) × (all_below (length us) (part s (vec_items a.children)) ≡ true))

names-found : (a : Arena) (h : ℕ) (o : Option Row) → Found a h o → Names a h (option_and_then row_children o)
names-found a h None f = λ ts e le. reads item_children [] (trees_over ts a) h None (f.tree ts e le)
names-found a h (Some (Boolean b)) f = λ ts e le. reads item_children [] (trees_over ts a) h (Some _) (f.tree ts e le)
names-found a h (Some (Integer z)) f = λ ts e le. reads item_children [] (trees_over ts a) h (Some _) (f.tree ts e le)
names-found a h (Some (String s)) f = λ ts e le. reads item_children [] (trees_over ts a) h (Some _) (f.tree ts e le)
names-found a h (Some (Element t s)) f =
    let es = vec_items a.children in
    let p = and_parts (tag_lawful t) _ f.good in
    let q = and_parts (within s (length es)) (all_below h (part s es)) p.1 in (
      q.0,
      λ ts e le.
          let us = trees_over ts a in
          let lt = slice_get_within us h _ (f.tree ts e le) in
          (reads item_children [] us h (Some _) (f.tree ts e le) ∙ items-forest _, below_mono h (length us) (part s es) (omega arith) q.1),
    )

pub names : (a : Arena) (h : ℕ) (o : Option Row) (v w : Option Span) → Found a h o → MatchOption o (v ≡ None) (λ r. v ≡ row_children r) → v ≡ w → Names a h w
names a h o v w f e is = subst (λ (k : Option Span). Names a h k) (sym (entries_of o row_children v e) ∙ is) (names-found a h o f)

abbrev pub Spells : Arena → ℕ → Option Span → Type 0
Spells a h None = Reads a h (λ us. text_at us h ≡ [])
Spells a h (Some s) = (within s (length (vec_items a.text)) ≡ true) × Reads a h (λ us. text_at us h ≡ part s (vec_items a.text))

spells-found : (a : Arena) (h : ℕ) (o : Option Row) → Found a h o → Spells a h (option_and_then row_text o)
spells-found a h None f = λ ts e le. reads item_text [] (trees_over ts a) h None (f.tree ts e le)
spells-found a h (Some (Boolean b)) f = λ ts e le. reads item_text [] (trees_over ts a) h (Some _) (f.tree ts e le)
spells-found a h (Some (Integer z)) f = λ ts e le. reads item_text [] (trees_over ts a) h (Some _) (f.tree ts e le)
spells-found a h (Some (String s)) f = (f.good, λ ts e le. reads item_text [] (trees_over ts a) h (Some _) (f.tree ts e le))
spells-found a h (Some (Element t s)) f = λ ts e le. reads item_text [] (trees_over ts a) h (Some _) (f.tree ts e le)

pub spells : (a : Arena) (h : ℕ) (o : Option Row) (v w : Option Span) → Found a h o → MatchOption o (v ≡ None) (λ r. v ≡ row_text r) → v ≡ w → Spells a h w
spells a h o v w f e is = subst (λ (k : Option Span). Spells a h k) (sym (entries_of o row_text v e) ∙ is) (spells-found a h o f)

-- a part of what is there is no longer than the whole
pub length-part-le : {X : Type 0} (s : Span) (xs : List X) → length (part s xs) ≤ length xs
length-part-le s xs = omega (arith, length-take s.length (drop s.from xs), length-drop s.from xs)

-- what stands at a handle from the base on
pub copied-is : {X : Type 0} (g : Option (Bor X)) (xs : List X) (i : ℕ) (P : Bor X → Type 0) → MatchOption g (length xs ≤ i) (λ x. (i < length xs) × P x) → IfSome g (λ x. x.now ≡ get_or xs i x.now) → option_copied g ≡ slice_get xs i
copied-is None xs i P m f = sym (slice_get_past xs i m)
copied-is (Some x) xs i P m f = sym (slice_get_read xs (length xs) i x.now refl m.0 f)

pub found : (a : Arena) (h : ℕ) → a.base ≤ h → Found a h (slice_get (vec_items a.rows) (h - a.base))
found a h le =
    let es = vec_items a.children in
    let bs = vec_items a.text in
    let rs = vec_items a.rows in
    let i = h - a.base in
    elim (slice_get_cases rs i).1 [
      | inl (r, lt, is, at) ↦
          rw is record {
            above = le;
            tree = λ ts e _.
                let us = trees_over ts a in
                let here : length ts + i ≡ h = omega arith in
                let good : sound (length ts) es bs rs ≡ true = ap (λ n. sound n es bs rs) e ∙ a.good in
                slice_get-get_or us h nothing (omega (arith, length-built ts es bs rs)) ∙ ap Some (ap (λ k. get_or us k nothing) (sym here) ∙ tree_is ts es bs rs i nothing r good lt ∙ ap (row_item us es bs) at);
            good = ap (λ n. row_sound n es bs r) (let here : h ≡ a.base + i = omega arith in here) ∙ ap (row_sound (a.base + i) es bs) (sym at) ∙ sound-at a.base es bs rs i r a.good lt;
          }
      | inr (past, is) ↦
          rw is record {
            above = tt;
            tree = λ ts e _. slice_get_past (trees_over ts a) h (omega (arith, length-built ts es bs rs));
            good = tt;
          }
    ]

-- as many trees as handles name them
pub ruleset long_picked = (length-picked)
