-- One more type row behind others: what it keeps.
use Rattle.std.proofs.Common.{◌≡◌, ℕ, ◌<◌, ◌≤◌, true, false, ◌⊎◌, List, [], ◌∷◌, ◌++◌, length, Some, sym, refl, ap, ◌∙◌, inl, inr, arith, append_assoc}
use Rattle.std.proofs.lemmas.List.{get_or_past, get_or_append_left, get_or_push, length_push}
use Rattle.std.proofs.lemmas.Bool.{cases_lt, cases_order, both_ways, false≢true, false_from_ne_true}
use Rattle.rows.specs.declared.type_row.TypeRow.{TypeRow}
use Rattle.rows.specs.declared.type_row.TypeRow.TheVariants.{EmptyChoice, EmptySequence, Integer, String, Boolean, Element, AnyElement, Sequence, Choice, Repetition}
use Rattle.rows.specs.TypeRows.{type_fits, owns, twice}
use Rattle.types.specs.Parts.{row, content, Root, Lawful}
use Rattle.types.specs.Places.{Checked}
use Rattle.types.proofs.Longer.{longer, same_one_way}
use Rattle.typing.specs.Growth.{Named, Free, Grows}

-- ONE ROW MORE

-- row i of ts with w behind it
pub data At (ts : List TypeRow) (w : TypeRow) (i : ℕ) : Type 0 where
  before : i < length ts → row (ts ++ (w ∷ [])) i ≡ row ts i → At ts w i
  last : i ≡ length ts → row (ts ++ (w ∷ [])) i ≡ w → At ts w i
  past : length ts < i → row (ts ++ (w ∷ [])) i ≡ EmptyChoice → At ts w i

pub at : (ts : List TypeRow) (w : TypeRow) (i : ℕ) → At ts w i
at ts w i = elim (cases_order i (length ts)) [
  | inl e ↦ last e (get_or_push ts w EmptyChoice i (sym e))
  | inr (inl lt) ↦ before lt (get_or_append_left ts (w ∷ []) EmptyChoice i lt)
  | inr (inr lt) ↦ past lt (get_or_past (ts ++ (w ∷ [])) i EmptyChoice (omega (arith, length_push ts w)))
]

no_content : {A : Type 0} {c : ℕ} {w : TypeRow} → w ≡ EmptyChoice → content w ≡ Some c → A
no_content e i = let z : ◌≡◌ {A = ℕ} 0 1 = cc (ap content e) in absurd (omega arith)

no_part : {A : Type 0} (p : ℕ) {w : TypeRow} → w ≡ EmptyChoice → owns w p ≡ true → A
no_part p e i = absurd (false≢true (sym (ap (λ w. owns w p) e) ∙ i))

-- whose part p is
pub data OwnedAt (ts : List TypeRow) (w : TypeRow) (i p : ℕ) : Type 0 where
  by_old : i < length ts → owns (row ts i) p ≡ true → OwnedAt ts w i p
  by_new : i ≡ length ts → owns w p ≡ true → OwnedAt ts w i p

pub owned_at : (ts : List TypeRow) (w : TypeRow) (i p : ℕ) → owns (row (ts ++ (w ∷ [])) i) p ≡ true → OwnedAt ts w i p
owned_at ts w i p o = elim (at ts w i) [
  | before l e ↦ by_old l (ap (λ v. owns v p) (sym e) ∙ o)
  | last l e ↦ by_new l (ap (λ v. owns v p) (sym e) ∙ o)
  | past l e ↦ no_part p e o
]

-- whose content c is
pub data NamedAt (ts : List TypeRow) (w : TypeRow) (i c : ℕ) : Type 0 where
  by_old : i < length ts → content (row ts i) ≡ Some c → NamedAt ts w i c
  by_new : i ≡ length ts → content w ≡ Some c → NamedAt ts w i c

pub named_at : (ts : List TypeRow) (w : TypeRow) (i c : ℕ) → content (row (ts ++ (w ∷ [])) i) ≡ Some c → NamedAt ts w i c
named_at ts w i c n = elim (at ts w i) [
  | before l e ↦ by_old l (ap content (sym e) ∙ n)
  | last l e ↦ by_new l (ap content (sym e) ∙ n)
  | past l e ↦ no_content e n
]

-- a row with a content has no part
pub content_alone : (w : TypeRow) (c p : ℕ) → content w ≡ Some c → owns w p ≡ false
content_alone EmptyChoice c p e = refl
content_alone EmptySequence c p e = refl
content_alone Integer c p e = refl
content_alone String c p e = refl
content_alone Boolean c p e = refl
content_alone (Element t d) c p e = refl
content_alone (AnyElement d) c p e = refl
content_alone (Sequence a b) c p e = let z : ◌≡◌ {A = ℕ} 0 1 = cc in absurd (omega arith)
content_alone (Choice a b) c p e = let z : ◌≡◌ {A = ℕ} 0 1 = cc in absurd (omega arith)
content_alone (Repetition a) c p e = let z : ◌≡◌ {A = ℕ} 0 1 = cc in absurd (omega arith)

-- Row w can stand behind ts, which grew from base: its parts are free rows behind base, its content is a root, behind base or named there.
pub record Suits (base ts : List TypeRow) (w : TypeRow) : Type 0 where
  pub fits : type_fits (length ts) w ≡ true
  pub once : twice w ≡ false
  pub parts : (p : ℕ) → owns w p ≡ true → (length base ≤ p) × Free ts p
  pub contents : (c : ℕ) → content w ≡ Some c → Root ts c × ((length base ≤ c) ⊎ Named base c)

module _ {base ts : List TypeRow} {w : TypeRow} (suits : Suits base ts w) where
  -- a root that w does not own is one still
  root_still : {r : ℕ} → Root ts r → owns w r ≡ false → Root (ts ++ (w ∷ [])) r
  root_still {r} root not = record {
    there = (let t = root.there in omega (arith, length_push ts w));
    unowned = λ s. elim (at ts w s) [
      | before l e ↦ ap (λ v. owns v r) e ∙ root.unowned s
      | last l e ↦ ap (λ v. owns v r) e ∙ not
      | past l e ↦ ap (λ v. owns v r) e
    ];
  }

  -- a content is owned by no row
  content_root : {c : ℕ} → Root ts c → Named ts c → Root (ts ++ (w ∷ [])) c
  content_root {c} root named = root_still root (false_from_ne_true (owns w c) (λ o. (suits.parts c o).1.unnamed named))

  -- a free row that w does not name is free still
  pub free_still : {r : ℕ} → Free ts r → owns w r ≡ false → (content w ≡ Some r → ⊥) → Free (ts ++ (w ∷ [])) r
  free_still {r} free not unnamed = record {
    root = root_still free.root not;
    unnamed = λ n. elim (named_at ts w n.0 r n.1) [ by_old l e ↦ free.unnamed (n.0, e) | by_new l e ↦ unnamed e ];
  }

module _ {base ts : List TypeRow} {w : TypeRow} (suits : Suits base ts w) {declared : ℕ} (within : declared ≤ length ts) (room : length ts < 512) (checked : Checked ts declared) where
  one_owner : (i j p : ℕ) → OwnedAt ts w i p → OwnedAt ts w j p → i ≡ j
  one_owner i j p (by_old l o) (by_old m u) = checked.lawful.one_owner i j p o u
  one_owner i j p (by_old l o) (by_new m u) = absurd (both_ways (owns (row ts i) p) ((suits.parts p u).1.root.unowned i) o)
  one_owner i j p (by_new l o) (by_old m u) = absurd (both_ways (owns (row ts j) p) ((suits.parts p o).1.root.unowned j) u)
  one_owner i j p (by_new l o) (by_new m u) = l ∙ sym m

  lawful_more : Lawful (ts ++ (w ∷ []))
  lawful_more = record {
    few = omega (arith, length_push ts w);
    lower = λ i p o. elim (owned_at ts w i p o) [ by_old l u ↦ checked.lawful.lower i p u | by_new l u ↦ (let t = (suits.parts p u).1.root.there in omega arith) ];
    one_owner = λ i j p o u. one_owner i j p (owned_at ts w i p o) (owned_at ts w j p u);
    once = λ i. elim (at ts w i) [ before l e ↦ ap twice e ∙ checked.lawful.once i | last l e ↦ ap twice e ∙ suits.once | past l e ↦ ap twice e ];
    fit = λ i. elim (at ts w i) [
      | before l e ↦ ap (type_fits i) e ∙ checked.lawful.fit i
      | last l e ↦ ap (type_fits i) e ∙ ap (λ n. type_fits n w) l ∙ suits.fits
      | past l e ↦ ap (type_fits i) e
    ];
  }

  contents_more : (n c : ℕ) → NamedAt ts w n c → Root (ts ++ (w ∷ [])) c
  contents_more n c (by_old l e) = content_root suits (checked.contents n c e) (n, e)
  contents_more n c (by_new l e) = root_still suits (suits.contents c e).0 (content_alone w c c e)

  root_before : {r : ℕ} → r < declared → Root (ts ++ (w ∷ [])) r → Root ts r
  root_before {r} lt root = record {
    there = omega arith;
    unowned = λ s. elim (cases_lt s (length ts)) [
      | inl l ↦ ap (λ v. owns v r) (sym (get_or_append_left ts (w ∷ []) EmptyChoice s l)) ∙ root.unowned s
      | inr l ↦ ap (λ v. owns v r) (get_or_past ts s EmptyChoice l)
    ];
  }

  pub checked_more : Checked (ts ++ (w ∷ [])) declared
  checked_more = record {
    lawful = lawful_more;
    contents = λ n c e. contents_more n c (named_at ts w n c e);
    declared_contents = λ n c l e. checked.declared_contents n c l (ap content (sym (get_or_append_left ts (w ∷ []) EmptyChoice n (omega arith))) ∙ e);
    one_way = λ r l root. (same_one_way (longer ts (w ∷ [])) checked.lawful lawful_more root (omega arith)).0 (checked.one_way r l (root_before l root));
  }

  -- the new row itself
  pub free_new : Free (ts ++ (w ∷ [])) (length ts)
  free_new = record {
    root = record { there = omega (arith, length_push ts w); unowned = λ s. false_from_ne_true (owns (row (ts ++ (w ∷ [])) s) (length ts)) (λ o. (let l = (parts s o) in absurd (omega arith))) };
    unnamed = λ n. elim (named_at ts w n.0 (length ts) n.1) [ by_old l e ↦ (let t = (checked.contents n.0 (length ts) e).there in absurd (omega arith)) | by_new l e ↦ (let t = (suits.contents (length ts) e).0.there in absurd (omega arith)) ];
  }
    where
      parts : (s : ℕ) → owns (row (ts ++ (w ∷ [])) s) (length ts) ≡ true → length ts < length ts
      parts s o = elim (owned_at ts w s (length ts) o) [ by_old l u ↦ (let t = checked.lawful.lower s (length ts) u in omega arith) | by_new l u ↦ (suits.parts (length ts) u).1.root.there ]

  pub grows_more : Grows base ts → Grows base (ts ++ (w ∷ []))
  grows_more g = record {
    more = g.more ++ (w ∷ []);
    table = ap (λ z. z ++ (w ∷ [])) g.table ∙ append_assoc base g.more (w ∷ []);
    parts = λ i p l o. elim (owned_at ts w i p o) [ by_old m u ↦ g.parts i p l u | by_new m u ↦ (suits.parts p u).0 ];
    contents = λ i c l e. elim (named_at ts w i c e) [ by_old m u ↦ g.contents i c l u | by_new m u ↦ (suits.contents c u).1 ];
  }
