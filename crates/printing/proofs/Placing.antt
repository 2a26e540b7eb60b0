-- From the text that was written to the outcome of printing.
use Rattle.std.proofs.Common.{◌≡◌, ℕ, ◌<◌, ◌≤◌, true, false, ltb, List, [], ◌∷◌, ◌++◌, map, length, get_or, drop, vec_items, Ok, Err, Result, sym, refl, ap, ◌∙◌, subst, arith}
use Rattle.std.proofs.lemmas.Bool.{and_parts, cond-true, cond-false, ltb-true, lt-ltb, le-ltb}
use Rattle.forest.specs.Forests.{Forest, Item, scalar, element, before, depth, forest}
use Rattle.forest.specs.Stores.{all_below, nothing, picked}
use Rattle.forest.specs.declared.failure.Failure.{Failure}
use Rattle.printing.specs.declared.stop.Stop.{Stop}
use Rattle.printing.specs.declared.stop.Stop.TheVariants.{TooLong, OutOfMemory}
use Rattle.printing.specs.Items.{item_printed, printed_at}
use Rattle.printing.specs.Outcomes.{Prints, placed, printing}
use Rattle.printing.specs.Printed.{joined, texts}
use Rattle.printing.specs.Writing.{Adds, failure_of}
use Rattle.printing.specs.declared.text.Text.{Text}
use Rattle.printing.proofs.Readings.{printed-there}

texts-before : (i : Item) (f : Forest) → texts (before i f) ≡ item_printed i ∷ texts f
texts-before (scalar s) f = refl
texts-before (element t c) f = refl

texts-picked : (ts : List Item) (hs : List ℕ) → all_below (length ts) hs ≡ true → map (printed_at ts) hs ≡ texts (forest (picked ts hs))
texts-picked ts [] there = refl
texts-picked ts (h ∷ hs) there =
    let both = and_parts (ltb h (length ts)) (all_below (length ts) hs) there in
    let here = printed-there ts h (ltb-true h (length ts) both.0) in
    ap (λ x. x ∷ map (printed_at ts) hs) here ∙ ap (λ xs. item_printed (get_or ts h nothing) ∷ xs) (texts-picked ts hs both.1) ∙ sym (texts-before (get_or ts h nothing) (forest (picked ts hs)))

-- where all handles are there and no tree is nested too deep, the outcome goes by the text's length
module _ (ts : List Item) (hs buffer : List ℕ) (there : true ≡ all_below (length ts) hs) (flat : false ≡ ltb 64 (depth (forest (picked ts hs)))) where
  placed-is : placed (joined (map (printed_at ts) hs)) buffer ≡ printing ts hs buffer
  placed-is =
      let f = forest (picked ts hs) in
      ap (λ xs. placed (joined xs) buffer) (texts-picked ts hs (sym there)) ∙ sym (cond-true (all_below (length ts) hs) _ _ (sym there) ∙ cond-false (ltb 64 (depth f)) _ _ (sym flat))

  short_by : (X : Type 0) (e : Stop) (t v : Text) → vec_items t.bytes ≡ [] → t.limit ≡ length buffer → Adds {X = X} (Err e) t v (joined (map (printed_at ts) hs)) → Prints ts hs buffer (Err (failure_of e)) buffer
  short_by X TooLong t v empty limit a =
      let text = joined (map (printed_at ts) hs) in
      let long : length buffer < length text = omega (arith, a, ap (λ xs. length (xs ++ text)) empty) in
      sym (cond-true (ltb (length buffer) (length text)) _ _ (lt-ltb (length buffer) (length text) long)) ∙ placed-is
  short_by X OutOfMemory t v empty limit a = refl

  pub prints_short : {X : Type 0} (p : Result X Stop) (r : Result ℕ Failure) (e : Stop) (t v : Text) → p ≡ Err e → r ≡ Err (failure_of e) → vec_items t.bytes ≡ [] → t.limit ≡ length buffer → Adds p t v (joined (map (printed_at ts) hs)) → Prints ts hs buffer r buffer
  prints_short {X} p r e t v was failed empty limit a =
      let refused = subst (λ x. Adds x t v (joined (map (printed_at ts) hs))) was a in
      subst (λ x. Prints ts hs buffer x buffer) (sym failed) (short_by X e t v empty limit refused)

  pub prints_fits : (text front : List ℕ) (n : ℕ) → text ≡ joined (map (printed_at ts) hs) → length text ≤ length buffer → front ≡ text → n ≡ length text → Prints ts hs buffer (Ok n) (front ++ drop n buffer)
  prints_fits text front n written short copied long =
      let after = ap (λ xs. record { answer = Ok n; buffer = xs ++ drop n buffer }) copied ∙ ap (λ k. record { answer = Ok k; buffer = text ++ drop k buffer }) long in
      let fits = sym (cond-false (ltb (length buffer) (length text)) _ _ (le-ltb (length buffer) (length text) short)) in
      after ∙ fits ∙ ap (λ xs. placed xs buffer) written ∙ placed-is
