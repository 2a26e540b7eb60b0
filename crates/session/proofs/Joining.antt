-- How branches are joined, one after another.
use Rattle.std.proofs.Common.{◌≡◌, ℕ, ◌<◌, ◌≤◌, List, [], ◌∷◌, length, get_or, take, drop, Ok, Err, Result, refl, sym, ap, ◌∙◌, ◌-◌, subst, arith}
use Rattle.std.proofs.lemmas.List.{take_rest}
use Rattle.rows.specs.declared.type_row.TypeRow.{TypeRow}
use Rattle.rows.specs.declared.type_row.TypeRow.TheVariants.{EmptyChoice, Choice}
use Rattle.typing.specs.declared.fault.TypeFault.{TypeFault}
use Rattle.typing.specs.Outcomes.{all_hold, Gives, ending_of}
use Rattle.typing.specs.Typing.{made, chosen}
use Rattle.typing.proofs.Steps.{then_goes, then_stops}
use Rattle.session.specs.declared.counts.Counts.{Counts}
use Rattle.session.specs.declared.checking.spot.Spot.{Spot as SpotHere}
use Rattle.session.specs.Progress.{spot_of, progress_of, Makes}
use Rattle.session.specs.Typings.{Joins, Chooses}

module _ {s : SpotHere} {rows after : List TypeRow} {c d : Counts} {result : Result ℕ TypeFault} where
  pub none_joined : {xs : List ℕ} → xs ≡ [] → Makes s EmptyChoice rows c result after d → Joins s xs rows c result after d
  none_joined is m = subst (λ xs. Joins s xs rows c result after d) (sym is) (record { gives = m.gives })

  pub some_joined : {x : ℕ} {xs ys : List ℕ} → xs ≡ x ∷ ys → Chooses s x ys rows c result after d → Joins s xs rows c result after d
  some_joined is m = subst (λ xs. Joins s xs rows c result after d) (sym is) (record { gives = m.gives })

  pub choice_full : {x y : ℕ} {xs ys : List ℕ} {f : TypeFault} → xs ≡ y ∷ ys → Makes s (Choice x y) rows c (Err f) after d → result ≡ Err f → Chooses s x xs rows c result after d
  choice_full {x} {y} {xs} {ys} is m e = subst (λ z. Chooses s x z rows c result after d) (sym is)
      (record { gives = λ error. subst (λ z. Gives (chosen (spot_of s) x (y ∷ ys) (progress_of rows c error)) (ending_of z (progress_of after d error))) (sym e) (then_stops (made (spot_of s) (Choice x y) (progress_of rows c error)) _ (m.gives error)) })

  pub choice_more : {mid : List TypeRow} {m : Counts} {x y z : ℕ} {xs ys : List ℕ} → xs ≡ y ∷ ys → Makes s (Choice x y) rows c (Ok z) mid m → Chooses s z ys mid m result after d
      → Chooses s x xs rows c result after d
  choice_more {x = x} {y} {ys = ys} is m k = subst (λ z. Chooses s x z rows c result after d) (sym is)
      (record { gives = λ error. then_goes (made (spot_of s) (Choice x y) (progress_of rows c error)) _ (m.gives error) (k.gives error) })

pub all_chosen : {s : SpotHere} {rows : List TypeRow} {c : Counts} {x : ℕ} {xs : List ℕ} → xs ≡ [] → Chooses s x xs rows c (Ok x) rows c
all_chosen {s} {rows} {c} {x} is = subst (λ xs. Chooses s x xs rows c (Ok x) rows c) (sym is) (record { gives = λ error. all_hold })

-- a list is its first item and the others
parted : (xs : List ℕ) → 1 ≤ length xs → xs ≡ get_or xs 0 0 ∷ drop 1 xs
parted [] l = absurd (omega arith)
parted (x ∷ xs) l = refl

pub emptied : (xs : List ℕ) → length xs < 1 → xs ≡ []
emptied [] l = refl
emptied (x ∷ xs) l = absurd (omega arith)

pub split : (xs : List ℕ) → 1 ≤ length xs → xs ≡ get_or xs 0 0 ∷ take (length xs - 1) (drop 1 xs)
split xs l = parted xs l ∙ ap (λ ys. get_or xs 0 0 ∷ ys) (sym (take_rest xs 1))
