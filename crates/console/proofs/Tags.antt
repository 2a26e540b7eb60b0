-- The tags that a session lists are those that are told.
use Rattle.std.proofs.Common.{◌≡◌, ℕ, min, List, ◌∷◌, length, take, replicate, sym, ap, subst, ◌∙◌, arith, length-take}
use Rattle.std.specs.List.Sorted.{IsPermutation, IsNonDecreasing}
use Rattle.answers.specs.Answers.{done}
use Rattle.rows.specs.Programs.{ProgramRows}
use Rattle.session.specs.Tags.{ListsTags}
use Rattle.console.specs.OnSession.{TagsTold}

-- `kept` are the places of the list that were filled, and `numbers` is what is told
pub told : (p : ProgramRows) (places n : ℕ) (before list kept sorted numbers : List ℕ) → before ≡ replicate (min places 640) 0 → ListsTags p n before list → kept ≡ take n list → IsPermutation kept sorted → IsNonDecreasing sorted → numbers ≡ n ∷ sorted → TagsTold p places (done numbers)
told p places n before list kept sorted numbers zeros lists filled permutes rises is =
    let named = lists.number in
    let whole : length (take n list) ≡ n = omega (arith, length-take n list, lists.long, lists.there) in (
      list,
      subst (λ (k : ℕ). ListsTags p k (replicate (min places 640) 0) list) named (subst (λ (b : List ℕ). ListsTags p n b list) zeros lists),
      (
        sorted,
        subst (λ (ts : List ℕ). IsPermutation ts sorted) (filled ∙ ap (λ k. take k list) named) permutes,
        rises,
        is ∙ ap (λ k. k ∷ sorted) (sym whole ∙ ap (λ k. length (take k list)) named),
      ),
    )
