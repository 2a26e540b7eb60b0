-- What is known by marks.
use Rattle.std.proofs.Common.{◌≡◌, ℕ, ◌+◌, ◌*◌, ◌<◌, Bool, List, sym, ◌∙◌, subst, inl, inr, arith}
use Rattle.std.proofs.lemmas.Bool.{cases_eq}
use Rattle.forest.specs.Forests.{Item, forest}
use Rattle.forest.specs.Stores.{children_at}
use Rattle.rows.specs.declared.type_row.TypeRow.{TypeRow}
use Rattle.bits.specs.Bits.{Inserted}
use Rattle.types.specs.Belonging.{Belongs}
use Rattle.validation.specs.Walking.{Known}

module _ (ts : List TypeRow) (trees : List Item) where
  -- one pair more
  pub known_more : (old new : List ℕ) (h c : ℕ) (fresh : Bool) → Inserted old new (h * 512 + c) fresh → c < 512 → Belongs ts c (forest (children_at trees h)) → Known ts trees old → Known ts trees new
  known_more old new h c fresh put small b known g d lt e = elim (cases_eq (g * 512 + d) (h * 512 + c)) [
    | inl same ↦
        let first : h ≡ g = omega arith in
        let second : c ≡ d = omega arith in
        subst (λ x. Belongs ts d (forest (children_at trees x))) first (subst (λ x. Belongs ts x (forest (children_at trees h))) second b)
    | inr other ↦ known g d lt (sym (put.others (g * 512 + d) other) ∙ e)
  ]
