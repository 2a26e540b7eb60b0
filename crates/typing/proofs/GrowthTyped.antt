-- What typing computes keeps the rules on rows too, step by step.
use Rattle.std.proofs.Common.{◌≡◌, ℕ, zero, suc, ◌<◌, true, List, [], ◌∷◌, ◌++◌, Option, sym, refl, ap, subst, arith}
use Rattle.rows.specs.declared.type_row.TypeRow.{TypeRow}
use Rattle.rows.specs.declared.type_row.TypeRow.TheVariants.{EmptyChoice, EmptySequence, Integer, String, Boolean, Element, AnyElement, Sequence, Choice, Repetition}
use Rattle.rows.specs.declared.arm.Arm.{Arm}
use Rattle.rows.specs.Arms.{pattern_fits}
use Rattle.rows.specs.Programs.{ProgramRows}
use Rattle.types.specs.Parts.{row, Lawful}
use Rattle.types.proofs.Longer.{Longer, longer_same}
use Rattle.types.proofs.Contexts.{left, right, first, second, repeats, owned}
use Rattle.typing.specs.Kinds.{is_item, Taking, takes, passes, may_take, taking}
use Rattle.typing.specs.Outcomes.{Progress, Outcome, goes, Gives}
use Rattle.typing.specs.Programs.{Orderly}
use Rattle.typing.specs.Rules.{Added}
use Rattle.typing.specs.Typing.{Spot, made, walk_row, walk, copy, branch, branches, chosen, joined, typed}
use Rattle.typing.specs.Growth.{Keeps}
use Rattle.typing.proofs.Steps.{gives_along, gives_given, then_went, made_went}
use Rattle.typing.proofs.Unfolding.{lawful_lower, walk-unfolds}
use Rattle.typing.proofs.Agreement.{gives_types}
use Rattle.typing.proofs.GrowthSteps.{Start, start_on, keeps_on}
use Rattle.typing.proofs.GrowthMade.{bare-empty_choice, bare-empty_sequence}
use Rattle.typing.proofs.GrowthChoices.{Joined, choice_more, parted}
use Rattle.typing.proofs.Growth.{Fit, KeepsAll, made_bare, made_item, made_narrowed, made_sequence, made_choice, made_repetition, then_keeps, start_then, longer_then, first_fits, others_fit, all_one, all_with, types_grow}

-- ONE ROW

pub made_added : (s : Spot) {w : TypeRow} {p q : Progress} {x : ℕ} → Gives (made s w p) (goes x q) → Added w p x q
made_added s {w} {p} {q} {x} h = let m = made_went s w p h in record { room = m.0; place = cc; table = cc }

-- WALKS

module _ (declared : ℕ) (s : Spot) (item : ℕ → Progress → Outcome ℕ) {ts : List TypeRow} (law : Lawful ts) where
  -- what is put in the place of an item keeps the rules
  abbrev pub ItemsKeep : Type 0
  ItemsKeep = (i : ℕ) (p : Progress) (x : ℕ) (q : Progress) → is_item (row ts i) ≡ true → Start declared p → Longer ts p.types → Gives (item i p) (goes x q) → Keeps declared p x q

  abbrev WalksKeep : ℕ → Type 0
  WalksKeep n = (r : ℕ) (p : Progress) (x : ℕ) (q : Progress) → r < n → Start declared p → Longer ts p.types → Gives (walk s item ts r p) (goes x q) → Keeps declared p x q

  row_keeps : ItemsKeep → (r : ℕ) (p : Progress) (x : ℕ) (q : Progress) → WalksKeep r → Start declared p → Longer ts p.types → (w : TypeRow) → row ts r ≡ w → Gives (walk_row s item (walk s item ts) r w p) (goes x q) → Keeps declared p x q
  row_keeps items r p x q below t l EmptyChoice e h = made_bare t bare-empty_choice (made_added s h)
  row_keeps items r p x q below t l EmptySequence e h = made_bare t bare-empty_sequence (made_added s h)
  row_keeps items r p x q below t l Integer e h = items r p x q (ap is_item e) t l h
  row_keeps items r p x q below t l String e h = items r p x q (ap is_item e) t l h
  row_keeps items r p x q below t l Boolean e h = items r p x q (ap is_item e) t l h
  row_keeps items r p x q below t l (Element n c) e h = items r p x q (ap is_item e) t l h
  row_keeps items r p x q below t l (AnyElement c) e h = items r p x q (ap is_item e) t l h
  row_keeps items r p x q below t l (Sequence a b) e h =
      let v = then_went _ _ h in
      let m = then_went _ _ v.3 in
      let k = below a p v.0 v.1 (law.lower r a (owned ts r e (left refl))) t l v.2 in
      made_sequence t k (below b v.1 m.0 m.1 (law.lower r b (owned ts r e (right refl))) (start_then t k) (longer_then l k) m.2) (made_added s m.3)
  row_keeps items r p x q below t l (Choice a b) e h =
      let v = then_went _ _ h in
      let m = then_went _ _ v.3 in
      let k = below a p v.0 v.1 (law.lower r a (owned ts r e (first refl))) t l v.2 in
      made_choice t k (below b v.1 m.0 m.1 (law.lower r b (owned ts r e (second refl))) (start_then t k) (longer_then l k) m.2) (made_added s m.3)
  row_keeps items r p x q below t l (Repetition a) e h =
      let v = then_went _ _ h in
      made_repetition t (below a p v.0 v.1 (law.lower r a (owned ts r e (repeats refl))) t l v.2) (made_added s v.3)

  rows_keep : ItemsKeep → (n : ℕ) → WalksKeep n
  rows_keep items zero r p x q lt t l h = absurd (omega arith)
  rows_keep items (suc n) r p x q lt t l h =
      row_keeps items r p x q (λ a o y u m. rows_keep items n a o y u (omega arith)) t l (row ts r) refl (gives_along (sym (walk-unfolds s item (lawful_lower law) r p)) h)

  pub walk_keeps : ItemsKeep → (r : ℕ) (p : Progress) {x : ℕ} {q : Progress} → Start declared p → Longer ts p.types → Gives (walk s item ts r p) (goes x q) → Keeps declared p x q
  walk_keeps items r p {x} {q} t l h = rows_keep items (suc r) r p x q (omega arith) t l h

pub copy_keeps : (declared : ℕ) (s : Spot) (r : ℕ) (p : Progress) {x : ℕ} {q : Progress} → Start declared p → Gives (copy s r p) (goes x q) → Keeps declared p x q
copy_keeps declared s r p t h = walk_keeps declared s (λ i q. made s (row p.types i) q) t.checked.lawful (λ i o y u e k l m. made_item i k l e (made_added s m)) r p t (longer_same p.types) h

-- EXPRESSIONS

all_along : {declared : ℕ} {p q o : Progress} {bs cs : List ℕ} → goes bs q ≡ goes cs o → KeepsAll declared p cs o → KeepsAll declared p bs q
all_along {declared} {p} {q} {o} {bs} {cs} e k = let i : cs ≡ bs = cc in let j : o ≡ q = cc in subst (KeepsAll declared p bs) j (subst (λ z. KeepsAll declared p z o) i k)

module _ {g : ProgramRows} (orderly : Orderly g) (f : Option ℕ) (declared : ℕ) where
  pub typed_keeps : (vs : List ℕ) (e : ℕ) (p : Progress) {x : ℕ} {q : Progress} → Start declared p → Gives (typed g f vs e p) (goes x q) → Keeps declared p x q
  typed_keeps vs e p t h = types_grow orderly t (gives_types orderly f vs e p (lawful_lower t.checked.lawful) h)

  -- the body of a for, for each item
  pub loop_keeps : (s : Spot) (vs : List ℕ) (b r : ℕ) {ts : List TypeRow} (p : Progress) {x : ℕ} {q : Progress} → Lawful ts → Start declared p → Longer ts p.types
      → Gives (walk s (λ i o. typed g f (vs ++ (i ∷ [])) b o) ts r p) (goes x q) → Keeps declared p x q
  loop_keeps s vs b r p law t l h = walk_keeps declared s (λ i o. typed g f (vs ++ (i ∷ [])) b o) law (λ i o y u e k m n. typed_keeps (vs ++ (i ∷ [])) b o k n) r p t l h

  -- the branches of a match
  module _ (s : Spot) (vs : List ℕ) (x else : ℕ) where
    branch_keeps : (named : List ℕ) (arm : Arm) (arms : List Arm) (p : Progress) {bs : List ℕ} {q : Progress} → pattern_fits arm.pattern ≡ true
        → ((ns : List ℕ) (o : Progress) (cs : List ℕ) (u : Progress) → Start declared o → Gives (branches s (typed g f) vs x else arms ns o) (goes cs u) → KeepsAll declared o cs u)
        → Start declared p → (k : Taking) → taking named (row p.types x) arm.pattern ≡ k → Gives (branch s (typed g f) vs x named arm.body (branches s (typed g f) vs x else arms) k p) (goes bs q)
        → KeepsAll declared p bs q
    branch_keeps named arm arms p fits rest t takes e h =
        let v = then_went _ _ h in
        all_along (gives_given v.3) (all_one (typed_keeps (vs ++ (x ∷ [])) arm.body p t v.2))
    branch_keeps named arm arms p {bs} {q} fits rest t passes e h = rest named p bs q t h
    branch_keeps named arm arms p fits rest t (may_take n) e h =
        let v = then_went _ _ h in
        let m = then_went _ _ v.3 in
        let o = then_went _ _ m.3 in
        let k = made_narrowed x named arm t fits e (made_added s v.2) in
        let l = typed_keeps (vs ++ (v.0 ∷ [])) arm.body v.1 (start_then t k) m.2 in
        all_along (gives_given o.3) (all_with k l (rest (n ∷ named) m.1 o.0 o.1 (start_then t (then_keeps k l)) o.2))

    pub branches_keep : (arms : List Arm) → Fit arms → (named : List ℕ) (p : Progress) (bs : List ℕ) (q : Progress) → Start declared p → Gives (branches s (typed g f) vs x else arms named p) (goes bs q) → KeepsAll declared p bs q
    branches_keep [] fit named p bs q t h =
        let v = then_went _ _ h in
        all_along (gives_given v.3) (all_one (typed_keeps vs else p t v.2))
    branches_keep (arm ∷ arms) fit named p bs q t h =
        branch_keeps named arm arms p (first_fits arm arms fit) (λ ns o cs u k m. branches_keep arms (others_fit arm arms fit) ns o cs u k m) t (taking named (row p.types x) arm.pattern) refl h

-- THEIR CHOICES

module _ {declared : ℕ} (s : Spot) {b : Progress} (start : Start declared b) where
  pub chosen_keep : (x : ℕ) (xs : List ℕ) (p : Progress) {z : ℕ} {q : Progress} → Joined declared b x xs p → Gives (chosen s x xs p) (goes z q) → Keeps declared b z q
  chosen_keep x [] p {z} {q} j h =
      let e = gives_given h in
      let i : x ≡ z = cc in
      let o : p ≡ q = cc in
      subst (λ n. Keeps declared b n q) i (subst (Keeps declared b x) o (record { kept = j.kept; fresh = j.rows.first }))
  chosen_keep x (y ∷ ys) p j h = let v = then_went _ _ h in chosen_keep v.0 ys v.1 (choice_more start j (made_added s v.2)) v.3

  pub joined_keep : (bs : List ℕ) (p : Progress) {z : ℕ} {q : Progress} → KeepsAll declared b bs p → Gives (joined s bs p) (goes z q) → Keeps declared b z q
  joined_keep [] p k h = keeps_on k.kept (made_bare (start_on start k.kept) bare-empty_choice (made_added s h))
  joined_keep (x ∷ xs) p k h = chosen_keep x xs p (record { kept = k.kept; rows = parted k.all }) h
