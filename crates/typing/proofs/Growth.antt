-- Typing keeps the rules on rows, and gives fresh rows.
use Rattle.std.proofs.Common.{◌≡◌, ℕ, zero, suc, Bool, true, ltb, List, [], ◌∷◌, length, take, drop, sym, refl, ap, ◌∙◌, arith}
use Rattle.std.proofs.lemmas.Bool.{and_parts, and_from, false≢true}
use Rattle.std.specs.List.{list_all}
use Rattle.forest.specs.Forests.{tag_lawful}
use Rattle.rows.specs.declared.type_row.TypeRow.{TypeRow}
use Rattle.rows.specs.declared.type_row.TypeRow.TheVariants.{EmptyChoice, Sequence as SequenceType, Choice, Repetition, Element as ElementType}
use Rattle.rows.specs.declared.expression.Expression.TheVariants.{Element}
use Rattle.rows.specs.declared.expression.Room.{Room}
use Rattle.rows.specs.declared.arm.Arm.{Arm}
use Rattle.rows.specs.Arms.{pattern_fits}
use Rattle.rows.specs.Expressions.{expression_fits}
use Rattle.rows.specs.Programs.{ProgramRows}
use Rattle.types.specs.Parts.{row}
use Rattle.types.proofs.Longer.{Longer, longer_same, longer_on, still}
use Rattle.typing.specs.Kinds.{is_item, may_take, taking, narrowed}
use Rattle.typing.specs.Outcomes.{Progress}
use Rattle.typing.specs.Typing.{expression_at}
use Rattle.typing.specs.Programs.{Orderly}
use Rattle.typing.specs.Rules.{Added, Chosen, Each, Types, error, integer, boolean, string, variable, element, sequence, empty, if, let_in, for_each, match_item, call, add, equal, is_empty, count, children, as_type, Walks, item_copied, item_typed, no_choice, nothing, both, either, repeated, Branches, otherwise, arm_takes, arm_passes, arm_may}
use Rattle.typing.specs.Growth.{Kept, Fresh, Keeps}
use Rattle.typing.proofs.GrowthSteps.{longer_of, Start, kept_none, kept_on, start_on, keeps_on, added}
use Rattle.typing.proofs.GrowthMade.{Bare, bare-empty_choice, bare-empty_sequence, bare-integer, bare-string, bare-boolean, suits_bare, suits_sequence, suits_choice, suits_repetition, suits_element, suits_item, suits_narrowed, may_be}
use Rattle.typing.proofs.GrowthChoices.{fresh_on, fresh_since, AllFresh, all_none, all_more, all_since, before_all, parted, chosen_keeps}

-- FACTS ON PROGRAMS

pub all_take : {X : Type 0} (p : X → Bool) (n : ℕ) (xs : List X) → list_all p xs ≡ true → list_all p (take n xs) ≡ true
all_take p zero xs h = refl
all_take p (suc n) [] h = refl
all_take p (suc n) (x ∷ xs) h = let a = and_parts (p x) (list_all p xs) h in and_from (p x) (list_all p (take n xs)) a.0 (all_take p n xs a.1)

pub all_drop : {X : Type 0} (p : X → Bool) (n : ℕ) (xs : List X) → list_all p xs ≡ true → list_all p (drop n xs) ≡ true
all_drop p zero xs h = h
all_drop p (suc n) [] h = refl
all_drop p (suc n) (x ∷ xs) h = all_drop p n xs (and_parts (p x) (list_all p xs) h).1

module _ {g : ProgramRows} (orderly : Orderly g) where
  -- the tag of an element row is in range
  pub tag_fits : (e t a : ℕ) → expression_at g e ≡ Element t a → tag_lawful t ≡ true
  tag_fits e t a i =
      let m : Room = record { expressions = e; arms = length g.arms; bytes = length g.text } in
      (and_parts (tag_lawful t) (ltb a e) (ap (expression_fits m) (sym i) ∙ orderly.fit e)).0

-- STEPS

-- the tags of arms are in range
abbrev pub Fit : List Arm → Type 0
Fit arms = list_all (λ arm. pattern_fits arm.pattern) arms ≡ true

pub first_fits : (arm : Arm) (arms : List Arm) → Fit (arm ∷ arms) → pattern_fits arm.pattern ≡ true
first_fits arm arms f = (and_parts (pattern_fits arm.pattern) (list_all (λ a. pattern_fits a.pattern) arms) f).0

pub others_fit : (arm : Arm) (arms : List Arm) → Fit (arm ∷ arms) → Fit arms
others_fit arm arms f = (and_parts (pattern_fits arm.pattern) (list_all (λ a. pattern_fits a.pattern) arms) f).1

-- typing gives these rows
pub record KeepsAll (declared : ℕ) (p : Progress) (bs : List ℕ) (q : Progress) : Type 0 where
  pub kept : Kept declared p q
  pub all : AllFresh p.types q.types bs

module _ {declared : ℕ} where
  pub made_bare : {p q : Progress} {x : ℕ} {w : TypeRow} → Start declared p → Bare w → Added w p x q → Keeps declared p x q
  made_bare s b a = added s (kept_none s) (suits_bare b) a

  pub behind_bare : {p q o : Progress} {x y : ℕ} {w : TypeRow} → Start declared p → Bare w → Keeps declared p x q → Added w q y o → Keeps declared p y o
  behind_bare s b k a = added s k.kept (suits_bare b) a

  pub then_keeps : {p q o : Progress} {x y : ℕ} → Keeps declared p x q → Keeps declared q y o → Keeps declared p y o
  then_keeps k l = keeps_on k.kept l

  pub start_then : {p q : Progress} {x : ℕ} → Start declared p → Keeps declared p x q → Start declared q
  start_then s k = start_on s k.kept

  -- both rows are fresh, and differ
  fresh_left : {p q o : Progress} {x y : ℕ} → Keeps declared p x q → Keeps declared q y o → Fresh p.types o.types x
  fresh_left k l = fresh_on k.fresh l.kept.grows

  fresh_right : {p q o : Progress} {x y : ℕ} → Keeps declared p x q → Keeps declared q y o → Fresh p.types o.types y
  fresh_right k l = fresh_since k.kept.grows l.fresh

  apart : {p q o : Progress} {x y : ℕ} → Keeps declared p x q → Keeps declared q y o → x ≡ y → ⊥
  apart k l e = let a = k.fresh.free.root.there in let b = l.fresh.new in omega arith

  pub made_sequence : {p q o u : Progress} {x y z : ℕ} → Start declared p → Keeps declared p x q → Keeps declared q y o → Added (SequenceType x y) o z u → Keeps declared p z u
  made_sequence s k l a = added s (kept_on k.kept l.kept) (suits_sequence (fresh_left k l) (fresh_right k l) (apart k l)) a

  pub made_choice : {p q o u : Progress} {x y z : ℕ} → Start declared p → Keeps declared p x q → Keeps declared q y o → Added (Choice x y) o z u → Keeps declared p z u
  made_choice s k l a = added s (kept_on k.kept l.kept) (suits_choice (fresh_left k l) (fresh_right k l) (apart k l)) a

  pub made_repetition : {p q o : Progress} {x y : ℕ} → Start declared p → Keeps declared p x q → Added (Repetition x) q y o → Keeps declared p y o
  made_repetition s k a = added s k.kept (suits_repetition k.fresh) a

  pub made_element : {p q o : Progress} {t x y : ℕ} → Start declared p → tag_lawful t ≡ true → Keeps declared p x q → Added (ElementType t x) q y o → Keeps declared p y o
  made_element s t k a = added s k.kept (suits_element t k.kept.checked.lawful.few k.fresh) a

  -- the row of an error
  pub with_error : {p q : Progress} {x : ℕ} → Keeps declared p x q → Keeps declared p x (record { types = q.types; error = true })
  with_error k = record { kept = record { grows = k.kept.grows; error = λ e. refl; checked = k.kept.checked }; fresh = k.fresh }

  -- an item of a table that p grew from
  pub made_item : {ts : List TypeRow} (r : ℕ) {p q : Progress} {x : ℕ} → Start declared p → Longer ts p.types → is_item (row ts r) ≡ true → Added (row ts r) p x q → Keeps declared p x q
  made_item {ts} r s l i a = added s (kept_none s) (suits_item r s.checked (still l r refl (not_item i)) i) a
    where
      not_item : is_item (row ts r) ≡ true → EmptyChoice ≡ row ts r → ⊥
      not_item i e = false≢true (ap is_item e ∙ i)

  -- the elements that an arm may take
  pub made_narrowed : {p q : Progress} (x : ℕ) {v t : ℕ} (named : List ℕ) (arm : Arm) → Start declared p → pattern_fits arm.pattern ≡ true → taking named (row p.types x) arm.pattern ≡ may_take t
      → Added (narrowed t (row p.types x)) p v q → Keeps declared p v q
  made_narrowed {p} x named arm s f e a = let m = may_be named (row p.types x) arm.pattern e f in added s (kept_none s) (suits_narrowed x s.checked m.0 m.2) a

  -- the branches of a match
  pub all_one : {p q : Progress} {b : ℕ} → Keeps declared p b q → KeepsAll declared p (b ∷ []) q
  all_one k = record { kept = k.kept; all = all_more k.fresh tt all_none }

  pub all_with : {p q o u : Progress} {v b : ℕ} {bs : List ℕ} → Keeps declared p v q → Keeps declared q b o → KeepsAll declared o bs u → KeepsAll declared p (b ∷ bs) u
  all_with {b = b} k l r =
      let before = then_keeps k l in
      record {
        kept = kept_on before.kept r.kept;
        all = all_more (fresh_on before.fresh r.kept.grows) (before_all b l.fresh.free.root.there r.all) (all_since before.kept.grows r.all);
      }

  pub joined_keeps : {p q o u : Progress} {x y z : ℕ} {ys : List ℕ} → Start declared p → Keeps declared p x q → KeepsAll declared q (y ∷ ys) o → Chosen y ys o z u → Keeps declared p z u
  joined_keeps s k r c = keeps_on k.kept (chosen_keeps (start_then s k) (record { kept = r.kept; rows = parted r.all }) c)

  pub longer_then : {ts : List TypeRow} {p q : Progress} {x : ℕ} → Longer ts p.types → Keeps declared p x q → Longer ts q.types
  longer_then l k = longer_on l (longer_of k.kept.grows)

-- TYPING

module _ {g : ProgramRows} (orderly : Orderly g) where
  pub fit_arms : (from long : ℕ) → Fit (take long (drop from g.arms))
  fit_arms from long = all_take (λ arm. pattern_fits arm.pattern) long (drop from g.arms) (all_drop (λ arm. pattern_fits arm.pattern) from g.arms orderly.arms_fit)

module _ {g : ProgramRows} (orderly : Orderly g) {declared : ℕ} where
  mutual
    pub types_grow : {vs : List ℕ} {e x : ℕ} {p q : Progress} → Start declared p → Types g vs e p x q → Keeps declared p x q
    types_grow s (error i a) = with_error (made_bare s bare-empty_choice a)
    types_grow s (integer i a) = made_bare s bare-integer a
    types_grow s (boolean i a) = made_bare s bare-boolean a
    types_grow s (string i a) = made_bare s bare-string a
    types_grow s (variable {p = p} i l w) = walks_grow s (longer_same p.types) w
    types_grow s (element {e = e} {t} {a} i d m) = made_element s (tag_fits orderly e t a i) (types_grow s d) m
    types_grow s (sequence i d f m) = let k = types_grow s d in made_sequence s k (types_grow (start_then s k) f) m
    types_grow s (empty i a) = made_bare s bare-empty_sequence a
    types_grow s (if i d b f h m) =
        let k = types_grow s d in
        let t = start_then s k in
        let l = types_grow t f in
        then_keeps k (made_choice t l (types_grow (start_then t l) h) m)
    types_grow s (let_in i d f) = let k = types_grow s d in then_keeps k (types_grow (start_then s k) f)
    types_grow s (for_each {q = q} i d w) = let k = types_grow s d in then_keeps k (walks_grow (start_then s k) (longer_same q.types) w)
    types_grow s (match_item {from = from} {long} i d b r c) = let k = types_grow s d in joined_keeps s k (branches_grow (start_then s k) (fit_arms orderly from long) r) c
    types_grow s (call {q = q} i j d h w) = let k = types_grow s d in then_keeps k (walks_grow (start_then s k) (longer_same q.types) w)
    types_grow s (add i d b f c m) = let k = types_grow s d in behind_bare s bare-integer (then_keeps k (types_grow (start_then s k) f)) m
    types_grow s (equal i d b f c m) = let k = types_grow s d in behind_bare s bare-boolean (then_keeps k (types_grow (start_then s k) f)) m
    types_grow s (is_empty i d m) = behind_bare s bare-boolean (types_grow s d) m
    types_grow s (count i d m) = behind_bare s bare-integer (types_grow s d) m
    types_grow s (children {q = q} i d c w) = let k = types_grow s d in then_keeps k (walks_grow (start_then s k) (longer_same q.types) w)
    types_grow s (as_type {q = q} i d h w) = let k = types_grow s d in then_keeps k (walks_grow (start_then s k) (longer_same q.types) w)

    pub walks_grow : {w : Each} {ts : List TypeRow} {r x : ℕ} {p q : Progress} → Start declared p → Longer ts p.types → Walks g w ts r p x q → Keeps declared p x q
    walks_grow s l (item_copied {r = r} i a) = made_item r s l i a
    walks_grow s l (item_typed i d) = types_grow s d
    walks_grow s l (no_choice i a) = made_bare s bare-empty_choice a
    walks_grow s l (nothing i a) = made_bare s bare-empty_sequence a
    walks_grow s l (both i v w a) = let k = walks_grow s l v in made_sequence s k (walks_grow (start_then s k) (longer_then l k) w) a
    walks_grow s l (either i v w a) = let k = walks_grow s l v in made_choice s k (walks_grow (start_then s k) (longer_then l k) w) a
    walks_grow s l (repeated i v a) = made_repetition s (walks_grow s l v) a

    pub branches_grow : {vs named bs : List ℕ} {x else : ℕ} {arms : List Arm} {p q : Progress} → Start declared p → Fit arms → Branches g vs x else arms named p bs q → KeepsAll declared p bs q
    branches_grow s f (otherwise d) = all_one (types_grow s d)
    branches_grow s f (arm_takes e d) = all_one (types_grow s d)
    branches_grow s f (arm_passes {arm = arm} {arms} e r) = branches_grow s (others_fit arm arms f) r
    branches_grow s f (arm_may {named = named} {x = x} {arm = arm} {arms} e a d r) =
        let k = made_narrowed x named arm s (first_fits arm arms f) e a in
        let l = types_grow (start_then s k) d in
        all_with k l (branches_grow (start_then s (then_keeps k l)) (others_fit arm arms f) r)
