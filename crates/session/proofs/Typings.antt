-- What typing keeps, as the session's tables hold it.
use Rattle.std.proofs.Common.{◌≡◌, ℕ, zero, suc, ◌+◌, ◌-◌, ◌<◌, Bool, true, false, ◌&&◌, ◌⊎◌, ltb, List, [], ◌∷◌, ◌++◌, length, take, get_or, Some, None, Option, Ok, Err, Result, slice_get, sym, refl, ap, ◌∙◌, subst, inl, inr, arith, ltb-true}
use Rattle.std.proofs.lemmas.Bool.{and_parts}
use Rattle.std.proofs.lemmas.List.{length_push, take_at}
use Rattle.forest.specs.declared.fault.Reason.TheVariants.{Unbound, NoSuchFunction, WrongKind, Unfit}
use Rattle.rows.specs.declared.type_row.TypeRow.{TypeRow}
use Rattle.rows.specs.declared.type_row.TypeRow.TheVariants.{EmptyChoice}
use Rattle.rows.specs.declared.expression.Expression.{Expression}
use Rattle.rows.specs.declared.expression.Expression.TheVariants.{Call}
use Rattle.rows.specs.Expressions.{expression_fits}
use Rattle.rows.specs.declared.function.Function.{Function}
use Rattle.rows.specs.Programs.{ProgramRows}
use Rattle.types.specs.Parts.{row, content}
use Rattle.typing.specs.declared.fault.TypeFault.{TypeFault}
use Rattle.typing.specs.Programs.{Orderly}
use Rattle.typing.specs.Growth.{Grows as GrowsTo, Keeps}
use Rattle.typing.specs.Outcomes.{Progress, Outcome, Ending, goes, stops, all_hold, Gives, then, ending_of}
use Rattle.typing.specs.Typing.{Spot, expression_at, stop_at, made, came_to_error, needing, fitting, copy, walk, variable, children_of, call, typed}
use Rattle.types.specs.Belonging.{Subtype}
use Rattle.typing.specs.Faults.{type_fault}
use Rattle.typing.proofs.Steps.{then_goes, needing_fails, fitting_fails}
use Rattle.typing.proofs.Unfolding.{PartsLower, typed-unfolds}
use Rattle.typing.proofs.Agreement.{gives_types, gives_walks}
use Rattle.typing.proofs.GrowthSteps.{Start, longer_of}
use Rattle.typing.proofs.GrowthMeaning.{grown_root}
use Rattle.typing.proofs.Growth.{types_grow, walks_grow}
use Rattle.types.proofs.Longer.{longer_same}
use Rattle.session.specs.declared.counts.Counts.{Counts}
use Rattle.session.specs.declared.program.Program.{Program}
use Rattle.session.specs.declared.checking.scope.State.{State}
use Rattle.session.specs.declared.checking.spot.Spot.{Spot as SpotHere}
use Rattle.session.specs.Tables.{program_rows}
use Rattle.session.specs.Progress.{spot_of, table_of, progress_of, DeclaredRoot, Grows, Walkable, WalksOver, Walks, Makes, Copies}
use Rattle.session.specs.Typings.{Typable, Standing, Stays, Typing, Gave, now, spot_at, kind_typed, part_fitted, item_typed, Room}
use Rattle.session.proofs.Making.{table-long, grows_on}
use Rattle.session.proofs.Copying.{reads}
use Rattle.session.proofs.Orders.{orderly}

-- GROWTH

pub declared_on : {declared : ℕ} {ts us : List TypeRow} {r : ℕ} → GrowsTo ts us → DeclaredRoot declared ts r → DeclaredRoot declared us r
declared_on g h = record { root = grown_root g h.root; low = h.low }

typable_on : {g : ProgramRows} {declared : ℕ} {vs : List ℕ} {p q : Progress} {x : ℕ} → Keeps declared p x q → Typable g declared vs p.types → Typable g declared vs q.types
typable_on k h =
    let grows = k.kept.grows in
    let long = (longer_of grows).long in
    let within = h.within in
    record {
      checked = k.kept.checked;
      within = omega arith;
      variables = λ i r e. (let l = h.variables i r e in omega arith);
      functions = λ n f e. (let r = h.functions n f e in (declared_on grows r.0, declared_on grows r.1));
      targets = λ e a t is. declared_on grows (h.targets e a t is);
    }

-- after a part was typed: typing can go on, and what was given is there
pub record Onward (g : ProgramRows) (rows : List TypeRow) (c : Counts) (after : List TypeRow) (d : Counts) (t : State) (x : ℕ) : Type 0 where
  pub standing : Standing g after d t
  pub there : x < d.all
  pub roots : (r : ℕ) → DeclaredRoot c.declared (table_of rows c) r → DeclaredRoot d.declared (table_of after d) r

pub onward : {g : ProgramRows} {rows after : List TypeRow} {c d : Counts} {s t : State} {x : ℕ} → Standing g rows c s → length after ≡ 512 → Stays rows c s after d t → Keeps c.declared (now rows c s) x (now after d t) → Onward g rows c after d t x
onward {g} {rows} {after} {c} {d} {s} {t} {x} h long stays k =
    let on = typable_on k h.typable in
    let vars = subst (λ vs. Typable g c.declared vs (table_of after d)) (sym stays.variables) on in
    let there = k.fresh.free.root.there in
    let n = table-long after d long in
    record {
      standing = record { long = long; typable = subst (λ n. Typable g n t.variables.items (table_of after d)) (sym stays.grows.declared) vars };
      there = omega arith;
      roots = λ r h. subst (λ n. DeclaredRoot n (table_of after d) r) (sym stays.grows.declared) (declared_on k.kept.grows h);
    }

lower_of : {g : ProgramRows} {rows : List TypeRow} {c : Counts} {s : State} → Standing g rows c s → PartsLower (table_of rows c)
lower_of h = record { lower = h.typable.checked.lawful.lower }

pub start_of : {g : ProgramRows} {rows : List TypeRow} {c : Counts} {s : State} → Standing g rows c s → Start c.declared (now rows c s)
start_of h = record { checked = h.typable.checked; within = h.typable.within }

pub walkable_now : {g : ProgramRows} {rows : List TypeRow} {c : Counts} {s : State} {r : ℕ} → Standing g rows c s → r < c.all → Walkable rows c r
walkable_now h l = record { there = l; lower = λ i p le o. h.typable.checked.lawful.lower i p o }

over_now : {g : ProgramRows} {rows : List TypeRow} {c : Counts} {s : State} {r : ℕ} → Standing g rows c s → r < c.all → WalksOver (table_of rows c) r (table_of rows c)
over_now {g} {rows} {c} {s} {r} h l =
    let n = table-long rows c h.long in
    record { there = omega arith; lower = h.typable.checked.lawful.lower; long = omega arith; same = λ i lt. refl }

-- a part was typed
pub typed_on : {g : ProgramRows} {f : Option ℕ} {us : List ℕ} {e x : ℕ} {rows after : List TypeRow} {c d : Counts} {s t : State} → Orderly g → Standing g rows c s → length after ≡ 512 → Stays rows c s after d t
    → Typing g f us e (now rows c s) (Ok x) (now after d t) → Onward g rows c after d t x
typed_on {g} {f} {us} {e} {x} {rows} {after} {c} {d} {s} {t} law h long stays typing =
    onward h long stays (types_grow law (start_of h) (gives_types law f us e (now rows c s) (lower_of h) typing.gives))

-- a type was walked over
pub walked_on : {g : ProgramRows} (f : Option ℕ) (b r : ℕ) {x : ℕ} {spot : SpotHere} {rows after : List TypeRow} {c d : Counts} {s t : State} → Orderly g → Standing g rows c s → r < c.all → length after ≡ 512 → Stays rows c s after d t
    → Walks (item_typed g f s.variables.items b) (spot_of spot) r (now rows c s) (goes x (now after d t)) → Onward g rows c after d t x
walked_on f b r {x} {spot} {rows} {after} {c} {d} {s} {t} law h l long stays w =
    let rules = gives_walks law f (spot_of spot) s.variables.items b r (now rows c s) (lower_of h) (w.gives (table_of rows c) (over_now h l)) in
    onward h long stays (walks_grow law (start_of h) (longer_same (table_of rows c)) rules)

-- STAYING

pub stays_on : {rows after last : List TypeRow} {c d e : Counts} {s t u : State} → Stays rows c s after d t → Stays after d t last e u → Stays rows c s last e u
stays_on h k = record { grows = grows_on h.grows k.grows; variables = k.variables ∙ h.variables }

pub stays_then : {rows after last : List TypeRow} {c d e : Counts} {s t : State} → Stays rows c s after d t → Grows after d last e → Stays rows c s last e t
stays_then h k = record { grows = grows_on h.grows k; variables = h.variables }

-- ROOM

pub room_part : {g : ProgramRows} {s : State} {e a : ℕ} → Room g s e → a < e → Room g s a
room_part r l = let a = r.there in let b = r.variables in record { there = omega arith; variables = omega arith }

pub room_on : {g : ProgramRows} {s t : State} {e : ℕ} → t.variables.items ≡ s.variables.items → Room g s e → Room g t e
room_on {s = s} {t} e r = let l : length t.variables.items ≡ length s.variables.items = ap length e in let b = r.variables in record { there = r.there; variables = omega arith }

-- LEAVES

pub copied_now : {g : ProgramRows} {spot : SpotHere} {r : ℕ} {rows after : List TypeRow} {c d : Counts} {s : State} {result : Result ℕ TypeFault} → Standing g rows c s → r < c.all → Copies spot r rows c result after d
    → Gave (copy (spot_of spot) r (now rows c s)) result (progress_of after d s.error)
copied_now {rows = rows} {c = c} {s = s} h l k = record { gives = (k.walks s.error).gives (table_of rows c) (over_now h l) }

pub error_typed : {spot : SpotHere} {x : ℕ} {rows after : List TypeRow} {c d : Counts} (error : Bool) → Makes spot EmptyChoice rows c (Ok x) after d
    → Gave (then (made (spot_of spot) EmptyChoice (progress_of rows c error)) came_to_error) (Ok x) (progress_of after d true)
error_typed {spot} {rows = rows} {c = c} error m = record { gives = then_goes (made (spot_of spot) EmptyChoice (progress_of rows c error)) came_to_error (m.gives error) all_hold }

pub unbound : (vs : List ℕ) (i : ℕ) {spot : SpotHere} {f : TypeFault} (p : Progress) → None ≡ slice_get vs i → f ≡ type_fault Unbound spot.at spot.function → Gave (variable (spot_of spot) (slice_get vs i) p) (Err f) p
unbound vs i {spot} {f} p is e = subst (λ o. Gave (variable (spot_of spot) o p) (Err f) p) is (record { gives = subst (λ z. Gives {A = ℕ} (stop_at (spot_of spot) Unbound) (stops z)) (sym e) all_hold })

pub bound : (spot : SpotHere) (vs : List ℕ) (i : ℕ) {r : ℕ} (p : Progress) {q : Progress} {result : Result ℕ TypeFault} → slice_get vs i ≡ Some r → Gave (copy (spot_of spot) r p) result q → Gave (variable (spot_of spot) (slice_get vs i) p) result q
bound spot vs i {r} p {q} {result} is h = subst (λ o. Gave (variable (spot_of spot) o p) result q) (sym is) h

-- WHAT COMES OF STEPS

pub gave_err : {o : Outcome ℕ} {result : Result ℕ TypeFault} {f : TypeFault} {q : Progress} → result ≡ Err f → Gives o (stops f) → Gave o result q
gave_err {o} {q = q} e h = subst (λ z. Gave o z q) (sym e) (record { gives = h })

-- the variables are as they were
pub typing_at : {g : ProgramRows} {f : Option ℕ} {vs us : List ℕ} {e : ℕ} {p q : Progress} {result : Result ℕ TypeFault} → us ≡ vs → Typing g f us e p result q → Typing g f vs e p result q
typing_at {g} {f} {e = e} {p} {q} {result} is h = subst (λ z. Typing g f z e p result q) is h

-- a row is typed by its kind
pub by_kind : {g : ProgramRows} {f : Option ℕ} {vs : List ℕ} {e : ℕ} {w : Expression} {p q : Progress} {result : Result ℕ TypeFault} → Orderly g → expression_at g e ≡ w → Gives (kind_typed g f vs e w p) (ending_of result q) → Typing g f vs e p result q
by_kind {g} {f} {vs} {e} {w} {p} {q} {result} law is h =
    let unfolds = typed-unfolds law f vs e p ∙ ap (λ z. kind_typed g f vs e z p) is in
    record { gives = subst (λ o. Gives o (ending_of result q)) (sym unfolds) h }

-- WHAT IS KNOWN OF ROWS THAT WERE READ

-- a test on a row that was read
pub kind_at : (K : TypeRow → Bool) (rows : List TypeRow) (c : Counts) (r : ℕ) {b v : Bool} → r < c.all → b ≡ K (get_or rows r EmptyChoice) → b ≡ v → K (row (table_of rows c) r) ≡ v
kind_at K rows c r l e is = ap K (reads rows c r l refl) ∙ sym e ∙ is

pub content_at : (rows : List TypeRow) (c : Counts) (r : ℕ) {o : Option ℕ} → r < c.all → o ≡ content (get_or rows r EmptyChoice) → content (row (table_of rows c) r) ≡ o
content_at rows c r l e = ap content (reads rows c r l refl) ∙ sym e

-- contents are there
pub content_there : {g : ProgramRows} {rows : List TypeRow} {c : Counts} {s : State} (r : ℕ) {i : ℕ} → Standing g rows c s → content (row (table_of rows c) r) ≡ Some i → i < c.all
content_there {rows = rows} {c} r {i} h is = let l = (h.typable.checked.contents r i is).there in let n = table-long rows c h.long in omega arith

pub root_there : (rows : List TypeRow) (c : Counts) {r declared : ℕ} → length rows ≡ 512 → DeclaredRoot declared (table_of rows c) r → r < c.all
root_there rows c long h = let l = h.root.there in let n = table-long rows c long in omega arith

-- CONTENTS, FITS, CALLS

pub no_content : (s : Spot) {o : Option ℕ} {f : TypeFault} (p : Progress) → o ≡ None → f ≡ type_fault WrongKind s.at s.function → Gives (children_of s o p) (stops f)
no_content s {f = f} p is e = subst (λ z. Gives (children_of s z p) (stops f)) (sym is) (subst (λ z. Gives (children_of s None p) (stops z)) (sym e) all_hold)

pub some_content : (s : Spot) {o : Option ℕ} {i : ℕ} (p : Progress) {e : Ending ℕ} → o ≡ Some i → Gives (copy s i p) e → Gives (children_of s o p) e
some_content s p {e} is h = subst (λ z. Gives (children_of s z p) e) (sym is) h

pub unfit : (s : Spot) (x root : ℕ) (p : Progress) (o : Outcome ℕ) {f : TypeFault} → (Subtype p.types x root → ⊥) × (f ≡ type_fault Unfit s.at s.function) → Gives (fitting s x root p o) (stops f)
unfit s x root p o (n, e) = subst (λ z. Gives (fitting s x root p o) (stops z)) (sym e) (fitting_fails s x root p o n)

pub wrong_kind : (s : Spot) {b : Bool} (o : Outcome ℕ) {f : TypeFault} → b ≡ false → f ≡ type_fault WrongKind s.at s.function → Gives (needing s b o) (stops f)
wrong_kind s {b} o is e = subst (λ z. Gives (needing s b o) (stops z)) (sym e) (needing_fails s o is)

module _ (g : ProgramRows) (f : Option ℕ) (vs : List ℕ) (e n a : ℕ) (p : Progress) where
  pub called : {callee : Function} {r : Ending ℕ} → slice_get g.functions n ≡ Some callee → Gives (part_fitted g f vs e a callee.parameter callee.result p) r → Gives (kind_typed g f vs e (Call n a) p) r
  called {r = r} is h = subst (λ o. Gives (call (spot_at f e) (typed g f) vs a o p) r) (sym is) h

  pub uncalled : {t : TypeFault} → slice_get g.functions n ≡ None → t ≡ type_fault NoSuchFunction e f → Gives (kind_typed g f vs e (Call n a) p) (stops t)
  uncalled {t} is i = subst (λ o. Gives (call (spot_at f e) (typed g f) vs a o p) (stops t)) (sym is) (subst (λ z. Gives {A = ℕ} (stop_at (spot_at f e) NoSuchFunction) (stops z)) (sym i) all_hold)

-- ONE VARIABLE MORE

get_more : (vs : List ℕ) (v i r : ℕ) → slice_get (vs ++ (v ∷ [])) i ≡ Some r → (slice_get vs i ≡ Some r) ⊎ (v ≡ r)
get_more [] v zero r is = inr (let e : v ≡ r = cc in e)
get_more [] v (suc i) r is = cc
get_more (x ∷ vs) v zero r is = inl is
get_more (x ∷ vs) v (suc i) r is = get_more vs v i r is

pub standing_under : {g : ProgramRows} {rows : List TypeRow} {c : Counts} {s t : State} {v : ℕ} → Standing g rows c s → v < c.all → t.variables.items ≡ s.variables.items ++ (v ∷ []) → Standing g rows c t
standing_under {g} {rows} {c} {s} {t} {v} h l is =
    let y = h.typable in
    let n = table-long rows c h.long in
    record {
      long = h.long;
      typable = record {
        checked = y.checked;
        within = y.within;
        variables = λ i r e. elim (get_more s.variables.items v i r (ap (λ vs. slice_get vs i) (sym is) ∙ e)) [ inl k ↦ y.variables i r k | inr k ↦ omega arith ];
        functions = y.functions;
        targets = y.targets;
      };
    }

pub room_under : {g : ProgramRows} (s : State) {t : State} (v : ℕ) {b : ℕ} → b < length g.expressions → length s.variables.items + b < 512 → t.variables.items ≡ s.variables.items ++ (v ∷ []) → Room g t b
room_under s {t} v {b} l r is = let n = ap length is ∙ length_push s.variables.items v in record { there = l; variables = omega arith }

pub popped : (vs ys : List ℕ) (v : ℕ) {zs : List ℕ} → ys ≡ vs ++ (v ∷ []) → zs ≡ take (length ys - 1) ys → zs ≡ vs
popped vs ys v is e =
    let n = ap length is ∙ length_push vs v in
    let m : length ys - 1 ≡ length vs = omega arith in
    e ∙ ap (λ k. take k ys) m ∙ ap (take (length vs)) is ∙ take_at vs (v ∷ []) (length vs) refl

pub walks_at : (g : ProgramRows) (f : Option ℕ) {vs us : List ℕ} (b : ℕ) {s : Spot} {r : ℕ} {p : Progress} {e : Ending ℕ} → us ≡ vs → Walks (item_typed g f us b) s r p e → Walks (item_typed g f vs b) s r p e
walks_at g f b {s} {r} {p} {e} is h = subst (λ z. Walks (item_typed g f z b) s r p e) is h

pub walked_now : {g : ProgramRows} {rows : List TypeRow} {c : Counts} {t : State} {r : ℕ} {item : List TypeRow → ℕ → Progress → Outcome ℕ} {s : Spot} {e : Ending ℕ} → Standing g rows c t → r < c.all → Walks item s r (now rows c t) e
    → Gives (walk s (item (table_of rows c)) (table_of rows c) r (now rows c t)) e
walked_now {rows = rows} {c} h l w = w.gives (table_of rows c) (over_now h l)

-- rows with parts lower than row e
pub fits_at : (p : Program) (e : ℕ) {w : Expression} → w ≡ expression_at (program_rows p) e → expression_fits (record { expressions = e; arms = length p.arms.items; bytes = length p.text.items }) w ≡ true
fits_at p e is = ap (expression_fits (record { expressions = e; arms = length p.arms.items; bytes = length p.text.items })) is ∙ (orderly p).fit e

pub lower_two : (a b e : ℕ) → (ltb a e && ltb b e) ≡ true → (a < e) × (b < e)
lower_two a b e h = let q = and_parts (ltb a e) (ltb b e) h in (ltb-true a e q.0, ltb-true b e q.1)

pub lower_three : (a b c e : ℕ) → (ltb a e && (ltb b e && ltb c e)) ≡ true → (a < e) × (b < e) × (c < e)
lower_three a b c e h = let q = and_parts (ltb a e) (ltb b e && ltb c e) h in let r = lower_two b c e q.1 in (ltb-true a e q.0, r.0, r.1)

pub lower_last : (x : Bool) (a e : ℕ) → (x && ltb a e) ≡ true → a < e
lower_last x a e h = ltb-true a e (and_parts x (ltb a e) h).1

pub lower_front : (a e : ℕ) (x : Bool) → (ltb a e && x) ≡ true → a < e
lower_front a e x h = ltb-true a e (and_parts (ltb a e) x h).0

pub walks_err : {item : List TypeRow → ℕ → Progress → Outcome ℕ} {s : Spot} {r : ℕ} {p : Progress} (q : Progress) {result : Result ℕ TypeFault} {f : TypeFault} → result ≡ Err f → Walks item s r p (stops f) → Walks item s r p (ending_of result q)
walks_err {item} {s} {r} {p} q e h = subst (λ z. Walks item s r p (ending_of z q)) (sym e) h
