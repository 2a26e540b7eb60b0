-- A row whose parts run as their types say runs so too.
use Rattle.std.proofs.Common.{◌≡◌, ℕ, ◌<◌, ◌≤◌, Bool, true, false, cond, List, [], ◌∷◌, ◌++◌, length, take, drop, get_or, Some, None, sym, refl, ap, ◌∙◌, subst, inl, inr, arith}
use Rattle.std.specs.Prelude.{slice_get, pos, ℤ, ◌+ℤ◌}
use Rattle.std.proofs.lemmas.Bool.{le-leb}
use Rattle.std.proofs.lemmas.Option.{get_or_from_slice_get}
use Rattle.forest.specs.Forests.{integer, string, boolean, Forest, none, scalar, element, integer_lawful, bytes_lawful}
use Rattle.rows.specs.declared.type_row.TypeRow.{TypeRow}
use Rattle.rows.specs.declared.type_row.TypeRow.TheVariants.{Integer as IntegerType}
use Rattle.rows.specs.declared.expression.Expression.{Expression}
use Rattle.rows.specs.declared.expression.Expression.TheVariants.{Error, Integer, Boolean, String, Variable, Element, Sequence, Empty, If, Let, For, Match, Call, Add, Equal, IsEmpty, Count, Children, As}
use Rattle.rows.specs.declared.arm.Arm.{Arm}
use Rattle.rows.specs.declared.function.Function.{Function}
use Rattle.rows.specs.Expressions.{expression_fits}
use Rattle.rows.specs.Programs.{ProgramRows}
use Rattle.types.specs.Parts.{row, content, Lawful}
use Rattle.types.specs.Belonging.{Belongs, nothing, one_scalar, one_element, both, by_first, by_second, Subtype}
use Rattle.types.proofs.Contexts.{left, right, first, second, repeats, owned}
use Rattle.types.proofs.Longer.{Longer, longer_same, longer_on}
use Rattle.typing.specs.Kinds.{is_item, taking, narrowed}
use Rattle.typing.specs.Outcomes.{Progress}
use Rattle.typing.specs.Programs.{Orderly}
use Rattle.typing.specs.Typing.{expression_at}
use Rattle.typing.specs.Rules.{typed_as, Types, Walks, Branches}
use Rattle.typing.specs.Rules.Types.{error as t-error, integer as t-integer, boolean as t-boolean, string as t-string, variable as t-variable, element as t-element, sequence as t-sequence, empty as t-empty, if as t-if, let_in as t-let_in, for_each as t-for_each, match_item as t-match_item, call as t-call, add as t-add, equal as t-equal, is_empty as t-is_empty, count as t-count, children as t-children, as_type as t-as_type}
use Rattle.typing.specs.Rules.Walks.{item_typed, no_choice, nothing as nothing_walked, both as both_walked, either, repeated}
use Rattle.typing.specs.Rules.Branches.{otherwise, arm_takes, arm_passes, arm_may}
use Rattle.typing.proofs.GrowthSteps.{longer_of, Start}
use Rattle.typing.proofs.GrowthMeaning.{contents_there}
use Rattle.typing.proofs.Growth.{all_take, all_drop, tag_fits, Fit, first_fits, others_fit, fit_arms, start_then, longer_then, made_narrowed, types_grow, walks_grow, branches_grow}
use Rattle.evaluation.specs.Values.{size, is_none, inside, truth, number, same, chosen}
use Rattle.evaluation.specs.Evaluation.{State, End, sum_if, Runner, called, body_of, run_row}
use Rattle.evaluation.proofs.Forms.{Unnamed, unnamed_yet, inside_belongs, stands, it_takes, it_passes, it_may}
use Rattle.evaluation.proofs.Ends.{Ends, halted, Paid, then_ends, ends_so, result_ends, fresh_ends, Turns, turns_item, turns_never, turns_nothing, turns_both, turns_either, turns_repeated}
use Rattle.evaluation.proofs.Stages.{Before, before_kept, before_added, before_chosen, row_now, Among, it, other, chosen_belongs, fits_belongs, copied_belongs, Held, held_none, held_more, held_on, held_with, held_at}

-- a function whose body fits its result, both typed on the way to us
pub record Typed (g : ProgramRows) (declared : ℕ) (us : List TypeRow) (error : Bool) (f : Function) : Type 0 where
  pub body : ℕ
  pub type : ℕ
  pub from : Progress
  pub to : Progress
  pub is : f.body ≡ Some body
  pub typed : Types g (f.parameter ∷ []) body from type to
  pub fits : Subtype to.types type f.result
  pub start : Start declared from
  pub before : Before us error to
  pub parameter : f.parameter < declared
  pub result : f.result < declared

-- What a typed program is known by, typed on the way to us: rows and text are in range, each function is typed, targets are declared.
pub record Accepted (g : ProgramRows) (declared : ℕ) (us : List TypeRow) (error : Bool) : Type 0 where
  pub orderly : Orderly g
  pub text : bytes_lawful g.text ≡ true
  pub functions : (i : ℕ) (f : Function) → slice_get g.functions i ≡ Some f → Typed g declared us error f
  pub targets : (e a t : ℕ) → expression_at g e ≡ As a t → t < declared

-- rows run as their types say, with n units at most
pub record RunsSafely (g : ProgramRows) (declared : ℕ) (us : List TypeRow) (error : Bool) (n : ℕ) (run : Runner) : Type 0 where
  pub ends : {vs : List ℕ} {e x : ℕ} {p q : Progress} {env : List Forest} (s : State) → Types g vs e p x q → Start declared p → Before us error q → Held us (length p.types) vs env → s.fuel ≤ n → Ends n error (Paid us x n) (run e env s)

-- no more units than integers count
module _ {g : ProgramRows} {declared : ℕ} {us : List TypeRow} {error : Bool} (accepted : Accepted g declared us error) (n l : ℕ) (few : n ≤ 1000000000000) where
  module _ (run : Runner) (safe : RunsSafely g declared us error n run) where
    -- what is done with each item
    abbrev turn : ℕ → List Forest → Forest → State → End
    turn b env y s = run b (env ++ (y ∷ [])) s

    -- The body runs for each item of a type, and what is joined belongs to the type that the walk gave.
    walk_turns : (body : ℕ) (env : List Forest) {vs : List ℕ} {r x : ℕ} {ts : List TypeRow} {p q : Progress} → Lawful ts → Longer ts p.types → r < length ts → Walks g (typed_as vs body) ts r p x q
        → Start declared p → Before us error q → Held us (length p.types) vs env → Turns n error us (turn body env) r x
    walk_turns body env {r = r} law m lt (item_typed i t) st bf h =
        let k = types_grow accepted.orderly st t in
        let w = longer_on m (before_kept k.kept bf).longer in
        let long = m.long in
        turns_item n error us (turn body env) (ap is_item (w.same r lt) ∙ i) (λ f s c le. safe.ends s t st bf (held_with h (omega arith) c) le)
    walk_turns body env {r = r} law m lt (no_choice e a) st bf h = turns_never n error us (turn body env) ((longer_on m (before_added a bf).longer).same r lt ∙ e)
    walk_turns body env {r = r} law m lt (nothing_walked e a) st bf h = turns_nothing n error us (turn body env) ((longer_on m (before_added a bf).longer).same r lt ∙ e) (row_now a bf)
    walk_turns body env {r = r} {ts = ts} law m lt (both_walked {a = a} {b} e v w d) st bf h =
        let bo = before_added d bf in
        let k = walks_grow accepted.orderly st m v in
        let kt = start_then st k in
        let o = walks_grow accepted.orderly kt (longer_then m k) w in
        let la = law.lower r a (owned ts r e (left refl)) in
        let lb = law.lower r b (owned ts r e (right refl)) in
        turns_both n error us (turn body env) ((longer_on m (before_kept k.kept (before_kept o.kept bo)).longer).same r lt ∙ e) (row_now d bf)
        (walk_turns body env law m (omega arith) v st (before_kept o.kept bo) h) (walk_turns body env law (longer_then m k) (omega arith) w kt bo (held_on (longer_of k.kept.grows).long h))
    walk_turns body env {r = r} {ts = ts} law m lt (either {a = a} {b} e v w d) st bf h =
        let bo = before_added d bf in
        let k = walks_grow accepted.orderly st m v in
        let kt = start_then st k in
        let o = walks_grow accepted.orderly kt (longer_then m k) w in
        let la = law.lower r a (owned ts r e (first refl)) in
        let lb = law.lower r b (owned ts r e (second refl)) in
        turns_either n error us (turn body env) ((longer_on m (before_kept k.kept (before_kept o.kept bo)).longer).same r lt ∙ e) (row_now d bf)
        (walk_turns body env law m (omega arith) v st (before_kept o.kept bo) h) (walk_turns body env law (longer_then m k) (omega arith) w kt bo (held_on (longer_of k.kept.grows).long h))
    walk_turns body env {r = r} {ts = ts} law m lt (repeated {a = a} e v d) st bf h =
        let bo = before_added d bf in
        let k = walks_grow accepted.orderly st m v in
        let la = law.lower r a (owned ts r e (repeats refl)) in
        turns_repeated n error us (turn body env) ((longer_on m (before_kept k.kept bo).longer).same r lt ∙ e) (row_now d bf) (walk_turns body env law m (omega arith) v st bo h)

    -- MATCHES

    -- a forest of one of these rows, paid for
    abbrev Reached : List ℕ → Forest → Type 0
    Reached bs f = (b : ℕ) × Among b bs × Paid us b n f

    -- the branch that is chosen runs
    abbrev run_chosen : ℕ × List Forest → State → End
    run_chosen c s = run c.0 c.1 s

    branches_end : {vs named bs : List ℕ} {x else : ℕ} {arms : List Arm} {p q : Progress} {env : List Forest} (f : Forest) (s : State) → Branches g vs x else arms named p bs q → x < length p.types → is_item (row us x) ≡ true
        → Belongs us x f → Unnamed named f → Fit arms → Start declared p → Before us error q → Held us (length p.types) vs env → s.fuel ≤ n → Ends n error (Reached bs) (run_chosen (chosen arms else f env) s)
    branches_end f s (otherwise t) lt i c un fit st bf h le = ends_so (λ y d. (_, it, d)) (safe.ends s t st bf h le)
    branches_end {named = named} {x = x} f s (arm_takes {arm = arm} e t) lt i c un fit st bf h le =
        let m = before_kept (types_grow accepted.orderly st t).kept bf in
        let k = it_takes (stands named arm.pattern i c un) (ap (λ w. taking named w arm.pattern) (m.longer.same x lt) ∙ e) in
        rw k (ends_so (λ y d. (_, it, d)) (safe.ends s t st bf (held_with h lt c) le))
    branches_end {named = named} {x = x} f s (arm_passes {arm = arm} {arms} e r) lt i c un fit st bf h le =
        let m = before_kept (branches_grow accepted.orderly st (others_fit arm arms fit) r).kept bf in
        let k = it_passes (stands named arm.pattern i c un) (ap (λ w. taking named w arm.pattern) (m.longer.same x lt) ∙ e) in
        rw k (branches_end f s r lt i c un (others_fit arm arms fit) st bf h le)
    branches_end {named = named} {x = x} f s (arm_may {t = u} {v = v} {arm = arm} {arms} e a t r) lt i c un fit st bf h le =
        let k = made_narrowed x named arm st (first_fits arm arms fit) e a in
        let kt = start_then st k in
        let o = types_grow accepted.orderly kt t in
        let ot = start_then kt o in
        let bo = before_kept (branches_grow accepted.orderly ot (others_fit arm arms fit) r).kept bf in
        let bq = before_kept o.kept bo in
        let m = (before_added a bq).longer.same x lt in
        let lk = (longer_of k.kept.grows).long in
        let lo = (longer_of o.kept.grows).long in
        elim (it_may (stands named arm.pattern i c un) (ap (λ w. taking named w arm.pattern) m ∙ e)) [
          | inl y ↦ rw (y.0) (ends_so (λ z d. (_, it, d)) (safe.ends s t kt bo (held_with (held_on lk h) k.fresh.free.root.there (y.1 v (row_now a bq ∙ ap (narrowed u) (sym m)))) le))
          | inr y ↦ rw (y.0) (ends_so (λ z d. (d.0, other d.1, d.2)) (branches_end f s r (omega arith) i c y.1 (others_fit arm arms fit) ot bf (held_on (omega arith) h) le))
        ]

    -- STEPS

    if_ends : {P Q R : Forest → Type 0} (t : Bool) (b c : ℕ) (env : List Forest) (s : State) → Ends n error P (run b env s) → Ends n error Q (run c env s) → ((f : Forest) → P f → R f) → ((f : Forest) → Q f → R f) → Ends n error R (run (cond t b c) env s)
    if_ends true b c env s h k u v = ends_so u h
    if_ends false b c env s h k u v = ends_so v k

    sum_ends : {y : ℕ} (b : Bool) (e : ℕ) (z : ℤ) (s : State) → integer_lawful z ≡ b → row us y ≡ IntegerType → s.fuel ≤ n → Ends n error (Paid us y n) (sum_if b l e z s)
    sum_ends true e z s h r le = fresh_ends l e (scalar (integer z)) s le (one_scalar r h)
    sum_ends false e z s h r le = halted (λ w. cc)

    called_ends : (i e : ℕ) {f : Function} (y : Forest) (s : State) → slice_get g.functions i ≡ Some f → Belongs us f.parameter y → s.fuel ≤ n → Ends n error (Belongs us f.result) (called run e (body_of g i) y s)
    called_ends i e {f} y s j b le =
        let c = accepted.functions i f j in
        let k = types_grow accepted.orderly c.start c.typed in
        let w = c.start.within in
        let long = (longer_of k.kept.grows).long in
        let lp = c.parameter in
        let lr = c.result in
        let is : body_of g i ≡ Some c.body = ap (λ z. z.body) (get_or_from_slice_get g.functions i f (record { parameter = 0; result = 0; body = None }) j) ∙ c.is in
        subst (λ o. Ends n error (Belongs us f.result) (called run e o y s)) (sym is)
        (ends_so (λ z d. fits_belongs (start_then c.start k) c.before k.fresh.free.root.there (omega arith) c.fits d.belongs)
        (safe.ends s c.typed c.start c.before (held_more (omega arith) b held_none) le))

    -- what the fields of a row keep to
    fields_fit : (e : ℕ) {x : Expression} → expression_at g e ≡ x → expression_fits (record { expressions = e; arms = length g.arms; bytes = length g.text }) x ≡ true
    fields_fit e i = ap (expression_fits (record { expressions = e; arms = length g.arms; bytes = length g.text })) (sym i) ∙ accepted.orderly.fit e

    by_kind : {P : Forest → Type 0} (e : ℕ) (env : List Forest) (s : State) (x : Expression) → expression_at g e ≡ x → Ends n error P (run_row l g run e x env s) → Ends n error P (run_row l g run e (expression_at g e) env s)
    by_kind {P} e env s x i h = subst (λ y. Ends n error P (run_row l g run e y env s)) (sym i) h

    pub row_ends : {vs : List ℕ} {e x : ℕ} {p q : Progress} (env : List Forest) (s : State) → Types g vs e p x q → Start declared p → Before us error q → Held us (length p.types) vs env → s.fuel ≤ n → Ends n error (Paid us x n) (run_row l g run e (expression_at g e) env s)
    row_ends {e = e} env s (t-error i a) st bf h le = by_kind e env s Error i (halted (λ w. bf.erring refl))
    row_ends {e = e} env s (t-integer {z = z} i a) st bf h le = by_kind e env s (Integer z) i (fresh_ends l e (scalar (integer z)) s le (one_scalar (row_now a bf) (fields_fit e i)))
    row_ends {e = e} env s (t-boolean {b = b} i a) st bf h le = by_kind e env s (Boolean b) i (fresh_ends l e (scalar (boolean b)) s le (one_scalar (row_now a bf) refl))
    row_ends {e = e} env s (t-string {from = from} {long} i a) st bf h le =
        by_kind e env s (String from long) i (fresh_ends l e (scalar (string (take long (drop from g.text)))) s le (one_scalar (row_now a bf) (all_take _ long (drop from g.text) (all_drop _ from g.text accepted.text))))
    row_ends {e = e} env s (t-variable {i = v} i j w) st bf h le =
        let b = held_at v h j in
        by_kind e env s (Variable v) i (result_ends e (get_or env v none) s le (copied_belongs accepted.orderly st b.0 w bf b.1))
    row_ends {e = e} env s (t-element {t = t} {a} i d m) st bf h le =
        by_kind e env s (Element t a) i (then_ends _ (safe.ends s d st (before_added m bf) h le) (λ f u b q. fresh_ends l e (element t f) u q (one_element (row_now m bf) (tag_fits accepted.orderly e t a i) b.belongs)))
    row_ends {e = e} env s (t-sequence {a = a} {b} i c d m) st bf h le =
        let k = types_grow accepted.orderly st c in
        let kt = start_then st k in
        let bo = before_added m bf in
        let bq = before_kept (types_grow accepted.orderly kt d).kept bo in
        by_kind e env s (Sequence a b) i (then_ends _ (safe.ends s c st bq h le) (λ f u y o. then_ends _ (safe.ends u d kt bo (held_on (longer_of k.kept.grows).long h) o) (λ w v z r. result_ends e _ v r (both (row_now m bf) y.belongs z.belongs))))
    row_ends {e = e} env s (t-empty i a) st bf h le = by_kind e env s Empty i (result_ends e none s le (nothing (row_now a bf)))
    row_ends {e = e} env s (t-if {a = a} {b} {c} i d k f y m) st bf h le =
        let ka = types_grow accepted.orderly st d in
        let sa = start_then st ka in
        let kb = types_grow accepted.orderly sa f in
        let sb = start_then sa kb in
        let bu = before_added m bf in
        let bo = before_kept (types_grow accepted.orderly sb y).kept bu in
        let bq = before_kept kb.kept bo in
        let ha = held_on (longer_of ka.kept.grows).long h in
        let hb = held_on (longer_of kb.kept.grows).long ha in
        let r = row_now m bf in
        by_kind e env s (If a b c) i (then_ends _ (safe.ends s d st bq h le) (λ j u z o.
        then_ends _ (if_ends (truth j) b c env u (safe.ends u f sa bo ha o) (safe.ends u y sb bu hb o) (λ w v. by_first r v.belongs) (λ w v. by_second r v.belongs)) (λ w v z o. result_ends e w v o z)))
    row_ends {e = e} env s (t-let_in {a = a} {b} i d f) st bf h le =
        let k = types_grow accepted.orderly st d in
        let kt = start_then st k in
        let bq = before_kept (types_grow accepted.orderly kt f).kept bf in
        let there = k.fresh.free.root.there in
        by_kind e env s (Let a b) i (then_ends _ (safe.ends s d st bq h le) (λ y u z o. then_ends _ (safe.ends u f kt bf (held_with (held_on (longer_of k.kept.grows).long h) there z.belongs) o) (λ w v z o. result_ends e w v o z.belongs)))
    row_ends {e = e} env s (t-for_each {a = a} {b} {q = q} i d w) st bf h le =
        let k = types_grow accepted.orderly st d in
        let kt = start_then st k in
        let bq = before_kept (walks_grow accepted.orderly kt (longer_same q.types) w).kept bf in
        let there = k.fresh.free.root.there in
        by_kind e env s (For a b) i (then_ends _ (safe.ends s d st bq h le) (λ y u z o.
        then_ends _ (walk_turns b env k.kept.checked.lawful (longer_same q.types) there w kt bf (held_on (longer_of k.kept.grows).long h) y u z.belongs o) (λ w v z o. result_ends e w v o z)))
    row_ends {e = e} env s (t-match_item {a = a} {from} {long} {else} {x} {q = q} i d item r c) st bf h le =
        let k = types_grow accepted.orderly st d in
        let kt = start_then st k in
        let bo = before_chosen c bf in
        let bq = before_kept (branches_grow accepted.orderly kt (fit_arms accepted.orderly from long) r).kept bo in
        let there = k.fresh.free.root.there in
        by_kind e env s (Match a from long else) i (then_ends _ (safe.ends s d st bq h le) (λ y u z o.
        then_ends _ (branches_end y u r there (ap is_item (bq.longer.same x there) ∙ item) z.belongs (unnamed_yet y) (fit_arms accepted.orderly from long) kt bo (held_on (longer_of k.kept.grows).long h) o)
        (λ w v z o. result_ends e w v o (chosen_belongs c bf z.1 z.2.belongs))))
    row_ends {e = e} env s (t-call {n = j} {a} {x} {f = f} {q = q} i is d fit w) st bf h le =
        let k = types_grow accepted.orderly st d in
        let kt = start_then st k in
        let c = accepted.functions j f is in
        let within = kt.within in
        let lp = c.parameter in
        let lr = c.result in
        let bq = before_kept (walks_grow accepted.orderly kt (longer_same q.types) w).kept bf in
        by_kind e env s (Call j a) i (then_ends _ (safe.ends s d st bq h le) (λ y u z o.
        then_ends _ (called_ends j e y u is (fits_belongs kt bq k.fresh.free.root.there (omega arith) fit z.belongs) o)
        (λ w' v z o. result_ends e w' v o (copied_belongs accepted.orderly kt (omega arith) w bf z))))
    row_ends {e = e} env s (t-add {a = a} {b} i d f y m v) st bf h le =
        let k = types_grow accepted.orderly st d in
        let kt = start_then st k in
        let bo = before_added v bf in
        let bq = before_kept (types_grow accepted.orderly kt y).kept bo in
        by_kind e env s (Add a b) i (then_ends _ (safe.ends s d st bq h le) (λ j u z o.
        then_ends _ (safe.ends u y kt bo (held_on (longer_of k.kept.grows).long h) o) (λ w t z o. sum_ends (integer_lawful (number j +ℤ number w)) e (number j +ℤ number w) t refl (row_now v bf) o)))
    row_ends {e = e} env s (t-equal {a = a} {b} i d f y m v) st bf h le =
        let k = types_grow accepted.orderly st d in
        let kt = start_then st k in
        let bo = before_added v bf in
        let bq = before_kept (types_grow accepted.orderly kt y).kept bo in
        by_kind e env s (Equal a b) i (then_ends _ (safe.ends s d st bq h le) (λ j u z o.
        then_ends _ (safe.ends u y kt bo (held_on (longer_of k.kept.grows).long h) o) (λ w t z o. fresh_ends l e (scalar (boolean (same j w))) t o (one_scalar (row_now v bf) refl))))
    row_ends {e = e} env s (t-is_empty {a = a} i d m) st bf h le =
        by_kind e env s (IsEmpty a) i (then_ends _ (safe.ends s d st (before_added m bf) h le) (λ f u z o. fresh_ends l e (scalar (boolean (is_none f))) u o (one_scalar (row_now m bf) refl)))
    row_ends {e = e} env s (t-count {a = a} i d m) st bf h le =
        by_kind e env s (Count a) i (then_ends _ (safe.ends s d st (before_added m bf) h le) (λ f u z o.
        let small = z.small in
        fresh_ends l e (scalar (integer (pos (size f)))) u o (one_scalar (row_now m bf) (le-leb (size f) 1000000000000 (omega arith)))))
    row_ends {e = e} env s (t-children {a = a} {x} {c = c} {q = q} i d j w) st bf h le =
        let k = types_grow accepted.orderly st d in
        let kt = start_then st k in
        let bq = before_kept (walks_grow accepted.orderly kt (longer_same q.types) w).kept bf in
        let content_now = ap content (bq.longer.same x k.fresh.free.root.there) ∙ j in
        let there = contents_there k.kept.checked x c j in
        by_kind e env s (Children a) i (then_ends _ (safe.ends s d st bq h le) (λ f u z o. result_ends e (inside f) u o (copied_belongs accepted.orderly kt there w bf (inside_belongs content_now z.belongs))))
    row_ends {e = e} env s (t-as_type {a = a} {t} {q = q} i d fit w) st bf h le =
        let k = types_grow accepted.orderly st d in
        let kt = start_then st k in
        let within = kt.within in
        let target = accepted.targets e a t i in
        let bq = before_kept (walks_grow accepted.orderly kt (longer_same q.types) w).kept bf in
        by_kind e env s (As a t) i (then_ends _ (safe.ends s d st bq h le) (λ f u z o.
        result_ends e f u o (copied_belongs accepted.orderly kt (omega arith) w bf (fits_belongs kt bq k.fresh.free.root.there (omega arith) fit z.belongs))))
