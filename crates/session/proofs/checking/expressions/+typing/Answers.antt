use Rattle.std.proofs.Common.{rules, ◌≡◌, ℕ, ◌+◌, ◌<◌, ◌≤◌, true, false, ltb, List, [], ◌∷◌, ◌++◌, length, get_or, Ok, Err, sym, refl, ap, ◌∙◌, arith, ltb-true}
use Rattle.forest.specs.Forests.{tag_lawful}
use Rattle.rows.specs.declared.type_row.TypeRow.{TypeRow}
use Rattle.rows.specs.declared.type_row.TypeRow.TheVariants.{EmptyChoice, EmptySequence, Sequence, Choice, Repetition}
use Rattle.types.specs.Parts.{row}
use Rattle.types.proofs.Contexts.{left, right, first, second, repeats}
use Rattle.typing.specs.Kinds.{is_item, is_boolean}
use Rattle.typing.proofs.Steps.{then_goes, then_stops, needing_holds, fitting_holds}
use Rattle.session.specs.Tables.{program_rows}
use Rattle.session.specs.Operators.{left_kind, both_kinds}
use Rattle.session.specs.Progress.{table_of}
use Rattle.session.specs.Typings.{Standing, now, spot_at}
use Rattle.session.proofs.Orders.{orderly}
use Rattle.session.proofs.Copying.{longer, reads, part_walkable}
use Rattle.session.proofs.Walks.{both_left, both_right, both_made, either_left, either_right, either_made, repeated_stops, repeated_made, item_walked, empty_choice_walked, empty_sequence_walked, item_of}
use Rattle.session.proofs.Typings.{walks_err, typed_on, walked_on, stays_on, stays_then, room_part, room_on, gave_err, typing_at, by_kind, copied_now, walkable_now, kind_at, content_at, content_there, root_there, no_content, some_content, unfit, wrong_kind, called, uncalled, standing_under, room_under, popped, walks_at, walked_now, fits_at, lower_two, lower_three, lower_last, lower_front}
use Rattle.rows.specs.declared.arm.Arm.{Arm}
use Rattle.session.specs.Rules.{bodies_below, patterns_fit}
use Rattle.typing.specs.Kinds.{narrowed}
use Rattle.session.specs.Typings.{Stays}
use Rattle.session.proofs.Branches.{first_of, others_of, split_arms, no_arms, others_length, first_body, other_bodies, first_fits, others_fit, named_fit, arms_there, taking_at, branched, none_left, none_left_not, taken, taken_not, passed, may_not_made, may_not_typed, may_adds, adds_err, adds_at, adds_arms, narrowed_on, makes_as, match_low, match_last, few_named, joins_as}
use Rattle.session.proofs.checking.expressions.+typing.Goals as goal

pub type_element-type_expression-requires : goal.type_element-type_expression-requires
type_element-type_expression-requires t c =
    let s = c.requires.ready in
    let low = c.requires.content in
    let r = room_part c.requires.room low in
    search rules

pub type_element-returns-in_err-inner-clause-types : goal.type_element-returns-in_err-inner-clause-types
type_element-returns-in_err-inner-clause-types t c =
    gave_err (search rules) (then_stops _ _ c.in_err-inner.ensures.types.gives)

pub type_element-returns-in_err-inner-clause-stays : goal.type_element-returns-in_err-inner-clause-stays
type_element-returns-in_err-inner-clause-stays t c =
    c.type_expression.ensures.stays

pub type_element-returns-clause-types : goal.type_element-returns-clause-types
type_element-returns-clause-types t c =
    record { gives = then_goes _ _ c.in_ok-inner.ensures.types.gives (c.push_row.ensures.makes.gives c.type_expression.new.state.error) }

pub type_element-returns-clause-stays : goal.type_element-returns-clause-stays
type_element-returns-clause-stays t c =
    stays_then c.type_expression.ensures.stays c.push_row.ensures.grows

pub type_scalar-type_expression-requires : goal.type_scalar-type_expression-requires
type_scalar-type_expression-requires t c =
    let s = c.requires.ready in
    let low = c.requires.part in
    let r = room_part c.requires.room low in
    search rules

pub type_scalar-returns-in_err-type_expression-clause-types : goal.type_scalar-returns-in_err-type_expression-clause-types
type_scalar-returns-in_err-type_expression-clause-types t c =
    gave_err (search rules) (then_stops _ _ c.in_err-type_expression.ensures.types.gives)

pub type_scalar-returns-in_err-type_expression-clause-stays : goal.type_scalar-returns-in_err-type_expression-clause-stays
type_scalar-returns-in_err-type_expression-clause-stays t c =
    c.type_expression.ensures.stays

pub type_scalar-returns-clause-types : goal.type_scalar-returns-clause-types
type_scalar-returns-clause-types t c =
    record { gives = then_goes _ _ c.in_ok-type_expression.ensures.types.gives (c.push_row.ensures.makes.gives c.type_expression.new.state.error) }

pub type_scalar-returns-clause-stays : goal.type_scalar-returns-clause-stays
type_scalar-returns-clause-stays t c =
    stays_then c.type_expression.ensures.stays c.push_row.ensures.grows

pub type_children-type_expression-requires : goal.type_children-type_expression-requires
type_children-type_expression-requires t c =
    let s = c.requires.ready in
    let low = c.requires.part in
    let r = room_part c.requires.room low in
    search rules

pub type_children-returns-in_err-element-clause-types : goal.type_children-returns-in_err-element-clause-types
type_children-returns-in_err-element-clause-types t c =
    gave_err (search rules) (then_stops _ _ c.in_err-element.ensures.types.gives)

pub type_children-returns-in_err-element-clause-stays : goal.type_children-returns-in_err-element-clause-stays
type_children-returns-in_err-element-clause-stays t c =
    c.type_expression.ensures.stays

pub type_children-slice_copy_out-content : goal.type_children-slice_copy_out-content
type_children-slice_copy_out-content t c =
    let o = typed_on (orderly c.args.scope.now.program.now) c.requires.ready (let l : length c.type_expression.new.types ≡ 512 = search rules in l) c.type_expression.ensures.stays c.in_ok-element.ensures.types in
    let l = o.there in
    let few = c.type_expression.new.counts.few in
    let n : length c.type_expression.new.types ≡ 512 = search rules in
    omega arith

pub type_children-copy_type-requires-clause-walkable : goal.type_children-copy_type-requires-clause-walkable
type_children-copy_type-requires-clause-walkable t c =
    let o = typed_on (orderly c.args.scope.now.program.now) c.requires.ready (let l : length c.type_expression.new.types ≡ 512 = search rules in l) c.type_expression.ensures.stays c.in_ok-element.ensures.types in
    let is = content_at c.type_expression.new.types c.type_expression.new.counts c.in_ok-element.element o.there c.in-Some.ensures in
    walkable_now o.standing (content_there c.in_ok-element.element o.standing is)

pub type_children-returns-in-None-clause-types : goal.type_children-returns-in-None-clause-types
type_children-returns-in-None-clause-types t c =
    let o = typed_on (orderly c.args.scope.now.program.now) c.requires.ready (let l : length c.type_expression.new.types ≡ 512 = search rules in l) c.type_expression.ensures.stays c.in_ok-element.ensures.types in
    let is = content_at c.type_expression.new.types c.type_expression.new.counts c.in_ok-element.element o.there c.in-None.ensures in
    record { gives = then_goes _ _ c.in_ok-element.ensures.types.gives (no_content (spot_at c.args.scope.now.function c.args.at) _ is c.fault.ensures) }

pub type_children-returns-in-None-clause-stays : goal.type_children-returns-in-None-clause-stays
type_children-returns-in-None-clause-stays t c =
    c.type_expression.ensures.stays

pub type_children-returns-in-Some-clause-types : goal.type_children-returns-in-Some-clause-types
type_children-returns-in-Some-clause-types t c =
    let o = typed_on (orderly c.args.scope.now.program.now) c.requires.ready (let l : length c.type_expression.new.types ≡ 512 = search rules in l) c.type_expression.ensures.stays c.in_ok-element.ensures.types in
    let is = content_at c.type_expression.new.types c.type_expression.new.counts c.in_ok-element.element o.there c.in-Some.ensures in
    record { gives = then_goes _ _ c.in_ok-element.ensures.types.gives (some_content (spot_at c.args.scope.now.function c.args.at) _ is (copied_now o.standing (content_there c.in_ok-element.element o.standing is) c.copy_type.ensures.copies).gives) }

pub type_children-returns-in-Some-clause-stays : goal.type_children-returns-in-Some-clause-stays
type_children-returns-in-Some-clause-stays t c =
    stays_then c.type_expression.ensures.stays c.copy_type.ensures.grows

pub type_fitted-type_expression-requires : goal.type_fitted-type_expression-requires
type_fitted-type_expression-requires t c =
    let s = c.requires.ready in
    let low = c.requires.part in
    let r = room_part c.requires.room low in
    search rules

pub type_fitted-returns-in_err-given-clause-types : goal.type_fitted-returns-in_err-given-clause-types
type_fitted-returns-in_err-given-clause-types t c =
    gave_err (search rules) (then_stops _ _ c.in_err-given.ensures.types.gives)

pub type_fitted-returns-in_err-given-clause-stays : goal.type_fitted-returns-in_err-given-clause-stays
type_fitted-returns-in_err-given-clause-stays t c =
    c.type_expression.ensures.stays

pub type_fitted-fit-requires-clause-checked : goal.type_fitted-fit-requires-clause-checked
type_fitted-fit-requires-clause-checked t c =
    let o = typed_on (orderly c.args.scope.now.program.now) c.requires.ready (let l : length c.type_expression.new.types ≡ 512 = search rules in l) c.type_expression.ensures.stays c.in_ok-given.ensures.types in
    o.standing.typable.checked

pub type_fitted-fit-requires-clause-there : goal.type_fitted-fit-requires-clause-there
type_fitted-fit-requires-clause-there t c =
    let o = typed_on (orderly c.args.scope.now.program.now) c.requires.ready (let l : length c.type_expression.new.types ≡ 512 = search rules in l) c.type_expression.ensures.stays c.in_ok-given.ensures.types in
    o.there

pub type_fitted-fit-requires-clause-root : goal.type_fitted-fit-requires-clause-root
type_fitted-fit-requires-clause-root t c =
    let o = typed_on (orderly c.args.scope.now.program.now) c.requires.ready (let l : length c.type_expression.new.types ≡ 512 = search rules in l) c.type_expression.ensures.stays c.in_ok-given.ensures.types in
    o.roots c.args.root c.requires.root

pub type_fitted-returns-in_err-fit-clause-types : goal.type_fitted-returns-in_err-fit-clause-types
type_fitted-returns-in_err-fit-clause-types t c =
    let o = typed_on (orderly c.args.scope.now.program.now) c.requires.ready (let l : length c.type_expression.new.types ≡ 512 = search rules in l) c.type_expression.ensures.stays c.in_ok-given.ensures.types in
    gave_err (search rules) (then_goes _ _ c.in_ok-given.ensures.types.gives (unfit (spot_at c.args.scope.now.function c.args.at) c.in_ok-given.given c.args.root (now c.type_expression.new.types c.type_expression.new.counts c.type_expression.new.state) _ c.in_err-fit.ensures))

pub type_fitted-returns-in_err-fit-clause-stays : goal.type_fitted-returns-in_err-fit-clause-stays
type_fitted-returns-in_err-fit-clause-stays t c =
    c.type_expression.ensures.stays

pub type_fitted-copy_type-requires-clause-walkable : goal.type_fitted-copy_type-requires-clause-walkable
type_fitted-copy_type-requires-clause-walkable t c =
    let o = typed_on (orderly c.args.scope.now.program.now) c.requires.ready (let l : length c.type_expression.new.types ≡ 512 = search rules in l) c.type_expression.ensures.stays c.in_ok-given.ensures.types in
    walkable_now o.standing (root_there c.type_expression.new.types c.type_expression.new.counts o.standing.long (o.roots c.args.copied c.requires.copied))

pub type_fitted-returns-clause-types : goal.type_fitted-returns-clause-types
type_fitted-returns-clause-types t c =
    let o = typed_on (orderly c.args.scope.now.program.now) c.requires.ready (let l : length c.type_expression.new.types ≡ 512 = search rules in l) c.type_expression.ensures.stays c.in_ok-given.ensures.types in
    let copy = copied_now o.standing (root_there c.type_expression.new.types c.type_expression.new.counts o.standing.long (o.roots c.args.copied c.requires.copied)) c.copy_type.ensures.copies in
    record { gives = then_goes _ _ c.in_ok-given.ensures.types.gives (fitting_holds (spot_at c.args.scope.now.function c.args.at) c.in_ok-given.given c.args.root (now c.type_expression.new.types c.type_expression.new.counts c.type_expression.new.state) _ c.in_ok-fit.ensures copy.gives) }

pub type_fitted-returns-clause-stays : goal.type_fitted-returns-clause-stays
type_fitted-returns-clause-stays t c =
    stays_then c.type_expression.ensures.stays c.copy_type.ensures.grows

pub type_call-type_fitted-requires : goal.type_call-type_fitted-requires
type_call-type_fitted-requires t c =
    let r = c.requires.ready.typable.functions c.args.function c.in-Some.callee (sym c.in-Some.ensures) in
    let s = c.requires.ready in
    let room = c.requires.room in
    let low = c.requires.argument in
    let one = r.0 in
    let two = r.1 in
    search rules

pub type_call-returns-in-None-clause-types : goal.type_call-returns-in-None-clause-types
type_call-returns-in-None-clause-types t c =
    record { gives = uncalled (program_rows c.args.scope.now.program.now) c.args.scope.now.function c.args.state.now.variables.items c.args.at c.args.function c.args.argument (now c.args.types.now c.args.counts.now c.args.state.now) (sym c.in-None.ensures) c.fault.ensures }

pub type_call-returns-in-Some-clause-types : goal.type_call-returns-in-Some-clause-types
type_call-returns-in-Some-clause-types t c =
    record { gives = called (program_rows c.args.scope.now.program.now) c.args.scope.now.function c.args.state.now.variables.items c.args.at c.args.function c.args.argument (now c.args.types.now c.args.counts.now c.args.state.now) (sym c.in-Some.ensures) c.type_fitted.ensures.types.gives }

pub type_call-returns-in-Some-clause-stays : goal.type_call-returns-in-Some-clause-stays
type_call-returns-in-Some-clause-stays t c =
    c.type_fitted.ensures.stays

pub type_two-type_expression-requires : goal.type_two-type_expression-requires
type_two-type_expression-requires t c =
    let s = c.requires.ready in
    let low = c.requires.first in
    let r = room_part c.requires.room low in
    search rules

pub type_two-returns-in_err-left-clause-types : goal.type_two-returns-in_err-left-clause-types
type_two-returns-in_err-left-clause-types t c =
    gave_err (search rules) (then_stops _ _ c.in_err-left.ensures.types.gives)

pub type_two-returns-in_err-left-clause-stays : goal.type_two-returns-in_err-left-clause-stays
type_two-returns-in_err-left-clause-stays t c =
    c.type_expression.ensures.stays

pub type_two-slice_copy_out-takes_first : goal.type_two-slice_copy_out-takes_first
type_two-slice_copy_out-takes_first t c =
    let o = typed_on (orderly c.args.scope.now.program.now) c.requires.ready (let l : length c.type_expression.new.types ≡ 512 = search rules in l) c.type_expression.ensures.stays c.in_ok-left.ensures.types in
    let l = o.there in
    let few = c.type_expression.new.counts.few in
    let n : length c.type_expression.new.types ≡ 512 = search rules in
    omega arith

pub type_two-returns-then-not-takes_first-clause-types : goal.type_two-returns-then-not-takes_first-clause-types
type_two-returns-then-not-takes_first-clause-types t c =
    let o = typed_on (orderly c.args.scope.now.program.now) c.requires.ready (let l : length c.type_expression.new.types ≡ 512 = search rules in l) c.type_expression.ensures.stays c.in_ok-left.ensures.types in
    let no = kind_at (left_kind c.args.operator) c.type_expression.new.types c.type_expression.new.counts c.in_ok-left.left o.there c.takes_first.ensures (let b : c.takes_first.result ≡ false = search rules in b) in
    record { gives = then_goes _ _ c.in_ok-left.ensures.types.gives (wrong_kind (spot_at c.args.scope.now.function c.args.at) _ no c.fault.ensures) }

pub type_two-returns-then-not-takes_first-clause-stays : goal.type_two-returns-then-not-takes_first-clause-stays
type_two-returns-then-not-takes_first-clause-stays t c =
    c.type_expression.ensures.stays

pub type_two-type_expression-requires-2 : goal.type_two-type_expression-requires-2
type_two-type_expression-requires-2 t c =
    let o = typed_on (orderly c.args.scope.now.program.now) c.requires.ready (let l : length c.type_expression.new.types ≡ 512 = search rules in l) c.type_expression.ensures.stays c.in_ok-left.ensures.types in
    let s = o.standing in
    let low = c.requires.second in
    let r = room_on {t = c.type_expression.new.state} c.type_expression.ensures.stays.variables (room_part c.requires.room low) in
    search rules

pub type_two-returns-in_err-right-clause-types : goal.type_two-returns-in_err-right-clause-types
type_two-returns-in_err-right-clause-types t c =
    let o = typed_on (orderly c.args.scope.now.program.now) c.requires.ready (let l : length c.type_expression.new.types ≡ 512 = search rules in l) c.type_expression.ensures.stays c.in_ok-left.ensures.types in
    let no = kind_at (left_kind c.args.operator) c.type_expression.new.types c.type_expression.new.counts c.in_ok-left.left o.there c.takes_first.ensures (let b : c.takes_first.result ≡ true = search rules in b) in
    gave_err (search rules) (then_goes _ _ c.in_ok-left.ensures.types.gives (needing_holds (spot_at c.args.scope.now.function c.args.at) _ no (then_stops _ _ (typing_at c.type_expression.ensures.stays.variables c.in_err-right.ensures.types).gives)))

pub type_two-returns-in_err-right-clause-stays : goal.type_two-returns-in_err-right-clause-stays
type_two-returns-in_err-right-clause-stays t c =
    stays_on c.type_expression.ensures.stays c.type_expression-2.ensures.stays

pub type_two-slice_copy_out-takes_both : goal.type_two-slice_copy_out-takes_both
type_two-slice_copy_out-takes_both t c =
    let o = typed_on (orderly c.args.scope.now.program.now) c.requires.ready (let l : length c.type_expression.new.types ≡ 512 = search rules in l) c.type_expression.ensures.stays c.in_ok-left.ensures.types in
    let u = typed_on (orderly c.args.scope.now.program.now) o.standing (let l : length c.type_expression-2.new.types ≡ 512 = search rules in l) c.type_expression-2.ensures.stays c.in_ok-right.ensures.types in
    let still : c.in_ok-left.left < c.type_expression-2.new.counts.all = (let a = o.there in let m = c.type_expression-2.ensures.stays.grows.more in omega arith) in
    let few = c.type_expression-2.new.counts.few in
    let n : length c.type_expression-2.new.types ≡ 512 = search rules in
    omega arith

pub type_two-slice_copy_out-takes_both-2 : goal.type_two-slice_copy_out-takes_both-2
type_two-slice_copy_out-takes_both-2 t c =
    let o = typed_on (orderly c.args.scope.now.program.now) c.requires.ready (let l : length c.type_expression.new.types ≡ 512 = search rules in l) c.type_expression.ensures.stays c.in_ok-left.ensures.types in
    let u = typed_on (orderly c.args.scope.now.program.now) o.standing (let l : length c.type_expression-2.new.types ≡ 512 = search rules in l) c.type_expression-2.ensures.stays c.in_ok-right.ensures.types in
    let still : c.in_ok-left.left < c.type_expression-2.new.counts.all = (let a = o.there in let m = c.type_expression-2.ensures.stays.grows.more in omega arith) in
    let l = u.there in
    let few = c.type_expression-2.new.counts.few in
    let n : length c.type_expression-2.new.types ≡ 512 = search rules in
    omega arith

pub type_two-returns-then-not-takes_both-clause-types : goal.type_two-returns-then-not-takes_both-clause-types
type_two-returns-then-not-takes_both-clause-types t c =
    let o = typed_on (orderly c.args.scope.now.program.now) c.requires.ready (let l : length c.type_expression.new.types ≡ 512 = search rules in l) c.type_expression.ensures.stays c.in_ok-left.ensures.types in
    let u = typed_on (orderly c.args.scope.now.program.now) o.standing (let l : length c.type_expression-2.new.types ≡ 512 = search rules in l) c.type_expression-2.ensures.stays c.in_ok-right.ensures.types in
    let still : c.in_ok-left.left < c.type_expression-2.new.counts.all = (let a = o.there in let m = c.type_expression-2.ensures.stays.grows.more in omega arith) in
    let no = kind_at (left_kind c.args.operator) c.type_expression.new.types c.type_expression.new.counts c.in_ok-left.left o.there c.takes_first.ensures (let b : c.takes_first.result ≡ true = search rules in b) in
    let two = kind_at (both_kinds c.args.operator (get_or c.type_expression-2.new.types c.in_ok-left.left EmptyChoice)) c.type_expression-2.new.types c.type_expression-2.new.counts c.in_ok-right.right u.there c.takes_both.ensures (let b : c.takes_both.result ≡ false = search rules in b) in
    let both = ap (λ (z : TypeRow). both_kinds c.args.operator z (row (table_of c.type_expression-2.new.types c.type_expression-2.new.counts) c.in_ok-right.right)) (reads c.type_expression-2.new.types c.type_expression-2.new.counts c.in_ok-left.left still refl) ∙ two in
    record { gives = then_goes _ _ c.in_ok-left.ensures.types.gives (needing_holds (spot_at c.args.scope.now.function c.args.at) _ no (then_goes _ _ (typing_at c.type_expression.ensures.stays.variables c.in_ok-right.ensures.types).gives (wrong_kind (spot_at c.args.scope.now.function c.args.at) _ both c.fault-then-not-takes_both.ensures))) }

pub type_two-returns-then-not-takes_both-clause-stays : goal.type_two-returns-then-not-takes_both-clause-stays
type_two-returns-then-not-takes_both-clause-stays t c =
    stays_on c.type_expression.ensures.stays c.type_expression-2.ensures.stays

pub type_two-returns-clause-types : goal.type_two-returns-clause-types
type_two-returns-clause-types t c =
    let o = typed_on (orderly c.args.scope.now.program.now) c.requires.ready (let l : length c.type_expression.new.types ≡ 512 = search rules in l) c.type_expression.ensures.stays c.in_ok-left.ensures.types in
    let u = typed_on (orderly c.args.scope.now.program.now) o.standing (let l : length c.type_expression-2.new.types ≡ 512 = search rules in l) c.type_expression-2.ensures.stays c.in_ok-right.ensures.types in
    let still : c.in_ok-left.left < c.type_expression-2.new.counts.all = (let a = o.there in let m = c.type_expression-2.ensures.stays.grows.more in omega arith) in
    let no = kind_at (left_kind c.args.operator) c.type_expression.new.types c.type_expression.new.counts c.in_ok-left.left o.there c.takes_first.ensures (let b : c.takes_first.result ≡ true = search rules in b) in
    let two = kind_at (both_kinds c.args.operator (get_or c.type_expression-2.new.types c.in_ok-left.left EmptyChoice)) c.type_expression-2.new.types c.type_expression-2.new.counts c.in_ok-right.right u.there c.takes_both.ensures (let b : c.takes_both.result ≡ true = search rules in b) in
    let both = ap (λ (z : TypeRow). both_kinds c.args.operator z (row (table_of c.type_expression-2.new.types c.type_expression-2.new.counts) c.in_ok-right.right)) (reads c.type_expression-2.new.types c.type_expression-2.new.counts c.in_ok-left.left still refl) ∙ two in
    record { gives = then_goes _ _ c.in_ok-left.ensures.types.gives (needing_holds (spot_at c.args.scope.now.function c.args.at) _ no (then_goes _ _ (typing_at c.type_expression.ensures.stays.variables c.in_ok-right.ensures.types).gives (needing_holds (spot_at c.args.scope.now.function c.args.at) _ both ((makes_as c.row.ensures c.push_row.ensures.makes).gives c.type_expression-2.new.state.error)))) }

pub type_two-returns-clause-stays : goal.type_two-returns-clause-stays
type_two-returns-clause-stays t c =
    stays_then (stays_on c.type_expression.ensures.stays c.type_expression-2.ensures.stays) c.push_row.ensures.grows

pub type_if-type_expression-requires : goal.type_if-type_expression-requires
type_if-type_expression-requires t c =
    let s = c.requires.ready in
    let low = c.requires.condition in
    let r = room_part c.requires.room low in
    search rules

pub type_if-returns-in_err-test-clause-types : goal.type_if-returns-in_err-test-clause-types
type_if-returns-in_err-test-clause-types t c =
    gave_err (search rules) (then_stops _ _ c.in_err-test.ensures.types.gives)

pub type_if-returns-in_err-test-clause-stays : goal.type_if-returns-in_err-test-clause-stays
type_if-returns-in_err-test-clause-stays t c =
    c.type_expression.ensures.stays

pub type_if-slice_copy_out-is_boolean : goal.type_if-slice_copy_out-is_boolean
type_if-slice_copy_out-is_boolean t c =
    let o = typed_on (orderly c.args.scope.now.program.now) c.requires.ready (let l : length c.type_expression.new.types ≡ 512 = search rules in l) c.type_expression.ensures.stays c.in_ok-test.ensures.types in
    let l = o.there in
    let few = c.type_expression.new.counts.few in
    let n : length c.type_expression.new.types ≡ 512 = search rules in
    omega arith

pub type_if-returns-then-not-is_boolean-clause-types : goal.type_if-returns-then-not-is_boolean-clause-types
type_if-returns-then-not-is_boolean-clause-types t c =
    let o = typed_on (orderly c.args.scope.now.program.now) c.requires.ready (let l : length c.type_expression.new.types ≡ 512 = search rules in l) c.type_expression.ensures.stays c.in_ok-test.ensures.types in
    let no = kind_at (is_boolean) c.type_expression.new.types c.type_expression.new.counts c.in_ok-test.test o.there c.is_boolean.ensures (let b : c.is_boolean.result ≡ false = search rules in b) in
    record { gives = then_goes _ _ c.in_ok-test.ensures.types.gives (wrong_kind (spot_at c.args.scope.now.function c.args.at) _ no c.fault.ensures) }

pub type_if-returns-then-not-is_boolean-clause-stays : goal.type_if-returns-then-not-is_boolean-clause-stays
type_if-returns-then-not-is_boolean-clause-stays t c =
    c.type_expression.ensures.stays

pub type_if-type_expression-requires-2 : goal.type_if-type_expression-requires-2
type_if-type_expression-requires-2 t c =
    let o = typed_on (orderly c.args.scope.now.program.now) c.requires.ready (let l : length c.type_expression.new.types ≡ 512 = search rules in l) c.type_expression.ensures.stays c.in_ok-test.ensures.types in
    let s = o.standing in
    let low = c.requires.then in
    let r = room_on {t = c.type_expression.new.state} c.type_expression.ensures.stays.variables (room_part c.requires.room low) in
    search rules

pub type_if-returns-in_err-first-clause-types : goal.type_if-returns-in_err-first-clause-types
type_if-returns-in_err-first-clause-types t c =
    let o = typed_on (orderly c.args.scope.now.program.now) c.requires.ready (let l : length c.type_expression.new.types ≡ 512 = search rules in l) c.type_expression.ensures.stays c.in_ok-test.ensures.types in
    let no = kind_at (is_boolean) c.type_expression.new.types c.type_expression.new.counts c.in_ok-test.test o.there c.is_boolean.ensures (let b : c.is_boolean.result ≡ true = search rules in b) in
    gave_err (search rules) (then_goes _ _ c.in_ok-test.ensures.types.gives (needing_holds (spot_at c.args.scope.now.function c.args.at) _ no (then_stops _ _ (typing_at c.type_expression.ensures.stays.variables c.in_err-first.ensures.types).gives)))

pub type_if-returns-in_err-first-clause-stays : goal.type_if-returns-in_err-first-clause-stays
type_if-returns-in_err-first-clause-stays t c =
    stays_on c.type_expression.ensures.stays c.type_expression-2.ensures.stays

pub type_if-type_expression-requires-3 : goal.type_if-type_expression-requires-3
type_if-type_expression-requires-3 t c =
    let o = typed_on (orderly c.args.scope.now.program.now) c.requires.ready (let l : length c.type_expression.new.types ≡ 512 = search rules in l) c.type_expression.ensures.stays c.in_ok-test.ensures.types in
    let u = typed_on (orderly c.args.scope.now.program.now) o.standing (let l : length c.type_expression-2.new.types ≡ 512 = search rules in l) c.type_expression-2.ensures.stays c.in_ok-first.ensures.types in
    let s = u.standing in
    let low = c.requires.otherwise in
    let r = room_on {t = c.type_expression-2.new.state} (stays_on c.type_expression.ensures.stays c.type_expression-2.ensures.stays).variables (room_part c.requires.room low) in
    search rules

pub type_if-returns-in_err-second-clause-types : goal.type_if-returns-in_err-second-clause-types
type_if-returns-in_err-second-clause-types t c =
    let o = typed_on (orderly c.args.scope.now.program.now) c.requires.ready (let l : length c.type_expression.new.types ≡ 512 = search rules in l) c.type_expression.ensures.stays c.in_ok-test.ensures.types in
    let no = kind_at (is_boolean) c.type_expression.new.types c.type_expression.new.counts c.in_ok-test.test o.there c.is_boolean.ensures (let b : c.is_boolean.result ≡ true = search rules in b) in
    gave_err (search rules) (then_goes _ _ c.in_ok-test.ensures.types.gives (needing_holds (spot_at c.args.scope.now.function c.args.at) _ no (then_goes _ _ (typing_at c.type_expression.ensures.stays.variables c.in_ok-first.ensures.types).gives (then_stops _ _ (typing_at (stays_on c.type_expression.ensures.stays c.type_expression-2.ensures.stays).variables c.in_err-second.ensures.types).gives))))

pub type_if-returns-in_err-second-clause-stays : goal.type_if-returns-in_err-second-clause-stays
type_if-returns-in_err-second-clause-stays t c =
    stays_on (stays_on c.type_expression.ensures.stays c.type_expression-2.ensures.stays) c.type_expression-3.ensures.stays

pub type_if-returns-clause-types : goal.type_if-returns-clause-types
type_if-returns-clause-types t c =
    let o = typed_on (orderly c.args.scope.now.program.now) c.requires.ready (let l : length c.type_expression.new.types ≡ 512 = search rules in l) c.type_expression.ensures.stays c.in_ok-test.ensures.types in
    let no = kind_at (is_boolean) c.type_expression.new.types c.type_expression.new.counts c.in_ok-test.test o.there c.is_boolean.ensures (let b : c.is_boolean.result ≡ true = search rules in b) in
    record { gives = then_goes _ _ c.in_ok-test.ensures.types.gives (needing_holds (spot_at c.args.scope.now.function c.args.at) _ no (then_goes _ _ (typing_at c.type_expression.ensures.stays.variables c.in_ok-first.ensures.types).gives (then_goes _ _ (typing_at (stays_on c.type_expression.ensures.stays c.type_expression-2.ensures.stays).variables c.in_ok-second.ensures.types).gives (c.push_row.ensures.makes.gives c.type_expression-3.new.state.error)))) }

pub type_if-returns-clause-stays : goal.type_if-returns-clause-stays
type_if-returns-clause-stays t c =
    stays_then (stays_on (stays_on c.type_expression.ensures.stays c.type_expression-2.ensures.stays) c.type_expression-3.ensures.stays) c.push_row.ensures.grows

pub type_let-type_expression-requires : goal.type_let-type_expression-requires
type_let-type_expression-requires t c =
    let s = c.requires.ready in
    let low = c.requires.value in
    let r = room_part c.requires.room low in
    search rules

pub type_let-returns-in_err-variable-clause-types : goal.type_let-returns-in_err-variable-clause-types
type_let-returns-in_err-variable-clause-types t c =
    gave_err (search rules) (then_stops _ _ c.in_err-variable.ensures.types.gives)

pub type_let-returns-in_err-variable-clause-stays : goal.type_let-returns-in_err-variable-clause-stays
type_let-returns-in_err-variable-clause-stays t c =
    c.type_expression.ensures.stays

pub type_let-type_under-requires : goal.type_let-type_under-requires
type_let-type_under-requires t c =
    let o = typed_on (orderly c.args.scope.now.program.now) c.requires.ready (let l : length c.type_expression.new.types ≡ 512 = search rules in l) c.type_expression.ensures.stays c.in_ok-variable.ensures.types in
    let low = c.requires.body in
    let there : c.args.body < length (program_rows c.args.scope.now.program.now).expressions = (let a = c.requires.room.there in omega arith) in
    let few : length c.type_expression.new.state.variables.items + c.args.body < 512 = (let e = ap (λ (vs : List ℕ). length vs) c.type_expression.ensures.stays.variables in let b = c.requires.room.variables in omega arith) in
    let s = o.standing in
    let l = o.there in
    search rules

pub type_let-returns-clause-types : goal.type_let-returns-clause-types
type_let-returns-clause-types t c =
    record { gives = then_goes _ _ c.in_ok-variable.ensures.types.gives (typing_at (ap (λ (vs : List ℕ). vs ++ (c.in_ok-variable.variable ∷ [])) c.type_expression.ensures.stays.variables) c.type_under.ensures.types).gives }

pub type_let-returns-clause-stays : goal.type_let-returns-clause-stays
type_let-returns-clause-stays t c =
    stays_on c.type_expression.ensures.stays c.type_under.ensures.stays

pub type_for-type_expression-requires : goal.type_for-type_expression-requires
type_for-type_expression-requires t c =
    let s = c.requires.ready in
    let low = c.requires.items in
    let r = room_part c.requires.room low in
    search rules

pub type_for-returns-in_err-walked-clause-types : goal.type_for-returns-in_err-walked-clause-types
type_for-returns-in_err-walked-clause-types t c =
    gave_err (search rules) (then_stops _ _ c.in_err-walked.ensures.types.gives)

pub type_for-returns-in_err-walked-clause-stays : goal.type_for-returns-in_err-walked-clause-stays
type_for-returns-in_err-walked-clause-stays t c =
    c.type_expression.ensures.stays

pub type_for-walk-requires : goal.type_for-walk-requires
type_for-walk-requires t c =
    let o = typed_on (orderly c.args.scope.now.program.now) c.requires.ready (let l : length c.type_expression.new.types ≡ 512 = search rules in l) c.type_expression.ensures.stays c.in_ok-walked.ensures.types in
    let low = c.requires.body in
    let there : c.args.body < length (program_rows c.args.scope.now.program.now).expressions = (let a = c.requires.room.there in omega arith) in
    let few : length c.type_expression.new.state.variables.items + c.args.body < 512 = (let e = ap (λ (vs : List ℕ). length vs) c.type_expression.ensures.stays.variables in let b = c.requires.room.variables in omega arith) in
    let s = o.standing in
    let l = o.there in
    search rules

pub type_for-returns-clause-types : goal.type_for-returns-clause-types
type_for-returns-clause-types t c =
    let o = typed_on (orderly c.args.scope.now.program.now) c.requires.ready (let l : length c.type_expression.new.types ≡ 512 = search rules in l) c.type_expression.ensures.stays c.in_ok-walked.ensures.types in
    record { gives = then_goes _ _ c.in_ok-walked.ensures.types.gives (walked_now o.standing o.there (walks_at (program_rows c.args.scope.now.program.now) c.args.scope.now.function c.args.body c.type_expression.ensures.stays.variables c.walk.ensures.walks)) }

pub type_for-returns-clause-stays : goal.type_for-returns-clause-stays
type_for-returns-clause-stays t c =
    stays_on c.type_expression.ensures.stays c.walk.ensures.stays

pub type_under-type_expression-row-requires : goal.type_under-type_expression-row-requires
type_under-type_expression-row-requires t c =
    let s = standing_under {t = record { variables = c.push.new.self; error = c.args.state.now.error }} c.requires.ready c.requires.variable c.push.ensures.items in
    let r = room_under {g = program_rows c.args.scope.now.program.now} c.args.state.now {t = record { variables = c.push.new.self; error = c.args.state.now.error }} c.args.variable c.requires.body c.requires.room c.push.ensures.items in
    search rules

pub type_under-returns-clause-types : goal.type_under-returns-clause-types
type_under-returns-clause-types t c =
    typing_at c.push.ensures.items c.type_expression-row.ensures.types

pub type_under-returns-clause-stays : goal.type_under-returns-clause-stays
type_under-returns-clause-stays t c =
    record { grows = c.type_expression-row.ensures.stays.grows; variables = popped c.args.state.now.variables.items c.type_expression-row.new.state.variables.items c.args.variable (c.type_expression-row.ensures.stays.variables ∙ c.push.ensures.items) c.pop.ensures.rest }

pub walk-bounds : goal.walk-bounds
walk-bounds t c =
    let l = c.requires.row in
    let few = c.args.counts.now.few in
    let n = c.requires.ready.long in
    omega arith

pub walk-walk-requires : goal.walk-walk-requires
walk-walk-requires t c =
    let a = c.args in
    let at : row (table_of a.types.now a.counts.now) a.row ≡ Sequence c.in-Sequence.first c.in-Sequence.second = reads a.types.now a.counts.now a.row c.requires.row c.in-Sequence.is in
    let s = c.requires.ready in
    let b = c.requires.body in
    let m = c.requires.room in
    let p = part_walkable (walkable_now s c.requires.row) at (left refl) in
    let low = p.1 in
    let there = p.0.there in
    search rules

pub walk-returns-in_err-left-in-Sequence-clause-walks : goal.walk-returns-in_err-left-in-Sequence-clause-walks
walk-returns-in_err-left-in-Sequence-clause-walks t c =
    let a = c.args in
    let at : row (table_of a.types.now a.counts.now) a.row ≡ Sequence c.in-Sequence.first c.in-Sequence.second = reads a.types.now a.counts.now a.row c.requires.row c.in-Sequence.is in
    walks_err _ (search rules) (both_left at c.in_err-left-in-Sequence.ensures.walks)

pub walk-returns-in_err-left-in-Sequence-clause-stays : goal.walk-returns-in_err-left-in-Sequence-clause-stays
walk-returns-in_err-left-in-Sequence-clause-stays t c =
    c.walk.ensures.stays

pub walk-walk-requires-in-Sequence : goal.walk-walk-requires-in-Sequence
walk-walk-requires-in-Sequence t c =
    let a = c.args in
    let at : row (table_of a.types.now a.counts.now) a.row ≡ Sequence c.in-Sequence.first c.in-Sequence.second = reads a.types.now a.counts.now a.row c.requires.row c.in-Sequence.is in
    let p = part_walkable (walkable_now c.requires.ready c.requires.row) at (left refl) in
    let o = walked_on c.args.scope.now.function c.args.body c.in-Sequence.first (orderly c.args.scope.now.program.now) c.requires.ready p.0.there (let l : length c.walk.new.types ≡ 512 = search rules in l) c.walk.ensures.stays c.in_ok-left-in-Sequence.ensures.walks in
    let q = part_walkable (walkable_now c.requires.ready c.requires.row) at (right refl) in
    let s = o.standing in
    let low = q.1 in
    let b = c.requires.body in
    let m : length c.walk.new.state.variables.items + c.args.body < 512 = (let e = ap (λ (vs : List ℕ). length vs) c.walk.ensures.stays.variables in let r = c.requires.room in omega arith) in
    let there : c.in-Sequence.second < c.walk.new.counts.all = (let z = q.0.there in let y = c.walk.ensures.stays.grows.more in omega arith) in
    search rules

pub walk-returns-in_err-right-in-Sequence-clause-walks : goal.walk-returns-in_err-right-in-Sequence-clause-walks
walk-returns-in_err-right-in-Sequence-clause-walks t c =
    let a = c.args in
    let at : row (table_of a.types.now a.counts.now) a.row ≡ Sequence c.in-Sequence.first c.in-Sequence.second = reads a.types.now a.counts.now a.row c.requires.row c.in-Sequence.is in
    let more = longer c.requires.ready.long (let l : length c.walk.new.types ≡ 512 = search rules in l) c.walk.ensures.stays.grows in
    walks_err _ (search rules) (both_right at c.in_ok-left-in-Sequence.ensures.walks more (walks_at (program_rows c.args.scope.now.program.now) c.args.scope.now.function c.args.body c.walk.ensures.stays.variables c.in_err-right-in-Sequence.ensures.walks))

pub walk-returns-in_err-right-in-Sequence-clause-stays : goal.walk-returns-in_err-right-in-Sequence-clause-stays
walk-returns-in_err-right-in-Sequence-clause-stays t c =
    stays_on c.walk.ensures.stays c.walk-in-Sequence.ensures.stays

pub walk-returns-in_ok-right-in-Sequence-clause-walks : goal.walk-returns-in_ok-right-in-Sequence-clause-walks
walk-returns-in_ok-right-in-Sequence-clause-walks t c =
    let a = c.args in
    let at : row (table_of a.types.now a.counts.now) a.row ≡ Sequence c.in-Sequence.first c.in-Sequence.second = reads a.types.now a.counts.now a.row c.requires.row c.in-Sequence.is in
    let more = longer c.requires.ready.long (let l : length c.walk.new.types ≡ 512 = search rules in l) c.walk.ensures.stays.grows in
    both_made at c.in_ok-left-in-Sequence.ensures.walks more (walks_at (program_rows c.args.scope.now.program.now) c.args.scope.now.function c.args.body c.walk.ensures.stays.variables c.in_ok-right-in-Sequence.ensures.walks) (c.push_row-in-Sequence.ensures.makes.gives c.walk-in-Sequence.new.state.error)

pub walk-returns-in_ok-right-in-Sequence-clause-stays : goal.walk-returns-in_ok-right-in-Sequence-clause-stays
walk-returns-in_ok-right-in-Sequence-clause-stays t c =
    stays_then (stays_on c.walk.ensures.stays c.walk-in-Sequence.ensures.stays) c.push_row-in-Sequence.ensures.grows

pub walk-walk-requires-in-Choice : goal.walk-walk-requires-in-Choice
walk-walk-requires-in-Choice t c =
    let a = c.args in
    let at : row (table_of a.types.now a.counts.now) a.row ≡ Choice c.in-Choice.first c.in-Choice.second = reads a.types.now a.counts.now a.row c.requires.row c.in-Choice.is in
    let s = c.requires.ready in
    let b = c.requires.body in
    let m = c.requires.room in
    let p = part_walkable (walkable_now s c.requires.row) at (first refl) in
    let low = p.1 in
    let there = p.0.there in
    search rules

pub walk-returns-in_err-left-in-Choice-clause-walks : goal.walk-returns-in_err-left-in-Choice-clause-walks
walk-returns-in_err-left-in-Choice-clause-walks t c =
    let a = c.args in
    let at : row (table_of a.types.now a.counts.now) a.row ≡ Choice c.in-Choice.first c.in-Choice.second = reads a.types.now a.counts.now a.row c.requires.row c.in-Choice.is in
    walks_err _ (search rules) (either_left at c.in_err-left-in-Choice.ensures.walks)

pub walk-returns-in_err-left-in-Choice-clause-stays : goal.walk-returns-in_err-left-in-Choice-clause-stays
walk-returns-in_err-left-in-Choice-clause-stays t c =
    c.walk-in-Choice.ensures.stays

pub walk-walk-requires-in-Choice-2 : goal.walk-walk-requires-in-Choice-2
walk-walk-requires-in-Choice-2 t c =
    let a = c.args in
    let at : row (table_of a.types.now a.counts.now) a.row ≡ Choice c.in-Choice.first c.in-Choice.second = reads a.types.now a.counts.now a.row c.requires.row c.in-Choice.is in
    let p = part_walkable (walkable_now c.requires.ready c.requires.row) at (first refl) in
    let o = walked_on c.args.scope.now.function c.args.body c.in-Choice.first (orderly c.args.scope.now.program.now) c.requires.ready p.0.there (let l : length c.walk-in-Choice.new.types ≡ 512 = search rules in l) c.walk-in-Choice.ensures.stays c.in_ok-left-in-Choice.ensures.walks in
    let q = part_walkable (walkable_now c.requires.ready c.requires.row) at (second refl) in
    let s = o.standing in
    let low = q.1 in
    let b = c.requires.body in
    let m : length c.walk-in-Choice.new.state.variables.items + c.args.body < 512 = (let e = ap (λ (vs : List ℕ). length vs) c.walk-in-Choice.ensures.stays.variables in let r = c.requires.room in omega arith) in
    let there : c.in-Choice.second < c.walk-in-Choice.new.counts.all = (let z = q.0.there in let y = c.walk-in-Choice.ensures.stays.grows.more in omega arith) in
    search rules

pub walk-returns-in_err-right-in-Choice-clause-walks : goal.walk-returns-in_err-right-in-Choice-clause-walks
walk-returns-in_err-right-in-Choice-clause-walks t c =
    let a = c.args in
    let at : row (table_of a.types.now a.counts.now) a.row ≡ Choice c.in-Choice.first c.in-Choice.second = reads a.types.now a.counts.now a.row c.requires.row c.in-Choice.is in
    let more = longer c.requires.ready.long (let l : length c.walk-in-Choice.new.types ≡ 512 = search rules in l) c.walk-in-Choice.ensures.stays.grows in
    walks_err _ (search rules) (either_right at c.in_ok-left-in-Choice.ensures.walks more (walks_at (program_rows c.args.scope.now.program.now) c.args.scope.now.function c.args.body c.walk-in-Choice.ensures.stays.variables c.in_err-right-in-Choice.ensures.walks))

pub walk-returns-in_err-right-in-Choice-clause-stays : goal.walk-returns-in_err-right-in-Choice-clause-stays
walk-returns-in_err-right-in-Choice-clause-stays t c =
    stays_on c.walk-in-Choice.ensures.stays c.walk-in-Choice-2.ensures.stays

pub walk-returns-in_ok-right-in-Choice-clause-walks : goal.walk-returns-in_ok-right-in-Choice-clause-walks
walk-returns-in_ok-right-in-Choice-clause-walks t c =
    let a = c.args in
    let at : row (table_of a.types.now a.counts.now) a.row ≡ Choice c.in-Choice.first c.in-Choice.second = reads a.types.now a.counts.now a.row c.requires.row c.in-Choice.is in
    let more = longer c.requires.ready.long (let l : length c.walk-in-Choice.new.types ≡ 512 = search rules in l) c.walk-in-Choice.ensures.stays.grows in
    either_made at c.in_ok-left-in-Choice.ensures.walks more (walks_at (program_rows c.args.scope.now.program.now) c.args.scope.now.function c.args.body c.walk-in-Choice.ensures.stays.variables c.in_ok-right-in-Choice.ensures.walks) (c.push_row-in-Choice.ensures.makes.gives c.walk-in-Choice-2.new.state.error)

pub walk-returns-in_ok-right-in-Choice-clause-stays : goal.walk-returns-in_ok-right-in-Choice-clause-stays
walk-returns-in_ok-right-in-Choice-clause-stays t c =
    stays_then (stays_on c.walk-in-Choice.ensures.stays c.walk-in-Choice-2.ensures.stays) c.push_row-in-Choice.ensures.grows

pub walk-walk-requires-in-Repetition : goal.walk-walk-requires-in-Repetition
walk-walk-requires-in-Repetition t c =
    let a = c.args in
    let at : row (table_of a.types.now a.counts.now) a.row ≡ Repetition c.in-Repetition.part = reads a.types.now a.counts.now a.row c.requires.row c.in-Repetition.is in
    let s = c.requires.ready in
    let b = c.requires.body in
    let m = c.requires.room in
    let p = part_walkable (walkable_now s c.requires.row) at (repeats refl) in
    let low = p.1 in
    let there = p.0.there in
    search rules

pub walk-returns-in_err-inner-in-Repetition-clause-walks : goal.walk-returns-in_err-inner-in-Repetition-clause-walks
walk-returns-in_err-inner-in-Repetition-clause-walks t c =
    let a = c.args in
    let at : row (table_of a.types.now a.counts.now) a.row ≡ Repetition c.in-Repetition.part = reads a.types.now a.counts.now a.row c.requires.row c.in-Repetition.is in
    walks_err _ (search rules) (repeated_stops at c.in_err-inner-in-Repetition.ensures.walks)

pub walk-returns-in_err-inner-in-Repetition-clause-stays : goal.walk-returns-in_err-inner-in-Repetition-clause-stays
walk-returns-in_err-inner-in-Repetition-clause-stays t c =
    c.walk-in-Repetition.ensures.stays

pub walk-returns-in_ok-inner-in-Repetition-clause-walks : goal.walk-returns-in_ok-inner-in-Repetition-clause-walks
walk-returns-in_ok-inner-in-Repetition-clause-walks t c =
    let a = c.args in
    let at : row (table_of a.types.now a.counts.now) a.row ≡ Repetition c.in-Repetition.part = reads a.types.now a.counts.now a.row c.requires.row c.in-Repetition.is in
    repeated_made at c.in_ok-inner-in-Repetition.ensures.walks (c.push_row-in-Repetition.ensures.makes.gives c.walk-in-Repetition.new.state.error)

pub walk-returns-in_ok-inner-in-Repetition-clause-stays : goal.walk-returns-in_ok-inner-in-Repetition-clause-stays
walk-returns-in_ok-inner-in-Repetition-clause-stays t c =
    stays_then c.walk-in-Repetition.ensures.stays c.push_row-in-Repetition.ensures.grows

pub walk-returns-in-EmptyChoice-clause-walks : goal.walk-returns-in-EmptyChoice-clause-walks
walk-returns-in-EmptyChoice-clause-walks t c =
    let a = c.args in
    let at : row (table_of a.types.now a.counts.now) a.row ≡ EmptyChoice = reads a.types.now a.counts.now a.row c.requires.row c.in-EmptyChoice.is in
    empty_choice_walked at (c.push_row.ensures.makes.gives c.args.state.now.error)

pub walk-returns-in-EmptyChoice-clause-stays : goal.walk-returns-in-EmptyChoice-clause-stays
walk-returns-in-EmptyChoice-clause-stays t c =
    record { grows = c.push_row.ensures.grows; variables = refl }

pub walk-returns-in-EmptySequence-clause-walks : goal.walk-returns-in-EmptySequence-clause-walks
walk-returns-in-EmptySequence-clause-walks t c =
    let a = c.args in
    let at : row (table_of a.types.now a.counts.now) a.row ≡ EmptySequence = reads a.types.now a.counts.now a.row c.requires.row c.in-EmptySequence.is in
    empty_sequence_walked at (c.push_row-in-EmptySequence.ensures.makes.gives c.args.state.now.error)

pub walk-returns-in-EmptySequence-clause-stays : goal.walk-returns-in-EmptySequence-clause-stays
walk-returns-in-EmptySequence-clause-stays t c =
    record { grows = c.push_row-in-EmptySequence.ensures.grows; variables = refl }

pub walk-type_under-requires : goal.walk-type_under-requires
walk-type_under-requires t c =
    let s = c.requires.ready in
    let b = c.requires.body in
    let m = c.requires.room in
    let l = c.requires.row in
    search rules

pub walk-returns-in_default-clause-walks : goal.walk-returns-in_default-clause-walks
walk-returns-in_default-clause-walks t c =
    let a = c.args in
    item_walked (reads a.types.now a.counts.now a.row c.requires.row refl) (item_of _ c.in_default.not-EmptyChoice c.in_default.not-EmptySequence c.in_default.not-Sequence c.in_default.not-Choice c.in_default.not-Repetition) (λ ts over. c.type_under.ensures.types.gives)

pub walk-returns-in_default-clause-stays : goal.walk-returns-in_default-clause-stays
walk-returns-in_default-clause-stays t c =
    c.type_under.ensures.stays

pub type_expression-returns-in-Integer-clause-types : goal.type_expression-returns-in-Integer-clause-types
type_expression-returns-in-Integer-clause-types t c =
    by_kind (orderly c.args.scope.now.program.now) (sym c.in-Integer.ensures) (c.push_row.ensures.makes.gives c.args.state.now.error)

pub type_expression-returns-in-Integer-clause-stays : goal.type_expression-returns-in-Integer-clause-stays
type_expression-returns-in-Integer-clause-stays t c =
    record { grows = c.push_row.ensures.grows; variables = refl }

pub type_expression-returns-in-Boolean-clause-types : goal.type_expression-returns-in-Boolean-clause-types
type_expression-returns-in-Boolean-clause-types t c =
    by_kind (orderly c.args.scope.now.program.now) (sym c.in-Boolean.ensures) (c.push_row-in-Boolean.ensures.makes.gives c.args.state.now.error)

pub type_expression-returns-in-Boolean-clause-stays : goal.type_expression-returns-in-Boolean-clause-stays
type_expression-returns-in-Boolean-clause-stays t c =
    record { grows = c.push_row-in-Boolean.ensures.grows; variables = refl }

pub type_expression-returns-in-String-clause-types : goal.type_expression-returns-in-String-clause-types
type_expression-returns-in-String-clause-types t c =
    by_kind (orderly c.args.scope.now.program.now) (sym c.in-String.ensures) (c.push_row-in-String.ensures.makes.gives c.args.state.now.error)

pub type_expression-returns-in-String-clause-stays : goal.type_expression-returns-in-String-clause-stays
type_expression-returns-in-String-clause-stays t c =
    record { grows = c.push_row-in-String.ensures.grows; variables = refl }

pub type_expression-returns-in-Empty-clause-types : goal.type_expression-returns-in-Empty-clause-types
type_expression-returns-in-Empty-clause-types t c =
    by_kind (orderly c.args.scope.now.program.now) (sym c.in-Empty.ensures) (c.push_row-in-Empty.ensures.makes.gives c.args.state.now.error)

pub type_expression-returns-in-Empty-clause-stays : goal.type_expression-returns-in-Empty-clause-stays
type_expression-returns-in-Empty-clause-stays t c =
    record { grows = c.push_row-in-Empty.ensures.grows; variables = refl }

pub type_expression-returns-in-Error-clause-types : goal.type_expression-returns-in-Error-clause-types
type_expression-returns-in-Error-clause-types t c =
    by_kind (orderly c.args.scope.now.program.now) (sym c.in-Error.ensures) c.type_error.ensures.types.gives

pub type_expression-returns-in-Error-clause-stays : goal.type_expression-returns-in-Error-clause-stays
type_expression-returns-in-Error-clause-stays t c =
    c.type_error.ensures.stays

pub type_expression-returns-in-Variable-clause-types : goal.type_expression-returns-in-Variable-clause-types
type_expression-returns-in-Variable-clause-types t c =
    by_kind (orderly c.args.scope.now.program.now) (sym c.in-Variable.ensures) c.type_variable.ensures.types.gives

pub type_expression-returns-in-Variable-clause-stays : goal.type_expression-returns-in-Variable-clause-stays
type_expression-returns-in-Variable-clause-stays t c =
    c.type_variable.ensures.stays

pub type_expression-type_variable-requires : goal.type_expression-type_variable-requires
type_expression-type_variable-requires t c =
    let s = c.requires.ready in
    let r = c.requires.room in
    let w : (g : _) × Standing g c.args.types.now c.args.counts.now c.args.state.now = ((program_rows c.args.scope.now.program.now), s) in
    search rules

pub type_expression-returns-in-Element-clause-types : goal.type_expression-returns-in-Element-clause-types
type_expression-returns-in-Element-clause-types t c =
    by_kind (orderly c.args.scope.now.program.now) (sym c.in-Element.ensures) c.type_element.ensures.types.gives

pub type_expression-returns-in-Element-clause-stays : goal.type_expression-returns-in-Element-clause-stays
type_expression-returns-in-Element-clause-stays t c =
    c.type_element.ensures.stays

pub type_expression-type_element-requires : goal.type_expression-type_element-requires
type_expression-type_element-requires t c =
    let s = c.requires.ready in
    let r = c.requires.room in
    let low = lower_last (tag_lawful c.in-Element.tag) c.in-Element.content c.args.at (fits_at c.args.scope.now.program.now c.args.at c.in-Element.ensures) in
    search rules

pub type_expression-returns-in-IsEmpty-clause-types : goal.type_expression-returns-in-IsEmpty-clause-types
type_expression-returns-in-IsEmpty-clause-types t c =
    by_kind (orderly c.args.scope.now.program.now) (sym c.in-IsEmpty.ensures) c.type_scalar.ensures.types.gives

pub type_expression-returns-in-IsEmpty-clause-stays : goal.type_expression-returns-in-IsEmpty-clause-stays
type_expression-returns-in-IsEmpty-clause-stays t c =
    c.type_scalar.ensures.stays

pub type_expression-type_scalar-requires : goal.type_expression-type_scalar-requires
type_expression-type_scalar-requires t c =
    let s = c.requires.ready in
    let r = c.requires.room in
    let low = ltb-true c.in-IsEmpty.part c.args.at (fits_at c.args.scope.now.program.now c.args.at c.in-IsEmpty.ensures) in
    search rules

pub type_expression-returns-in-Count-clause-types : goal.type_expression-returns-in-Count-clause-types
type_expression-returns-in-Count-clause-types t c =
    by_kind (orderly c.args.scope.now.program.now) (sym c.in-Count.ensures) c.type_scalar-in-Count.ensures.types.gives

pub type_expression-returns-in-Count-clause-stays : goal.type_expression-returns-in-Count-clause-stays
type_expression-returns-in-Count-clause-stays t c =
    c.type_scalar-in-Count.ensures.stays

pub type_expression-type_scalar-requires-in-Count : goal.type_expression-type_scalar-requires-in-Count
type_expression-type_scalar-requires-in-Count t c =
    let s = c.requires.ready in
    let r = c.requires.room in
    let low = ltb-true c.in-Count.part c.args.at (fits_at c.args.scope.now.program.now c.args.at c.in-Count.ensures) in
    search rules

pub type_expression-returns-in-Children-clause-types : goal.type_expression-returns-in-Children-clause-types
type_expression-returns-in-Children-clause-types t c =
    by_kind (orderly c.args.scope.now.program.now) (sym c.in-Children.ensures) c.type_children.ensures.types.gives

pub type_expression-returns-in-Children-clause-stays : goal.type_expression-returns-in-Children-clause-stays
type_expression-returns-in-Children-clause-stays t c =
    c.type_children.ensures.stays

pub type_expression-type_children-requires : goal.type_expression-type_children-requires
type_expression-type_children-requires t c =
    let s = c.requires.ready in
    let r = c.requires.room in
    let low = ltb-true c.in-Children.part c.args.at (fits_at c.args.scope.now.program.now c.args.at c.in-Children.ensures) in
    search rules

pub type_expression-returns-in-As-clause-types : goal.type_expression-returns-in-As-clause-types
type_expression-returns-in-As-clause-types t c =
    by_kind (orderly c.args.scope.now.program.now) (sym c.in-As.ensures) c.type_fitted.ensures.types.gives

pub type_expression-returns-in-As-clause-stays : goal.type_expression-returns-in-As-clause-stays
type_expression-returns-in-As-clause-stays t c =
    c.type_fitted.ensures.stays

pub type_expression-type_fitted-requires : goal.type_expression-type_fitted-requires
type_expression-type_fitted-requires t c =
    let s = c.requires.ready in
    let r = c.requires.room in
    let low = lower_front c.in-As.part c.args.at (ltb c.in-As.target 512) (fits_at c.args.scope.now.program.now c.args.at c.in-As.ensures) in
    let root = s.typable.targets c.args.at c.in-As.part c.in-As.target (sym c.in-As.ensures) in
    search rules

pub type_expression-returns-in-Call-clause-types : goal.type_expression-returns-in-Call-clause-types
type_expression-returns-in-Call-clause-types t c =
    by_kind (orderly c.args.scope.now.program.now) (sym c.in-Call.ensures) c.type_call.ensures.types.gives

pub type_expression-returns-in-Call-clause-stays : goal.type_expression-returns-in-Call-clause-stays
type_expression-returns-in-Call-clause-stays t c =
    c.type_call.ensures.stays

pub type_expression-type_call-requires : goal.type_expression-type_call-requires
type_expression-type_call-requires t c =
    let s = c.requires.ready in
    let r = c.requires.room in
    let low = lower_last (ltb c.in-Call.function 32) c.in-Call.argument c.args.at (fits_at c.args.scope.now.program.now c.args.at c.in-Call.ensures) in
    search rules

pub type_expression-returns-in-Sequence-clause-types : goal.type_expression-returns-in-Sequence-clause-types
type_expression-returns-in-Sequence-clause-types t c =
    by_kind (orderly c.args.scope.now.program.now) (sym c.in-Sequence.ensures) c.type_two.ensures.types.gives

pub type_expression-returns-in-Sequence-clause-stays : goal.type_expression-returns-in-Sequence-clause-stays
type_expression-returns-in-Sequence-clause-stays t c =
    c.type_two.ensures.stays

pub type_expression-type_two-requires : goal.type_expression-type_two-requires
type_expression-type_two-requires t c =
    let s = c.requires.ready in
    let r = c.requires.room in
    let low = lower_two c.in-Sequence.first c.in-Sequence.second c.args.at (fits_at c.args.scope.now.program.now c.args.at c.in-Sequence.ensures) in
    let one = low.0 in
    let two = low.1 in
    search rules

pub type_expression-returns-in-Add-clause-types : goal.type_expression-returns-in-Add-clause-types
type_expression-returns-in-Add-clause-types t c =
    by_kind (orderly c.args.scope.now.program.now) (sym c.in-Add.ensures) c.type_two-in-Add.ensures.types.gives

pub type_expression-returns-in-Add-clause-stays : goal.type_expression-returns-in-Add-clause-stays
type_expression-returns-in-Add-clause-stays t c =
    c.type_two-in-Add.ensures.stays

pub type_expression-type_two-requires-in-Add : goal.type_expression-type_two-requires-in-Add
type_expression-type_two-requires-in-Add t c =
    let s = c.requires.ready in
    let r = c.requires.room in
    let low = lower_two c.in-Add.left c.in-Add.right c.args.at (fits_at c.args.scope.now.program.now c.args.at c.in-Add.ensures) in
    let one = low.0 in
    let two = low.1 in
    search rules

pub type_expression-returns-in-Equal-clause-types : goal.type_expression-returns-in-Equal-clause-types
type_expression-returns-in-Equal-clause-types t c =
    by_kind (orderly c.args.scope.now.program.now) (sym c.in-Equal.ensures) c.type_two-in-Equal.ensures.types.gives

pub type_expression-returns-in-Equal-clause-stays : goal.type_expression-returns-in-Equal-clause-stays
type_expression-returns-in-Equal-clause-stays t c =
    c.type_two-in-Equal.ensures.stays

pub type_expression-type_two-requires-in-Equal : goal.type_expression-type_two-requires-in-Equal
type_expression-type_two-requires-in-Equal t c =
    let s = c.requires.ready in
    let r = c.requires.room in
    let low = lower_two c.in-Equal.left c.in-Equal.right c.args.at (fits_at c.args.scope.now.program.now c.args.at c.in-Equal.ensures) in
    let one = low.0 in
    let two = low.1 in
    search rules

pub type_expression-returns-in-Let-clause-types : goal.type_expression-returns-in-Let-clause-types
type_expression-returns-in-Let-clause-types t c =
    by_kind (orderly c.args.scope.now.program.now) (sym c.in-Let.ensures) c.type_let.ensures.types.gives

pub type_expression-returns-in-Let-clause-stays : goal.type_expression-returns-in-Let-clause-stays
type_expression-returns-in-Let-clause-stays t c =
    c.type_let.ensures.stays

pub type_expression-type_let-requires : goal.type_expression-type_let-requires
type_expression-type_let-requires t c =
    let s = c.requires.ready in
    let r = c.requires.room in
    let low = lower_two c.in-Let.value c.in-Let.body c.args.at (fits_at c.args.scope.now.program.now c.args.at c.in-Let.ensures) in
    let one = low.0 in
    let two = low.1 in
    search rules

pub type_expression-returns-in-For-clause-types : goal.type_expression-returns-in-For-clause-types
type_expression-returns-in-For-clause-types t c =
    by_kind (orderly c.args.scope.now.program.now) (sym c.in-For.ensures) c.type_for.ensures.types.gives

pub type_expression-returns-in-For-clause-stays : goal.type_expression-returns-in-For-clause-stays
type_expression-returns-in-For-clause-stays t c =
    c.type_for.ensures.stays

pub type_expression-type_for-requires : goal.type_expression-type_for-requires
type_expression-type_for-requires t c =
    let s = c.requires.ready in
    let r = c.requires.room in
    let low = lower_two c.in-For.items c.in-For.body c.args.at (fits_at c.args.scope.now.program.now c.args.at c.in-For.ensures) in
    let one = low.0 in
    let two = low.1 in
    search rules

pub type_expression-returns-in-If-clause-types : goal.type_expression-returns-in-If-clause-types
type_expression-returns-in-If-clause-types t c =
    by_kind (orderly c.args.scope.now.program.now) (sym c.in-If.ensures) c.type_if.ensures.types.gives

pub type_expression-returns-in-If-clause-stays : goal.type_expression-returns-in-If-clause-stays
type_expression-returns-in-If-clause-stays t c =
    c.type_if.ensures.stays

pub type_expression-type_if-requires : goal.type_expression-type_if-requires
type_expression-type_if-requires t c =
    let s = c.requires.ready in
    let r = c.requires.room in
    let low = lower_three c.in-If.condition c.in-If.then c.in-If.otherwise c.args.at (fits_at c.args.scope.now.program.now c.args.at c.in-If.ensures) in
    let one = low.0 in
    let two = low.1 in
    let three = low.2 in
    search rules

pub type_expression-returns-in-Match-clause-types : goal.type_expression-returns-in-Match-clause-types
type_expression-returns-in-Match-clause-types t c =
    by_kind (orderly c.args.scope.now.program.now) (sym c.in-Match.ensures) c.type_match.ensures.types.gives

pub type_expression-returns-in-Match-clause-stays : goal.type_expression-returns-in-Match-clause-stays
type_expression-returns-in-Match-clause-stays t c =
    c.type_match.ensures.stays

pub type_expression-type_match-requires : goal.type_expression-type_match-requires
type_expression-type_match-requires t c =
    let s = c.requires.ready in
    let r = c.requires.room in
    let low = lower_two c.in-Match.subject c.in-Match.otherwise c.args.at (match_low c.in-Match.subject c.in-Match.otherwise c.args.at _ (fits_at c.args.scope.now.program.now c.args.at c.in-Match.ensures)) in
    let one = low.0 in
    let two = low.1 in
    let arms = (orderly c.args.scope.now.program.now).arms_lower c.args.at c.in-Match.subject c.in-Match.from c.in-Match.length c.in-Match.otherwise (sym c.in-Match.ensures) in
    let there = arms_there c.in-Match.from c.in-Match.length (length c.args.scope.now.program.now.arms.items) (match_last c.in-Match.subject c.in-Match.otherwise c.args.at _ (fits_at c.args.scope.now.program.now c.args.at c.in-Match.ensures)) in
    search rules

pub type_branches-type_expression-requires : goal.type_branches-type_expression-requires
type_branches-type_expression-requires t c =
    let s = c.requires.ready in
    let low = c.requires.otherwise in
    let r = room_part c.requires.room low in
    search rules

pub type_branches-returns-in_err-last-in-empty-clause-branches : goal.type_branches-returns-in_err-last-in-empty-clause-branches
type_branches-returns-in_err-last-in-empty-clause-branches t c =
    adds_err (branched (program_rows c.args.scope.now.program.now) c.args.scope.now.function c.args.state.now.variables.items c.args.at c.args.subject c.args.otherwise c.args.arms.now c.args.named.now.items (now c.args.types.now c.args.counts.now c.args.state.now)) c.args.branches.now.items c.args.branches.now.items (now c.type_expression.new.types c.type_expression.new.counts c.type_expression.new.state) (search rules) (none_left_not (program_rows c.args.scope.now.program.now) c.args.scope.now.function c.args.state.now.variables.items c.args.at c.args.subject c.args.otherwise c.args.named.now.items (no_arms c.args.arms.now c.in-empty.len_below) c.in_err-last-in-empty.ensures.types)

pub type_branches-returns-in_err-last-in-empty-clause-stays : goal.type_branches-returns-in_err-last-in-empty-clause-stays
type_branches-returns-in_err-last-in-empty-clause-stays t c =
    c.type_expression.ensures.stays

pub type_branches-returns-in_ok-last-in-empty-clause-branches : goal.type_branches-returns-in_ok-last-in-empty-clause-branches
type_branches-returns-in_ok-last-in-empty-clause-branches t c =
    (c.in_ok-last-in-empty.last ∷ [], none_left (program_rows c.args.scope.now.program.now) c.args.scope.now.function c.args.state.now.variables.items c.args.at c.args.subject c.args.otherwise c.args.named.now.items (no_arms c.args.arms.now c.in-empty.len_below) c.in_ok-last-in-empty.ensures.types, c.push.ensures.items)

pub type_branches-returns-in_ok-last-in-empty-clause-stays : goal.type_branches-returns-in_ok-last-in-empty-clause-stays
type_branches-returns-in_ok-last-in-empty-clause-stays t c =
    c.type_expression.ensures.stays

pub type_branches-type_under-requires : goal.type_branches-type_under-requires
type_branches-type_under-requires t c =
    let low = first_body c.args.at c.args.arms.now c.in-len1-up.len_at_least c.requires.arms in
    let body : (first_of c.args.arms.now).body < length (program_rows c.args.scope.now.program.now).expressions = (let a = c.requires.room.there in omega arith) in
    let few : length c.args.state.now.variables.items + (first_of c.args.arms.now).body < 512 = (let a = c.requires.room.variables in omega arith) in
    let s = c.requires.ready in
    let l = c.requires.subject in
    search rules

pub type_branches-returns-in_err-taken-in-Takes-clause-branches : goal.type_branches-returns-in_err-taken-in-Takes-clause-branches
type_branches-returns-in_err-taken-in-Takes-clause-branches t c =
    let is = split_arms c.args.arms.now c.in-len1-up.len_at_least in
    let told = taking_at (first_of c.args.arms.now).pattern c.as_slice.ensures.value c.in-Takes.ensures (reads c.args.types.now c.args.counts.now c.args.subject c.requires.subject refl) in
    adds_err (branched (program_rows c.args.scope.now.program.now) c.args.scope.now.function c.args.state.now.variables.items c.args.at c.args.subject c.args.otherwise c.args.arms.now c.args.named.now.items (now c.args.types.now c.args.counts.now c.args.state.now)) c.args.branches.now.items c.args.branches.now.items (now c.type_under.new.types c.type_under.new.counts c.type_under.new.state) (search rules) (taken_not (program_rows c.args.scope.now.program.now) c.args.scope.now.function c.args.state.now.variables.items c.args.at c.args.subject c.args.otherwise c.args.named.now.items is told c.in_err-taken-in-Takes.ensures.types)

pub type_branches-returns-in_err-taken-in-Takes-clause-stays : goal.type_branches-returns-in_err-taken-in-Takes-clause-stays
type_branches-returns-in_err-taken-in-Takes-clause-stays t c =
    c.type_under.ensures.stays

pub type_branches-returns-in_ok-taken-in-Takes-clause-branches : goal.type_branches-returns-in_ok-taken-in-Takes-clause-branches
type_branches-returns-in_ok-taken-in-Takes-clause-branches t c =
    let is = split_arms c.args.arms.now c.in-len1-up.len_at_least in
    let told = taking_at (first_of c.args.arms.now).pattern c.as_slice.ensures.value c.in-Takes.ensures (reads c.args.types.now c.args.counts.now c.args.subject c.requires.subject refl) in
    (c.in_ok-taken-in-Takes.taken ∷ [], taken (program_rows c.args.scope.now.program.now) c.args.scope.now.function c.args.state.now.variables.items c.args.at c.args.subject c.args.otherwise c.args.named.now.items is told c.in_ok-taken-in-Takes.ensures.types, c.push-in-Takes.ensures.items)

pub type_branches-returns-in_ok-taken-in-Takes-clause-stays : goal.type_branches-returns-in_ok-taken-in-Takes-clause-stays
type_branches-returns-in_ok-taken-in-Takes-clause-stays t c =
    c.type_under.ensures.stays

pub type_branches-type_branches-requires : goal.type_branches-type_branches-requires
type_branches-type_branches-requires t c =
    let n = others_length c.args.arms.now c.in-len1-up.len_at_least in
    let arms = other_bodies c.args.at c.args.arms.now c.in-len1-up.len_at_least c.requires.arms in
    let fits = others_fit c.args.arms.now c.in-len1-up.len_at_least c.requires.fits in
    let s = c.requires.ready in
    let r = c.requires.room in
    let l = c.requires.subject in
    let low = c.requires.otherwise in
    search rules

pub type_branches-returns-in-Passes-clause-branches : goal.type_branches-returns-in-Passes-clause-branches
type_branches-returns-in-Passes-clause-branches t c =
    let is = split_arms c.args.arms.now c.in-len1-up.len_at_least in
    let told = taking_at (first_of c.args.arms.now).pattern c.as_slice.ensures.value c.in-Passes.ensures (reads c.args.types.now c.args.counts.now c.args.subject c.requires.subject refl) in
    passed (program_rows c.args.scope.now.program.now) c.args.scope.now.function c.args.state.now.variables.items c.args.at c.args.subject c.args.otherwise c.args.named.now.items (now c.args.types.now c.args.counts.now c.args.state.now) c.type_branches.result c.args.branches.now.items c.type_branches.new.branches.items (now c.type_branches.new.types c.type_branches.new.counts c.type_branches.new.state) is told c.type_branches.ensures.branches

pub type_branches-returns-in-Passes-clause-stays : goal.type_branches-returns-in-Passes-clause-stays
type_branches-returns-in-Passes-clause-stays t c =
    c.type_branches.ensures.stays

pub type_branches-returns-in_err-variable-in-MayTake-clause-branches : goal.type_branches-returns-in_err-variable-in-MayTake-clause-branches
type_branches-returns-in_err-variable-in-MayTake-clause-branches t c =
    let is = split_arms c.args.arms.now c.in-len1-up.len_at_least in
    let told = taking_at (first_of c.args.arms.now).pattern c.as_slice.ensures.value c.in-MayTake.ensures (reads c.args.types.now c.args.counts.now c.args.subject c.requires.subject refl) in
    let w : c.narrowed-narrow.result ≡ narrowed c.in-MayTake.tag (row (table_of c.args.types.now c.args.counts.now) c.args.subject) = c.narrowed-narrow.ensures ∙ ap (λ (z : TypeRow). narrowed c.in-MayTake.tag z) (sym (reads c.args.types.now c.args.counts.now c.args.subject c.requires.subject refl)) in
    adds_err (branched (program_rows c.args.scope.now.program.now) c.args.scope.now.function c.args.state.now.variables.items c.args.at c.args.subject c.args.otherwise c.args.arms.now c.args.named.now.items (now c.args.types.now c.args.counts.now c.args.state.now)) c.args.branches.now.items c.args.branches.now.items (now c.push_row.new.types c.push_row.new.counts c.args.state.now) (search rules) (may_not_made (program_rows c.args.scope.now.program.now) c.args.scope.now.function c.args.state.now.variables.items c.args.at c.args.subject c.args.otherwise c.args.named.now.items (now c.args.types.now c.args.counts.now c.args.state.now) is told ((makes_as w c.in_err-variable-in-MayTake.ensures.makes).gives c.args.state.now.error))

pub type_branches-returns-in_err-variable-in-MayTake-clause-stays : goal.type_branches-returns-in_err-variable-in-MayTake-clause-stays
type_branches-returns-in_err-variable-in-MayTake-clause-stays t c =
    record { grows = c.push_row.ensures.grows; variables = refl }

pub type_branches-type_under-requires-in-MayTake : goal.type_branches-type_under-requires-in-MayTake
type_branches-type_under-requires-in-MayTake t c =
    let told = taking_at (first_of c.args.arms.now).pattern c.as_slice.ensures.value c.in-MayTake.ensures (reads c.args.types.now c.args.counts.now c.args.subject c.requires.subject refl) in
    let w : c.narrowed-narrow.result ≡ narrowed c.in-MayTake.tag (row (table_of c.args.types.now c.args.counts.now) c.args.subject) = c.narrowed-narrow.ensures ∙ ap (λ (z : TypeRow). narrowed c.in-MayTake.tag z) (sym (reads c.args.types.now c.args.counts.now c.args.subject c.requires.subject refl)) in
    let o = narrowed_on c.args.named.now.items (first_of c.args.arms.now).pattern c.args.subject c.in-MayTake.tag c.in_ok-variable-in-MayTake.variable c.requires.ready (let l : length c.push_row.new.types ≡ 512 = search rules in l) c.push_row.ensures.grows told (first_fits c.args.arms.now c.in-len1-up.len_at_least c.requires.fits) w c.in_ok-variable-in-MayTake.ensures.makes in
    let low = first_body c.args.at c.args.arms.now c.in-len1-up.len_at_least c.requires.arms in
    let body : (first_of c.args.arms.now).body < length (program_rows c.args.scope.now.program.now).expressions = (let a = c.requires.room.there in omega arith) in
    let few : length c.args.state.now.variables.items + (first_of c.args.arms.now).body < 512 = (let a = c.requires.room.variables in omega arith) in
    let s = o.standing in
    let l = o.there in
    search rules

pub type_branches-returns-in_err-taken-in-MayTake-clause-branches : goal.type_branches-returns-in_err-taken-in-MayTake-clause-branches
type_branches-returns-in_err-taken-in-MayTake-clause-branches t c =
    let is = split_arms c.args.arms.now c.in-len1-up.len_at_least in
    let told = taking_at (first_of c.args.arms.now).pattern c.as_slice.ensures.value c.in-MayTake.ensures (reads c.args.types.now c.args.counts.now c.args.subject c.requires.subject refl) in
    let w : c.narrowed-narrow.result ≡ narrowed c.in-MayTake.tag (row (table_of c.args.types.now c.args.counts.now) c.args.subject) = c.narrowed-narrow.ensures ∙ ap (λ (z : TypeRow). narrowed c.in-MayTake.tag z) (sym (reads c.args.types.now c.args.counts.now c.args.subject c.requires.subject refl)) in
    adds_err (branched (program_rows c.args.scope.now.program.now) c.args.scope.now.function c.args.state.now.variables.items c.args.at c.args.subject c.args.otherwise c.args.arms.now c.args.named.now.items (now c.args.types.now c.args.counts.now c.args.state.now)) c.args.branches.now.items c.args.branches.now.items (now c.type_under-in-MayTake.new.types c.type_under-in-MayTake.new.counts c.type_under-in-MayTake.new.state) (search rules) (may_not_typed (program_rows c.args.scope.now.program.now) c.args.scope.now.function c.args.state.now.variables.items c.args.at c.args.subject c.args.otherwise c.args.named.now.items (now c.args.types.now c.args.counts.now c.args.state.now) is told ((makes_as w c.in_ok-variable-in-MayTake.ensures.makes).gives c.args.state.now.error) c.in_err-taken-in-MayTake.ensures.types)

pub type_branches-returns-in_err-taken-in-MayTake-clause-stays : goal.type_branches-returns-in_err-taken-in-MayTake-clause-stays
type_branches-returns-in_err-taken-in-MayTake-clause-stays t c =
    (stays_on (let h : Stays c.args.types.now c.args.counts.now c.args.state.now c.push_row.new.types c.push_row.new.counts c.args.state.now = record { grows = c.push_row.ensures.grows; variables = refl } in h) c.type_under-in-MayTake.ensures.stays)

pub type_branches-type_branches-requires-in-MayTake : goal.type_branches-type_branches-requires-in-MayTake
type_branches-type_branches-requires-in-MayTake t c =
    let told = taking_at (first_of c.args.arms.now).pattern c.as_slice.ensures.value c.in-MayTake.ensures (reads c.args.types.now c.args.counts.now c.args.subject c.requires.subject refl) in
    let w : c.narrowed-narrow.result ≡ narrowed c.in-MayTake.tag (row (table_of c.args.types.now c.args.counts.now) c.args.subject) = c.narrowed-narrow.ensures ∙ ap (λ (z : TypeRow). narrowed c.in-MayTake.tag z) (sym (reads c.args.types.now c.args.counts.now c.args.subject c.requires.subject refl)) in
    let o = narrowed_on c.args.named.now.items (first_of c.args.arms.now).pattern c.args.subject c.in-MayTake.tag c.in_ok-variable-in-MayTake.variable c.requires.ready (let l : length c.push_row.new.types ≡ 512 = search rules in l) c.push_row.ensures.grows told (first_fits c.args.arms.now c.in-len1-up.len_at_least c.requires.fits) w c.in_ok-variable-in-MayTake.ensures.makes in
    let u = typed_on (orderly c.args.scope.now.program.now) o.standing (let l : length c.type_under-in-MayTake.new.types ≡ 512 = search rules in l) c.type_under-in-MayTake.ensures.stays c.in_ok-taken-in-MayTake.ensures.types in
    let still : c.args.subject < c.type_under-in-MayTake.new.counts.all = (let a = c.requires.subject in let b = (stays_on (let h : Stays c.args.types.now c.args.counts.now c.args.state.now c.push_row.new.types c.push_row.new.counts c.args.state.now = record { grows = c.push_row.ensures.grows; variables = refl } in h) c.type_under-in-MayTake.ensures.stays).grows.more in omega arith) in
    let n = others_length c.args.arms.now c.in-len1-up.len_at_least in
    let arms = other_bodies c.args.at c.args.arms.now c.in-len1-up.len_at_least c.requires.arms in
    let fits = others_fit c.args.arms.now c.in-len1-up.len_at_least c.requires.fits in
    let s = u.standing in
    let r = room_on {t = c.type_under-in-MayTake.new.state} c.type_under-in-MayTake.ensures.stays.variables c.requires.room in
    let low = c.requires.otherwise in
    let names : length c.insert.new.self.items + length (others_of c.args.arms.now) ≤ 128 = (let a = c.requires.names in let b = c.insert.ensures.len in omega arith) in
    let more : length c.push-in-MayTake.new.self.items + length (others_of c.args.arms.now) ≤ 128 = (let a = c.requires.branches in let b = c.push-in-MayTake.ensures.len in omega arith) in
    search rules

pub type_branches-returns-in_ok-taken-in-MayTake-clause-branches : goal.type_branches-returns-in_ok-taken-in-MayTake-clause-branches
type_branches-returns-in_ok-taken-in-MayTake-clause-branches t c =
    let is = split_arms c.args.arms.now c.in-len1-up.len_at_least in
    let told = taking_at (first_of c.args.arms.now).pattern c.as_slice.ensures.value c.in-MayTake.ensures (reads c.args.types.now c.args.counts.now c.args.subject c.requires.subject refl) in
    let w : c.narrowed-narrow.result ≡ narrowed c.in-MayTake.tag (row (table_of c.args.types.now c.args.counts.now) c.args.subject) = c.narrowed-narrow.ensures ∙ ap (λ (z : TypeRow). narrowed c.in-MayTake.tag z) (sym (reads c.args.types.now c.args.counts.now c.args.subject c.requires.subject refl)) in
    may_adds (program_rows c.args.scope.now.program.now) c.args.scope.now.function c.args.state.now.variables.items c.args.at c.args.subject c.args.otherwise c.args.named.now.items (now c.args.types.now c.args.counts.now c.args.state.now) is told (now c.type_branches-in-MayTake.new.types c.type_branches-in-MayTake.new.counts c.type_branches-in-MayTake.new.state) c.type_branches-in-MayTake.result c.args.branches.now.items c.type_branches-in-MayTake.new.branches.items ((makes_as w c.in_ok-variable-in-MayTake.ensures.makes).gives c.args.state.now.error) c.in_ok-taken-in-MayTake.ensures.types c.push-in-MayTake.ensures.items (adds_at (program_rows c.args.scope.now.program.now) c.args.scope.now.function c.args.at c.args.subject c.args.otherwise (others_of c.args.arms.now) (now c.type_under-in-MayTake.new.types c.type_under-in-MayTake.new.counts c.type_under-in-MayTake.new.state) c.type_branches-in-MayTake.result c.push-in-MayTake.new.self.items c.type_branches-in-MayTake.new.branches.items (now c.type_branches-in-MayTake.new.types c.type_branches-in-MayTake.new.counts c.type_branches-in-MayTake.new.state) c.type_under-in-MayTake.ensures.stays.variables c.insert.ensures.items c.type_branches-in-MayTake.ensures.branches)

pub type_branches-returns-in_ok-taken-in-MayTake-clause-stays : goal.type_branches-returns-in_ok-taken-in-MayTake-clause-stays
type_branches-returns-in_ok-taken-in-MayTake-clause-stays t c =
    stays_on (stays_on (let h : Stays c.args.types.now c.args.counts.now c.args.state.now c.push_row.new.types c.push_row.new.counts c.args.state.now = record { grows = c.push_row.ensures.grows; variables = refl } in h) c.type_under-in-MayTake.ensures.stays) c.type_branches-in-MayTake.ensures.stays

pub type_match-type_expression-requires : goal.type_match-type_expression-requires
type_match-type_expression-requires t c =
    let s = c.requires.ready in
    let low = c.requires.subject in
    let r = room_part c.requires.room low in
    search rules

pub type_match-returns-in_err-item-clause-types : goal.type_match-returns-in_err-item-clause-types
type_match-returns-in_err-item-clause-types t c =
    gave_err (search rules) (then_stops _ _ c.in_err-item.ensures.types.gives)

pub type_match-returns-in_err-item-clause-stays : goal.type_match-returns-in_err-item-clause-stays
type_match-returns-in_err-item-clause-stays t c =
    c.type_expression.ensures.stays

pub type_match-slice_copy_out-is_item : goal.type_match-slice_copy_out-is_item
type_match-slice_copy_out-is_item t c =
    let o = typed_on (orderly c.args.scope.now.program.now) c.requires.ready (let l : length c.type_expression.new.types ≡ 512 = search rules in l) c.type_expression.ensures.stays c.in_ok-item.ensures.types in
    let l = o.there in
    let few = c.type_expression.new.counts.few in
    let n : length c.type_expression.new.types ≡ 512 = search rules in
    omega arith

pub type_match-returns-then-not-is_item-clause-types : goal.type_match-returns-then-not-is_item-clause-types
type_match-returns-then-not-is_item-clause-types t c =
    let o = typed_on (orderly c.args.scope.now.program.now) c.requires.ready (let l : length c.type_expression.new.types ≡ 512 = search rules in l) c.type_expression.ensures.stays c.in_ok-item.ensures.types in
    let no = kind_at (is_item) c.type_expression.new.types c.type_expression.new.counts c.in_ok-item.item o.there c.is_item.ensures (let b : c.is_item.result ≡ false = search rules in b) in
    record { gives = then_goes _ _ c.in_ok-item.ensures.types.gives (wrong_kind (spot_at c.args.scope.now.function c.args.at) _ no c.fault.ensures) }

pub type_match-returns-then-not-is_item-clause-stays : goal.type_match-returns-then-not-is_item-clause-stays
type_match-returns-then-not-is_item-clause-stays t c =
    c.type_expression.ensures.stays

pub type_match-type_branches-requires : goal.type_match-type_branches-requires
type_match-type_branches-requires t c =
    let o = typed_on (orderly c.args.scope.now.program.now) c.requires.ready (let l : length c.type_expression.new.types ≡ 512 = search rules in l) c.type_expression.ensures.stays c.in_ok-item.ensures.types in
    let arms : bodies_below c.args.at c.arms-arms.result.now ≡ true = ap (bodies_below c.args.at) c.arms-arms.ensures ∙ c.requires.arms in
    let fits : patterns_fit c.arms-arms.result.now ≡ true = ap patterns_fit c.arms-arms.ensures ∙ named_fit c.args.from c.args.count (orderly c.args.scope.now.program.now) in
    let n : length c.arms-arms.result.now ≤ 128 = (let z = ap (λ (xs : List Arm). length xs) c.arms-arms.ensures in let y = few_named (program_rows c.args.scope.now.program.now).arms c.args.from c.args.count in let w = c.args.scope.now.program.now.arms_few in omega arith) in
    let names : length c.new-named.result.items + length c.arms-arms.result.now ≤ 128 = (let e = ap (λ (xs : List ℕ). length xs) c.new-named.ensures in omega arith) in
    let more : length c.new-branches.result.items + length c.arms-arms.result.now ≤ 128 = (let e = ap (λ (xs : List ℕ). length xs) c.new-branches.ensures in omega arith) in
    let s = o.standing in
    let l = o.there in
    let low = c.requires.otherwise in
    let r = room_on {t = c.type_expression.new.state} c.type_expression.ensures.stays.variables c.requires.room in
    search rules

pub type_match-returns-in_err-type_branches-clause-types : goal.type_match-returns-in_err-type_branches-clause-types
type_match-returns-in_err-type_branches-clause-types t c =
    let o = typed_on (orderly c.args.scope.now.program.now) c.requires.ready (let l : length c.type_expression.new.types ≡ 512 = search rules in l) c.type_expression.ensures.stays c.in_ok-item.ensures.types in
    let no = kind_at (is_item) c.type_expression.new.types c.type_expression.new.counts c.in_ok-item.item o.there c.is_item.ensures (let b : c.is_item.result ≡ true = search rules in b) in
    gave_err (search rules) (then_goes _ _ c.in_ok-item.ensures.types.gives (needing_holds (spot_at c.args.scope.now.function c.args.at) _ no (then_stops _ _ (adds_arms (program_rows c.args.scope.now.program.now) c.args.scope.now.function c.args.at c.in_ok-item.item c.args.otherwise (now c.type_expression.new.types c.type_expression.new.counts c.type_expression.new.state) (Err c.in_err-type_branches.field-0.0) c.new-branches.result.items c.type_branches.new.branches.items (now c.type_branches.new.types c.type_branches.new.counts c.type_branches.new.state) c.type_expression.ensures.stays.variables c.new-named.ensures c.arms-arms.ensures c.in_err-type_branches.ensures.branches))))

pub type_match-returns-in_err-type_branches-clause-stays : goal.type_match-returns-in_err-type_branches-clause-stays
type_match-returns-in_err-type_branches-clause-stays t c =
    stays_on c.type_expression.ensures.stays c.type_branches.ensures.stays

pub type_match-returns-clause-types : goal.type_match-returns-clause-types
type_match-returns-clause-types t c =
    let o = typed_on (orderly c.args.scope.now.program.now) c.requires.ready (let l : length c.type_expression.new.types ≡ 512 = search rules in l) c.type_expression.ensures.stays c.in_ok-item.ensures.types in
    let no = kind_at (is_item) c.type_expression.new.types c.type_expression.new.counts c.in_ok-item.item o.there c.is_item.ensures (let b : c.is_item.result ≡ true = search rules in b) in
    let bs = (adds_arms (program_rows c.args.scope.now.program.now) c.args.scope.now.function c.args.at c.in_ok-item.item c.args.otherwise (now c.type_expression.new.types c.type_expression.new.counts c.type_expression.new.state) (Ok tt) c.new-branches.result.items c.type_branches.new.branches.items (now c.type_branches.new.types c.type_branches.new.counts c.type_branches.new.state) c.type_expression.ensures.stays.variables c.new-named.ensures c.arms-arms.ensures c.in_ok-type_branches.ensures.branches) in
    let all = c.as_slice.ensures.value ∙ bs.2 ∙ ap (λ (xs : List ℕ). xs ++ bs.0) c.new-branches.ensures in
    record { gives = then_goes _ _ c.in_ok-item.ensures.types.gives (needing_holds (spot_at c.args.scope.now.function c.args.at) _ no (then_goes _ _ bs.1 ((joins_as all c.join.ensures.joined).gives c.type_branches.new.state.error))) }

pub type_match-returns-clause-stays : goal.type_match-returns-clause-stays
type_match-returns-clause-stays t c =
    stays_then (stays_on c.type_expression.ensures.stays c.type_branches.ensures.stays) c.join.ensures.grows
