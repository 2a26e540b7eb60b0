use Rattle.std.proofs.Common.{◌≡◌, ◌<◌, ◌++◌, vec_items, Some, None, Err, length, get_or, sym, refl, ap, ◌∙◌, subst, append-nil, arith, rules, w64, SFits, to_z, of_z}
use Rattle.std.proofs.lemmas.Int.{to_z-of_z}
use Rattle.forest.specs.Stores.{Child, kind_at, children_at, nothing}
use Rattle.forest.specs.declared.kind.Kind.TheVariants.{Integer, String, Boolean, Element}
use Rattle.printing.specs.Items.{item_printed, printed_at}
use Rattle.printing.specs.Writing.{Adds}
use Rattle.printing.proofs.Adding.{refused_part}
use Rattle.printing.proofs.Lists.{left_more, left_part, left_step}
use Rattle.printing.proofs.Readings.{printed-boolean, printed-child, printed-integer, printed-kind}
use Rattle.printing.proofs.Sizes.{child_smaller, item-size}
use Rattle.printing.proofs.printer.Printer.+write_children_write_element_write_item.Goals as goal

pub write_children-returns-in_err-push_separator-clause-text : goal.write_children-returns-in_err-push_separator-clause-text
write_children-returns-in_err-push_separator-clause-text g t c =
    let cs = children_at (g.S.Store.means c.args.self.now.store.now).trees c.args.handle in
    let i = c.loop-index.index in
    let e = c.in_err-push_separator.field-0.0 in
    let failed : c.from_residual.result ≡ Err e = search rules in
    let lt : i < length cs = search rules in
    let more = left_more item_printed nothing c.loop-index.self.text.bytes.items cs i lt in
    refused_part c.push_separator.result _ e _ _ _ _ _ _ _ c.in_err-push_separator.was failed (sym more ∙ c.loop-index.invariant.2) c.loop-index.invariant.1 c.push_separator.ensures

pub write_children-write_item-requires : goal.write_children-write_item-requires
write_children-write_item-requires g t c κs within =
    let ts = (g.S.Store.means c.args.self.now.store.now).trees in
    let same : (g.S.Store.means c.loop-index.self.store.now).trees ≡ ts = ap (λ s. (g.S.Store.means s.now).trees) c.loop-index.invariant.0 in
    let lt : c.loop-index.index < length (children_at ts c.args.handle) = search rules in
    let child : Child ts c.args.handle c.loop-index.index c.child.result = subst (λ us. Child us c.args.handle c.loop-index.index c.child.result) same c.child.ensures in
    let less = child_smaller ts c.args.handle c.loop-index.index c.child.result child lt in
    let moved = ap (λ us. item-size (get_or us c.child.result nothing)) same in
    (omega (arith, c.decreases), within)

pub write_children-returns-in_err-write_item-clause-text : goal.write_children-returns-in_err-write_item-clause-text
write_children-returns-in_err-write_item-clause-text g t c =
    let ts = (g.S.Store.means c.args.self.now.store.now).trees in
    let h = c.args.handle in
    let cs = children_at ts h in
    let i = c.loop-index.index in
    let r = c.child.result in
    let same : (g.S.Store.means c.loop-index.self.store.now).trees ≡ ts = ap (λ s. (g.S.Store.means s.now).trees) c.loop-index.invariant.0 in
    let lt : i < length cs = search rules in
    let child : Child ts c.args.handle i r = subst (λ us. Child us c.args.handle i r) same c.child.ensures in
    let e = c.in_err-write_item.field-0.0 in
    let failed : c.from_residual-in_err-write_item.result ≡ Err e = search rules in
    let text : Adds c.write_item.result c.push_separator.new.self c.write_item.new.self.text (printed_at ts r) = search rules in
    let parted = c.in_ok-push_separator.ensures in
    let part = left_part item_printed nothing c.loop-index.self.text.bytes.items c.push_separator.new.self.bytes.items cs i (printed_at ts r) lt (printed-child ts h i r child lt) parted.0 c.loop-index.invariant.2 in
    refused_part c.write_item.result _ e c.push_separator.new.self _ _ _ _ _ _ c.in_err-write_item.was failed part (parted.1 ∙ c.loop-index.invariant.1) text

pub write_children-loop-index-preserved : goal.write_children-loop-index-preserved
write_children-loop-index-preserved g t c =
    let ts = (g.S.Store.means c.args.self.now.store.now).trees in
    let h = c.args.handle in
    let cs = children_at ts h in
    let i = c.loop-index.index in
    let r = c.child.result in
    let same : (g.S.Store.means c.loop-index.self.store.now).trees ≡ ts = ap (λ s. (g.S.Store.means s.now).trees) c.loop-index.invariant.0 in
    let lt : i < length cs = search rules in
    let child : Child ts h i r = subst (λ us. Child us h i r) same c.child.ensures in
    let parted = c.in_ok-push_separator.ensures in
    let added : vec_items c.write_item.new.self.text.bytes ≡ vec_items c.push_separator.new.self.bytes ++ printed_at ts r = c.in_ok-write_item.ensures.text.0 ∙ ap (λ us. vec_items c.push_separator.new.self.bytes ++ printed_at us r) same in
    let limit : c.write_item.new.self.text.limit ≡ c.push_separator.new.self.limit = c.in_ok-write_item.ensures.text.1 in
    let step = left_step item_printed nothing c.loop-index.self.text.bytes.items c.push_separator.new.self.bytes.items cs i (printed_at ts r) lt (printed-child ts h i r child lt) parted.0 c.loop-index.invariant.2 c.write_item.new.self.text.bytes.items added in
    (search rules, limit ∙ parted.1 ∙ c.loop-index.invariant.1, step)

pub write_item-returns-in-None-clause-text : goal.write_item-returns-in-None-clause-text
write_item-returns-in-None-clause-text g t c =
    let ts = (g.S.Store.means c.args.self.now.store.now).trees in
    let items = c.args.self.now.text.bytes.items in
    (sym (ap (λ xs. items ++ xs) (sym (printed-kind ts c.args.handle None c.in-None.ensures)) ∙ append-nil items), refl)

pub write_item-returns-in-Some-Integer-clause-text : goal.write_item-returns-in-Some-Integer-clause-text
write_item-returns-in-Some-Integer-clause-text g t c =
    let ts = (g.S.Store.means c.args.self.now.store.now).trees in
    let kind : Some Integer ≡ kind_at ts c.args.handle = rw c.in-Some-Integer.field-0-is at c.in-Some-Integer.ensures in
    let z = c.value.result in
    let fits : SFits w64 z = search rules in
    let value = printed-integer ts c.args.handle (to_z w64 (of_z w64 z)) z (to_z-of_z w64 z fits) c.value.ensures kind in
    subst (λ bs. Adds c.push_number.result c.args.self.now.text c.push_number.new.self bs) value c.push_number.ensures

pub write_item-returns-in-Some-String-clause-text : goal.write_item-returns-in-Some-String-clause-text
write_item-returns-in-Some-String-clause-text g t c =
    let ts = (g.S.Store.means c.args.self.now.store.now).trees in
    let kind : Some String ≡ kind_at ts c.args.handle = rw c.in-Some-String.field-0-is at c.in-Some-String.ensures in
    subst (λ bs. Adds c.write_string.result c.args.self.now.text c.write_string.new.self.text bs) (printed-kind ts c.args.handle (Some String) kind) c.write_string.ensures.text

pub write_item-returns-in-Some-Boolean-clause-text : goal.write_item-returns-in-Some-Boolean-clause-text
write_item-returns-in-Some-Boolean-clause-text g t c =
    let ts = (g.S.Store.means c.args.self.now.store.now).trees in
    let kind : Some Boolean ≡ kind_at ts c.args.handle = rw c.in-Some-Boolean.field-0-is at c.in-Some-Boolean.ensures in
    let value = printed-boolean ts c.args.handle c.value-in-Some-Boolean.result c.value-in-Some-Boolean.ensures kind in
    subst (λ bs. Adds c.push_boolean.result c.args.self.now.text c.push_boolean.new.self bs) value c.push_boolean.ensures

pub write_item-returns-in-Some-Element-clause-text : goal.write_item-returns-in-Some-Element-clause-text
write_item-returns-in-Some-Element-clause-text g t c =
    let ts = (g.S.Store.means c.args.self.now.store.now).trees in
    let kind : Some Element ≡ kind_at ts c.args.handle = rw c.in-Some-Element.field-0-is at c.in-Some-Element.ensures in
    subst (λ bs. Adds c.write_element.result c.args.self.now.text c.write_element.new.self.text bs) (printed-kind ts c.args.handle (Some Element) kind) c.write_element.ensures.text
