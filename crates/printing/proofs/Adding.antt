-- Texts that are added one after another.
use Rattle.std.proofs.Common.{◌≡◌, ◌<◌, List, ℕ, ◌++◌, length, vec_items, Ok, Err, Result, sym, ap, ◌∙◌, subst, arith, length-append}
use Rattle.printing.specs.declared.stop.Stop.{Stop}
use Rattle.printing.specs.declared.stop.Stop.TheVariants.{TooLong, OutOfMemory}
use Rattle.printing.specs.declared.text.Text.{Text}
use Rattle.printing.specs.Writing.{Adds}

-- the last part is added
pub added_last : {X : Type 0} (r : Result X Stop) (b c w : Text) (part whole : List ℕ) → vec_items b.bytes ++ part ≡ vec_items w.bytes ++ whole → b.limit ≡ w.limit → Adds r b c part → Adds r w c whole
added_last (Ok x) b c w part whole same limit a = (a.0 ∙ same, a.1 ∙ limit)
added_last (Err TooLong) b c w part whole same limit a = omega (arith, ap length same)
added_last (Err OutOfMemory) b c w part whole same limit a = tt

-- what has no room for a part has none for the whole
refused_by : {Y : Type 0} (X : Type 0) (r : Result Y Stop) (e : Stop) (b c w v : Text) (part rest whole : List ℕ) → r ≡ Err e → vec_items b.bytes ++ (part ++ rest) ≡ vec_items w.bytes ++ whole → b.limit ≡ w.limit → Adds {X = X} (Err e) b c part → Adds r w v whole
refused_by X r TooLong b c w v part rest whole failed same limit a =
    let all = ap length same in
    let some = length-append (vec_items b.bytes) (part ++ rest) in
    let front = length-append (vec_items b.bytes) part in
    let both = length-append part rest in
    let long : w.limit < length (vec_items w.bytes ++ whole) = omega arith in
    subst (λ x. Adds x w v whole) (sym failed) long
refused_by X r OutOfMemory b c w v part rest whole failed same limit a = subst (λ x. Adds x w v whole) (sym failed) tt

pub refused_part : {X Y : Type 0} (p : Result X Stop) (r : Result Y Stop) (e : Stop) (b c w v : Text) (part rest whole : List ℕ) → p ≡ Err e → r ≡ Err e → vec_items b.bytes ++ (part ++ rest) ≡ vec_items w.bytes ++ whole → b.limit ≡ w.limit → Adds p b c part → Adds r w v whole
refused_part {X} p r e b c w v part rest whole was failed same limit a = refused_by X r e b c w v part rest whole failed same limit (subst (λ x. Adds x b c part) was a)
