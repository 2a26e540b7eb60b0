-- What a bit that is turned over does to the size.
use Rattle.std.proofs.Common.{◌≡◌, ℕ, ◌<◌, true, false, not, List, length, sym, ap, ◌∙◌, arith}
use Rattle.std.proofs.lemmas.Bool.{and_from, lt-ltb, both_ways, true≢false}
use Rattle.bits.specs.Bits.{bit, room, Flipped, Inserted, Removed}
use Rattle.bits.proofs.Laws.{size-more, bit-within}

pub inserted : (old new : List ℕ) (i : ℕ) → length old ≡ length new → i < room old → bit old i ≡ false → Flipped old new i → Inserted old new i true
inserted old new i e l clear f =
    let set : bit new i ≡ true = f.here ∙ ap not clear in
    record {
      others = f.others;
      here = λ _. set;
      past = λ h. absurd (omega arith);
      answer = sym (and_from _ _ (lt-ltb i (room old) l) (ap not clear));
      more = λ _. size-more old new i e l clear set f.others;
      same_size = λ h. absurd (true≢false h);
      same = λ h. absurd (true≢false h);
    }

pub removed : (old new : List ℕ) (i : ℕ) → length old ≡ length new → bit old i ≡ true → Flipped old new i → Removed old new i
removed old new i e set f =
    let clear : bit new i ≡ false = f.here ∙ ap not set in
    let within = bit-within old i set in
    record {
      others = f.others;
      here = clear;
      less = λ _. size-more new old i (sym e) (omega arith) clear set (λ j o. sym (f.others j o));
      same = λ h. absurd (both_ways _ h set);
    }
