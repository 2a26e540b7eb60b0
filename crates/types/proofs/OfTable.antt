-- What holds of every table of types.
use Rattle.std.proofs.Common.{◌≡◌, ℕ, ◌<◌, ◌≤◌, true, ltb, List, length, Some, None, Option, sym, ap, ◌∙◌, arith, ltb-true}
use Rattle.std.proofs.lemmas.List.{length-take-le, get_or_past}
use Rattle.std.proofs.lemmas.Bool.{and_parts}
use Rattle.forest.specs.Forests.{tag_lawful}
use Rattle.rows.specs.declared.type_row.TypeRow.{TypeRow}
use Rattle.rows.specs.declared.type_row.TypeRow.TheVariants.{EmptyChoice, EmptySequence, Integer, String, Boolean, Element, AnyElement, Sequence, Choice, Repetition}
use Rattle.rows.specs.TypeRows.{type_fits}
use Rattle.types.specs.declared.type_rows.TypeRows.{TypeRows}
use Rattle.types.specs.Parts.{row, content, Root, Lawful}
use Rattle.types.specs.Places.{Checked}
use Rattle.types.specs.Asking.{Askable}
use Rattle.types.specs.Tables.{rows_of}
use Rattle.types.proofs.Rules.{lawful}

pub table-long : (t : TypeRows) → length (rows_of t) ≡ t.count
table-long t = let a = t.long in let b = t.few in let le : t.count ≤ length t.rows = omega arith in length-take-le t.count t.rows le

pub table-lawful : (t : TypeRows) → Lawful (rows_of t)
table-lawful t = let l = table-long t in let b = t.few in let few : length (rows_of t) ≤ 512 = omega arith in lawful (rows_of t) few t.lawful

none-some : {A : Type 0} {c : ℕ} → ◌≡◌ {A = Option ℕ} None (Some c) → A
none-some e = let z : ◌≡◌ {A = ℕ} 0 1 = cc in absurd (omega arith)

content_in_range : (w : TypeRow) (i c : ℕ) → type_fits i w ≡ true → content w ≡ Some c → c < 512
content_in_range EmptyChoice i c h e = none-some e
content_in_range EmptySequence i c h e = none-some e
content_in_range Integer i c h e = none-some e
content_in_range String i c h e = none-some e
content_in_range Boolean i c h e = none-some e
content_in_range (Element t d) i c h e = let s : d ≡ c = cc in let l = ltb-true d 512 (and_parts (tag_lawful t) (ltb d 512) h).1 in omega arith
content_in_range (AnyElement d) i c h e = let s : d ≡ c = cc in let l = ltb-true d 512 h in omega arith
content_in_range (Sequence a b) i c h e = none-some e
content_in_range (Choice a b) i c h e = none-some e
content_in_range (Repetition a) i c h e = none-some e

pub content-small : {ts : List TypeRow} (n c : ℕ) → Lawful ts → content (row ts n) ≡ Some c → c < 512
content-small {ts} n c law e = content_in_range (row ts n) n c (law.fit n) e

-- past the end no row names a content
pub content_there : (ts : List TypeRow) (n c : ℕ) → content (row ts n) ≡ Some c → n < length ts
content_there ts n c e =
    let past : length ts ≤ n → ⊥ = λ l. none-some (sym (ap content (get_or_past ts n EmptyChoice l)) ∙ e) in
    omega arith

-- types that can be asked about are as a check finds them, all rows being declared
pub asked_checked : {There : Type 0} (t : TypeRows) → Askable (rows_of t) There → Checked (rows_of t) (length (rows_of t))
asked_checked t a =
    let ts = rows_of t in
    let contents : (n c : ℕ) → content (row ts n) ≡ Some c → Root ts c = λ n c e. a.contents n (content_there ts n c e) c e in
    record {
      lawful = table-lawful t;
      contents = contents;
      declared_contents = λ n c l e. (contents n c e).there;
      one_way = a.one_way;
    }
