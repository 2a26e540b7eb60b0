-- A type row more, and what is kept as the table grows.
use Rattle.std.proofs.Common.{◌≡◌, ℕ, ◌+◌, ◌<◌, ◌≤◌, Bool, List, length, set, take, sym, refl, ap, ◌∙◌, subst, arith}
use Rattle.std.proofs.lemmas.List.{length-take-le, take-take, take_more_set, get_or-take}
use Rattle.forest.specs.declared.fault.Reason.TheVariants.{TypesFull}
use Rattle.rows.specs.declared.type_row.TypeRow.{TypeRow}
use Rattle.types.specs.Parts.{row}
use Rattle.typing.specs.Faults.{type_fault}
use Rattle.typing.specs.Outcomes.{Ending, goes, stops, Gives}
use Rattle.typing.specs.Typing.{Spot, made}
use Rattle.typing.proofs.Steps.{made_gives, made_full, with_row}
use Rattle.session.specs.declared.counts.Counts.{Counts}
use Rattle.session.specs.Progress.{table_of, progress_of, Grows}

pub table-long : (rows : List TypeRow) (c : Counts) → length rows ≡ 512 → length (table_of rows c) ≡ c.all
table-long rows c long = let few = c.few in length-take-le c.all rows (omega arith)

pub full : (rows : List TypeRow) (c : Counts) (s : Spot) (t : TypeRow) (error : Bool) → length rows ≡ 512 → 512 ≤ c.all → Gives (made s t (progress_of rows c error)) (stops (type_fault TypesFull s.at s.function))
full rows c s t error long le = let e = table-long rows c long in made_full s t (progress_of rows c error) (omega arith)

pub pushed : (rows : List TypeRow) (c : Counts) (s : Spot) (t : TypeRow) (error : Bool) → length rows ≡ 512 → c.all < 512
    → Gives (made s t (progress_of rows c error)) (goes c.all (record { types = take (c.all + 1) (set rows c.all t); error = error }))
pushed rows c s t error long lt =
    let e = table-long rows c long in
    let there : c.all < length rows = omega arith in
    let same = sym (take_more_set rows c.all t there) in
    let p = progress_of rows c error in
    let end : goes (length p.types) (with_row p t) ≡ goes c.all (record { types = take (c.all + 1) (set rows c.all t); error = error }) = ap (λ n. goes n (with_row p t)) e ∙ ap (λ ts. goes c.all (record { types = ts; error = error })) same in
    subst (λ (r : Ending ℕ). Gives (made s t p) r) end (made_gives s t p (omega arith))

-- GROWTH

pub stays : (rows : List TypeRow) (c : Counts) → Grows rows c rows c
stays rows c = record { declared = refl; more = omega arith; same = refl }

pub grows_on : {rows after last : List TypeRow} {c d e : Counts} → Grows rows c after d → Grows after d last e → Grows rows c last e
grows_on {rows} {after} {last} {c} {d} {e} h k =
    let m = h.more in
    let n = k.more in
    let le : c.all ≤ d.all = omega arith in
    record {
      declared = k.declared ∙ h.declared;
      more = omega arith;
      same = sym (take-take c.all d.all last le) ∙ ap (take c.all) k.same ∙ take-take c.all d.all after le ∙ h.same;
    }

-- rows that were there are there still
pub row-same : {rows after : List TypeRow} {c d : Counts} → Grows rows c after d → (r : ℕ) → r < c.all → row (table_of after d) r ≡ row (table_of rows c) r
row-same {rows} {after} {c} {d} h r lt =
    let m = h.more in
    get_or-take d.all after r _ (omega arith) ∙ sym (get_or-take c.all after r _ lt) ∙ ap (λ ts. row ts r) h.same
