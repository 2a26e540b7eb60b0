use Rattle.std.proofs.Common.{rules, ◌≡◌, ℕ, ◌<◌, List, [], length, take, ap, ◌∙◌, subst, arith}
use Rattle.std.proofs.lemmas.Bool.{both_ways}
use Rattle.rows.specs.declared.type_row.TypeRow.{TypeRow}
use Rattle.rows.specs.TypeTables.{types_lawful}
use Rattle.types.specs.Parts.{Root}
use Rattle.types.specs.Belonging.{Subtype}
use Rattle.types.specs.Places.{Checked}
use Rattle.types.specs.Tables.{rows_of, Exactly}
use Rattle.types.proofs.Exact.{known, shown}
use Rattle.session.specs.Progress.{table_of}
use Rattle.session.proofs.Making.{table-long}
use Rattle.session.proofs.Fitting.{tests_pass}
use Rattle.session.proofs.checking.fitting.fit.Goals as goal

pub invariant_of-table : goal.invariant_of-table
invariant_of-table c =
    let a = c.args in
    let same : c.copy_from_slice.new.self ≡ a.types.now = search rules in
    record {
      long = ap length same ∙ c.requires.long;
      few = a.counts.now.few;
      lawful = ap (λ (ts : List TypeRow). types_lawful [] (take a.counts.now.all ts)) same ∙ tests_pass (table_of a.types.now a.counts.now) c.requires.checked.lawful;
    }

pub returns-then-is_subtype : goal.returns-then-is_subtype
returns-then-is_subtype c =
    let a = c.args in
    let ts = table_of a.types.now a.counts.now in
    let same : c.copy_from_slice.new.self ≡ a.types.now = search rules in
    let e : rows_of c.of.result.types ≡ ts = ap rows_of c.of.ensures.types ∙ ap (take a.counts.now.all) same in
    let Told : List TypeRow → Type 0 = λ us. a.row < length us → Root us a.root → (declared : ℕ) → Checked us declared → a.root < declared → Exactly c.is_subtype.result (Subtype us a.row a.root) in
    let long = table-long a.types.now a.counts.now c.requires.long in
    let there : a.row < length ts = omega (arith, c.requires.there) in
    let exact = subst Told e (c.is_subtype.ensures c.of.ensures.built) there c.requires.root.root a.counts.now.declared c.requires.checked c.requires.root.low in
    known exact c.if-is_subtype.true

pub returns-else-is_subtype : goal.returns-else-is_subtype
returns-else-is_subtype c =
    let a = c.args in
    let ts = table_of a.types.now a.counts.now in
    let same : c.copy_from_slice.new.self ≡ a.types.now = search rules in
    let e : rows_of c.of.result.types ≡ ts = ap rows_of c.of.ensures.types ∙ ap (take a.counts.now.all) same in
    let Told : List TypeRow → Type 0 = λ us. a.row < length us → Root us a.root → (declared : ℕ) → Checked us declared → a.root < declared → Exactly c.is_subtype.result (Subtype us a.row a.root) in
    let long = table-long a.types.now a.counts.now c.requires.long in
    let there : a.row < length ts = omega (arith, c.requires.there) in
    let exact = subst Told e (c.is_subtype.ensures c.of.ensures.built) there c.requires.root.root a.counts.now.declared c.requires.checked c.requires.root.low in
    (λ h. both_ways c.is_subtype.result c.if-is_subtype.false (shown exact h), c.fault.ensures)
