use Rattle.std.proofs.Common.{◌≡◌, ℕ, ◌+◌, ◌≤◌, List, [], ◌∷◌, length, get_or, take, pos, Some, None, Err, Option, vec_items, vec_len, sym, refl, ap, ◌∙◌, subst, arith, rules}
use Rattle.std.specs.Result.{result_ok}
use Rattle.std.proofs.lemmas.List.{take_more, take_all, at_drop_all, length-take-le}
use Rattle.forest.specs.declared.failure.Failure.TheVariants.{Refused}
use Rattle.forest.specs.declared.fault.Reason.TheVariants.{UnlawfulTable}
use Rattle.forest.specs.Faults.{faulted}
use Rattle.arena.specs.declared.arena.Arena.{Arena}
use Rattle.table.specs.declared.row.RawRow.{RawRow}
use Rattle.table.specs.Tables.{first_unlawful}
use Rattle.table.specs.Filling.{Holds, Took}
use Rattle.table.proofs.Fill.{holds_more, went_on, stopped_at}
use Rattle.table.proofs.load.add_rows.Goals as goal

-- what a slice of rows reads past its end
abbrev blank : RawRow
blank = record { kind = 0; tag = 0; from = 0; length = 0; value = pos 0 }

-- so many rows are in the arena
filled : (a b : Arena) (rs : List RawRow) (n : ℕ) → a.base ≡ 0 → vec_items a.rows ≡ [] → n ≤ length rs → Holds a (take n rs) b → b.base + vec_len b.rows ≡ n
filled a b rs n ground empty le h = omega (arith, ground, a.rows.ok.0, ap length empty, h.base, h.long, length-take-le n rs le)

pub returns-in_err-ok_or : goal.returns-in_err-ok_or
returns-in_err-ok_or c =
    let a = c.args.own.now in
    let b = c.loop-index.own in
    let rs = c.args.rows.now in
    let n = c.loop-index.index in
    let h = c.loop-index.invariant.0 in
    let none : c.add_row.result ≡ None = c.ok_or.ensures.ok_part ∙ ap result_ok c.in_err-ok_or.was in
    let bad = subst (λ (o : Option ℕ). Took b (get_or rs n blank) o c.add_row.new.own) none c.add_row.ensures in
    let failed : c.from_residual.result ≡ Err (Refused (faulted UnlawfulTable 4 n)) = search rules in
    rw failed (n, sym c.loop-index.invariant.1 ∙ stopped_at a b rs n blank c.loop-index-test.true (filled a b rs n c.requires.ground c.requires.empty c.loop-index.auto.index-end h) h.children h.text bad, refl)

pub loop-index-preserved : goal.loop-index-preserved
loop-index-preserved c =
    let a = c.args.own.now in
    let b = c.loop-index.own in
    let rs = c.args.rows.now in
    let n = c.loop-index.index in
    let h = c.loop-index.invariant.0 in
    let some : c.add_row.result ≡ Some _ = c.ok_or.ensures.ok_part ∙ ap result_ok c.in_ok-ok_or.was in
    let took = subst (λ (o : Option ℕ). Took b (get_or rs n blank) o c.add_row.new.own) some c.add_row.ensures in (
      subst (λ (xs : List RawRow). Holds a xs c.add_row.new.own) (sym (take_more rs n blank c.loop-index-test.true)) (holds_more a b c.add_row.new.own (take n rs) (get_or rs n blank ∷ []) h took.1),
      went_on a b rs n blank c.loop-index-test.true (filled a b rs n c.requires.ground c.requires.empty c.loop-index.auto.index-end h) h.children h.text took.0 ∙ c.loop-index.invariant.1,
    )

pub returns : goal.returns
returns c =
    let a = c.args.own.now in
    let rs = c.args.rows.now in
    let n = c.loop-index.index in
    let past = c.loop-index-test.false in (
      sym c.loop-index.invariant.1 ∙ at_drop_all (first_unlawful n (vec_items a.children) (vec_items a.text)) rs n past,
      subst (λ (xs : List RawRow). Holds a xs c.loop-index.own) (take_all n rs past) c.loop-index.invariant.0,
    )
