-- How the typing of declared rows begins that are copied, and how it ends.
use Rattle.std.proofs.Common.{◌≡◌, ℕ, ◌<◌, false, [], length, take, Ok, Err, refl, sym, ap, ◌∙◌, subst, inl, inr, arith}
use Rattle.std.proofs.lemmas.List.{length-take-le}
use Rattle.rows.specs.declared.function.Query.{Query}
use Rattle.rows.specs.Programs.{ProgramRows}
use Rattle.rows.specs.TypeTables.{types_lawful}
use Rattle.types.specs.declared.type_rows.TypeRows.{TypeRows}
use Rattle.types.specs.Tables.{rows_of}
use Rattle.typing.specs.declared.fault.TypeFault.{TypeFault}
use Rattle.typing.specs.Outcomes.{Progress, goes, stops, Gives}
use Rattle.typing.specs.Checking.{Ready, Unready, all_typed, declared}
use Rattle.session.specs.declared.counts.Counts.{Counts}
use Rattle.session.specs.declared.type_table.TypeTable.{TypeTable}
use Rattle.session.specs.declared.checking.scope.State.{State}
use Rattle.session.specs.Calls.{Tables}
use Rattle.session.specs.Progress.{DeclaredRoot}
use Rattle.session.specs.Typings.{Standing, Gave}
use Rattle.session.specs.Refusals.{Accepts, Refuses}
use Rattle.session.proofs.CheckCall.{first_standing}

module _ (r : TypeRows) (n : Counts) (low : n.declared ≡ r.count) (flat : n.all ≡ r.count) where
  abbrev copied : TypeTable
  copied = record { rows = r.rows; counts = n; long = r.long; lawful = ap (λ (k : ℕ). types_lawful [] (take k r.rows)) low ∙ r.lawful }

  same : rows_of r ≡ take n.declared r.rows
  same = ap (λ (k : ℕ). take k r.rows) (sym low)

  pub copied_standing : {g : ProgramRows} {q : Query} → Ready (rows_of r) g q → (s : State) → s.variables.items ≡ [] → Standing g r.rows n s
  copied_standing ready s none = first_standing copied (flat ∙ sym low) r same ready s none

pub copied_input : (r : TypeRows) {g : ProgramRows} {q : Query} → Ready (rows_of r) g q → DeclaredRoot r.count (take r.count r.rows) q.input
copied_input r {g} {q} ready =
    let l = r.long in
    let f = r.few in
    let long : length (take r.count r.rows) ≡ r.count = length-take-le r.count r.rows (omega arith) in
    record { root = ready.input; low = subst (λ n. q.input < n) long ready.input.there }

-- the ends of the check of a session, where r are its declared rows
module _ (t : Tables) (r : TypeRows) (is : rows_of r ≡ t.types) where
  pub not_ready : {f : TypeFault} → Unready (rows_of r) t.program f → Refuses t f
  not_ready {f} unready = (inl (subst (λ ts. Unready ts t.program f) is unready), refl)

  module _ {q : Query} (ready : Ready (rows_of r) t.program q) (o : Progress) where
    abbrev begin : Progress
    begin = record { types = rows_of r; error = false }

    here : Ready t.types t.program q
    here = subst (λ ts. Ready ts t.program q) is ready

    pub stopped_so : {f : TypeFault} → Gave (all_typed t.program q begin) (Err f) o → Refuses t f
    stopped_so {f} gave = (inr (q, here, subst (λ ts. Gives (all_typed t.program q (declared ts)) (stops f)) is gave.gives), refl)

    pub went_on : {x : ℕ} → Gave (all_typed t.program q begin) (Ok x) o → Accepts t
    went_on {x} gave = (q, x, o, here, subst (λ ts. Gives (all_typed t.program q (declared ts)) (goes x o)) is gave.gives)
