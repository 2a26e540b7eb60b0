-- What is asked about, said in another way.
use Rattle.std.proofs.Common.{List}
use Rattle.forest.specs.declared.fault.Fault.{Fault}
use Rattle.rows.specs.declared.type_row.TypeRow.{TypeRow}
use Rattle.types.specs.Asking.{Askable, Unaskable, no_content, not_there, not_one_way}

module _ {ts : List TypeRow} {P Q : Type 0} where
  pub asked_for : (P → Q) → Askable ts P → Askable ts Q
  asked_for on a = record { contents = a.contents; there = on a.there; one_way = a.one_way }

  pub refused_for : {f : Fault} → (P → Q) → (Q → P) → Unaskable ts P f → Unaskable ts Q f
  refused_for on back (no_content x) = no_content x
  refused_for on back (not_there x not) = not_there x (λ q. not (back q))
  refused_for on back (not_one_way x p y) = not_one_way x (on p) y
