use Rattle.session.specs.Tables.{program_rows}
use Rattle.session.specs.Typings.{Standing, Stays, now}
use Rattle.session.proofs.FunctionsTyped.{Leads}
use Rattle.session.proofs.checking.functions.type_functions.Given as goal

abbrev pub invariant-loop-number : goal.invariant-loop-number
invariant-loop-number l = record {
  ready : Standing (program_rows l.program) l.types l.counts l.state;
  stays : Stays l.initial.types l.initial.counts l.initial.state l.types l.counts l.state;
  leads : Leads (program_rows l.program) l.number (program_rows l.program).functions (now l.initial.types l.initial.counts l.initial.state) (now l.types l.counts l.state);
}
