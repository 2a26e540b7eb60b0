use Rattle.std.proofs.Common.{rules, ◌≡◌, Err, ◌∙◌}
use Rattle.session.specs.Bodies.{no_function}
use Rattle.session.proofs.Typings.{stays_on}
use Rattle.session.proofs.FunctionsTyped.{stays_none, read_at, leads_start, leads_on, leads_stop, leads_end}
use Rattle.session.proofs.checking.functions.type_functions.Goals as goal

pub loop-number-init : goal.loop-number-init
loop-number-init c = record {
  ready = c.requires.ready;
  stays = stays_none c.args.types.now c.args.counts.now c.args.state.now;
  leads = leads_start _ _ _;
}

pub type_function-requires-clause-ready : goal.type_function-requires-clause-ready
type_function-requires-clause-ready c = c.loop-number.invariant.ready

pub type_function-requires-clause-outside : goal.type_function-requires-clause-outside
type_function-requires-clause-outside c = c.loop-number.invariant.stays.variables ∙ c.requires.outside

pub type_function-requires-clause-there : goal.type_function-requires-clause-there
type_function-requires-clause-there c = read_at c.args.program.now.functions.rows.items c.as_slice-functions.result.now c.loop-number.number no_function c.as_slice-functions.ensures.value c.loop-number-test.true

pub returns-in_err-type_function-clause-types : goal.returns-in_err-type_function-clause-types
returns-in_err-type_function-clause-types c =
    let failed : c.from_residual.result ≡ Err c.in_err-type_function.field-0.0 = search rules in
    rw failed (leads_stop c.loop-number.invariant.leads (read_at c.args.program.now.functions.rows.items c.as_slice-functions.result.now c.loop-number.number no_function c.as_slice-functions.ensures.value c.loop-number-test.true) c.in_err-type_function.ensures.types)

pub returns-in_err-type_function-clause-stays : goal.returns-in_err-type_function-clause-stays
returns-in_err-type_function-clause-stays c = stays_on c.loop-number.invariant.stays c.type_function.ensures.stays

pub loop-number-preserved : goal.loop-number-preserved
loop-number-preserved c = record {
  ready = c.in_ok-type_function.ensures.ready;
  stays = stays_on c.loop-number.invariant.stays c.type_function.ensures.stays;
  leads = leads_on c.loop-number.invariant.leads (read_at c.args.program.now.functions.rows.items c.as_slice-functions.result.now c.loop-number.number no_function c.as_slice-functions.ensures.value c.loop-number-test.true) c.in_ok-type_function.ensures.types;
}

pub returns-clause-types : goal.returns-clause-types
returns-clause-types c = leads_end c.loop-number.invariant.leads (search rules)

pub returns-clause-ready : goal.returns-clause-ready
returns-clause-ready c = c.loop-number.invariant.ready

pub returns-clause-stays : goal.returns-clause-stays
returns-clause-stays c = c.loop-number.invariant.stays
