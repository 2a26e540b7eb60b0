use Rattle.std.proofs.Common.{◌≡◌, [], ◌∷◌, ◌++◌, Err, vec_items, ap, arith, rules}
use Rattle.std.proofs.lemmas.Option.{MatchOption-at_some, MatchOption-at_none}
use Rattle.std.specs.Iterator.Adapters.{enumerate_source, enumerate_count}
use Rattle.std.specs.Slice.Iter.{chunks_rest}
use Rattle.capture.specs.Events.{meaning_of}
use Rattle.capture.proofs.Legal.{legal}
use Rattle.capture.proofs.Loading.{start, one_too_many, unlawful-here, goes_on, all-lawful, all-events}
use Rattle.capture.proofs.capture.Capture.load.Goals as goal

pub loop-index-init : goal.loop-index-init
loop-index-init c =
    let it = c.into_iter-index-iterator.result in
    let rest : chunks_rest (enumerate_source it) ≡ c.args.bytes.now = search rules in
    let none : enumerate_count it ≡ 0 = search rules in
    let empty : vec_items c.new-events.result ≡ [] = search rules in
    (search rules, search rules, search rules, rw (rest, none, empty) (start c.args.bytes.now))

pub returns-then-index-ge-MAX_EVENTS : goal.returns-then-index-ge-MAX_EVENTS
returns-then-index-ge-MAX_EVENTS c =
    let s = c.in-Some.ensures.steps in
    one_too_many _ _ _ _ _ _ _ _ c.loop-index.invariant.3 c.loop-index.invariant.2 s.0.1 _ _ (omega arith) s.1 c.unlawful.ensures

pub returns-in_err-event : goal.returns-in_err-event
returns-in_err-event c =
    let s = c.in-Some.ensures.steps in
    let bad = MatchOption-at_none _ _ c.in_err-event.ensures.ok_part c.read_event.ensures in
    let failed : c.from_residual.result ≡ Err c.unlawful-in-loop-index.result = search rules in
    rw failed (unlawful-here _ _ _ _ _ _ _ _ c.loop-index.invariant.3 c.loop-index.invariant.2 s.0.1 _ _ bad s.1 c.unlawful-in-loop-index.ensures)

pub loop-index-preserved : goal.loop-index-preserved
loop-index-preserved c =
    let s = c.in-Some.ensures.steps in
    let items : vec_items c.push.new.self ≡ vec_items c.loop-index.events ++ (c.in_ok-event.event ∷ []) = search rules in
    (search rules, search rules, search rules, rw items (goes_on _ _ _ _ _ _ _ _ c.loop-index.invariant.3 c.loop-index.invariant.2 s.0.1 c.in_ok-event.event _ _ (omega (arith, s.1)) s.2 (search rules) (MatchOption-at_some _ _ c.in_ok-event.event c.in_ok-event.ensures.ok_part c.read_event.ensures)))

pub invariant_of-result : goal.invariant_of-result
invariant_of-result c = record { few = search rules; legal = legal _ c.loop-index.invariant.3.ranged }

pub returns : goal.returns
returns c =
    let so = c.loop-index.invariant.3 in
    let none_left = c.in-None.ensures.steps.0.1.0 in
    (all-lawful _ _ _ _ _ so none_left, ap meaning_of (all-events _ _ _ _ _ so none_left))
