use Rattle.std.proofs.Common.{rules, ◌≡◌, ◌<◌, ◌≤◌, min, length, take, get_or, ap, ◌∙◌, arith}
use Rattle.std.proofs.lemmas.List.{length-take-le, get_or-take}
use Rattle.session.specs.Calls.{tables, applied}
use Rattle.history.specs.declared.call.Call.TheVariants.{Clear}
use Rattle.history.specs.Calls.{change_of}
use Rattle.history.proofs.Loop.{replayed_more, replayed_all}
use Rattle.history.proofs.calls.replay.Goals as goal

pub loop-index-preserved : goal.loop-index-preserved
loop-index-preserved c =
    let calls = c.args.calls.now in
    let i = c.loop-index.index in
    let n = c.min-count.result in
    let t = tables c.loop-index.session in
    let is : n ≡ min (length calls) (length c.args.answers.now) = c.min-count.ensures in
    let few : n ≤ length calls = omega arith in
    let long : length (take n calls) ≡ n = length-take-le n calls few in
    let below : i < n = omega arith in
    let lt : i < length calls = omega arith in
    let room : i < length c.loop-index.answers = omega (arith, c.loop-index.auto.answers) in
    let told : (c.apply.result, tables c.apply.new.session) ≡ applied t (change_of (get_or (take n calls) i Clear)) = search rules in
    replayed_more calls i c.args.answers.now t (tables c.apply.new.session) c.loop-index.answers c.apply.result c.loop-index.invariant lt room (told ∙ ap (λ k. applied t (change_of k)) (get_or-take n calls i Clear below))

pub returns : goal.returns
returns c =
    let calls = c.args.calls.now in
    let start = c.args.answers.now in
    let n = c.min-count.result in
    let is : n ≡ min (length calls) (length start) = c.min-count.ensures in
    let few : n ≤ length calls = omega arith in
    let long : length (take n calls) ≡ n = length-take-le n calls few in
    let all : c.loop-index.index ≡ min (length calls) (length start) = omega arith in
    let done = replayed_all calls c.loop-index.index start (tables c.loop-index.session) c.loop-index.answers c.loop-index.invariant all in
    record { answers = done.answers-are; session = done.tables-are; law = done.law_holds }
