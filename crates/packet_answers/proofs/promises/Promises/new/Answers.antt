use Rattle.std.proofs.Common.{◌<◌, ◌++◌, length, take, refl, sym, ap, ◌∙◌}
use Rattle.std.specs.List.{flat_map}
use Rattle.call_script.proofs.Walks.{read-at}
use Rattle.run_engine.proofs.Keeping.Lookups.{found-at}
use Rattle.packet_answers.proofs.PromiseSteps.{front-more}
use Rattle.packet_answers.specs.Plays.{run_in}
use Rattle.packet_answers.specs.PromisesOfRuns.{listed, promise_in, promised_to}
use Rattle.packet_answers.proofs.promises.Promises.new.Goals as goal

pub loop-number-preserved : goal.loop-number-preserved
loop-number-preserved c =
    let requests = c.args.plan.now.requests in
    let number = c.loop-number.number in
    let run = run_in c.args.played.now in
    let inside : number < length requests = rw (← c.requests-number-end.ensures.value) c.loop-number-test.true in
    let here : number < length c.requests.result.now = rw c.requests.ensures.value inside in
    let read = c.index-requests-number.result in
    let found = found-at c.requests.result.now requests number number read c.requests.ensures.value refl here c.index-requests-number.is in
    let outcome = c.verdict-verdict.ensures run read c.requires.run c.requires.callers found in
    let promise = c.promise_of.ensures ∙ ap (promised_to read.request) outcome in
    c.in_ok-add.ensures ∙ (ap (λ front. front ++ listed c.promise_of.result) c.loop-number.invariant
    ∙ (ap (λ p. flat_map (promise_in run) (take number requests) ++ listed p) promise ∙ sym (front-more (promise_in run) requests number read inside (read-at requests number read found))))
