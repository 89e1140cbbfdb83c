use Rattle.std.proofs.Common.{◌≡◌, ◌<◌, length, get_or, ap}
use Rattle.std.specs.Prelude.{option_map}
use Rattle.setup_protocol.specs.State.{outcome_of}
use Rattle.channel_report.specs.Verdicts.{request_line, verdict_line}
use Rattle.channel_report.proofs.LinesByItem.{found-item}
use Rattle.text_writer.proofs.TextsTold.{item-failed, item-told}
use Rattle.channel_report.proofs.request_lines.tell_requests.Goals as goal

pub returns-in_err-tell_verdict : goal.returns-in_err-tell_verdict
returns-in_err-tell_verdict g c = λ run is stand.
    let requests = c.args.plan.now.requests in
    let number = c.loop-number.number in
    let entry = c.entry-item.result in
    let inside : number < length requests = rw (← c.requests-entry-items.ensures.value) c.loop-number-test.true in
    let at : entry ≡ get_or requests number entry = rw (← c.requests-entry-items.ensures.value) c.entry-item.is in
    let line = ap (verdict_line entry.name) (c.verdict-verdict.ensures run entry is stand (found-item requests number entry inside at)) in
    item-failed (request_line run) requests number entry (verdict_line entry.name (option_map outcome_of c.verdict-verdict.result)) _ (g.K.Sink.written c.loop-number.sink) _ c.args.gather.now c.loop-number.gather c.tell_verdict.new.gather _ (g.K.Sink.faults c.loop-number.sink) _
    c.from_residual.result c.in_err-tell_verdict.field-0.0 c.from_residual.ensures.1 inside at line (c.loop-number.invariant run is stand) c.in_err-tell_verdict.ensures

pub loop-number-preserved : goal.loop-number-preserved
loop-number-preserved g c = λ run is stand.
    let requests = c.args.plan.now.requests in
    let number = c.loop-number.number in
    let entry = c.entry-item.result in
    let inside : number < length requests = rw (← c.requests-entry-items.ensures.value) c.loop-number-test.true in
    let at : entry ≡ get_or requests number entry = rw (← c.requests-entry-items.ensures.value) c.entry-item.is in
    let line = ap (verdict_line entry.name) (c.verdict-verdict.ensures run entry is stand (found-item requests number entry inside at)) in
    item-told (request_line run) requests number entry (verdict_line entry.name (option_map outcome_of c.verdict-verdict.result)) _ (g.K.Sink.written c.loop-number.sink) _ c.args.gather.now c.loop-number.gather c.tell_verdict.new.gather _ _ _ inside at line
    (c.loop-number.invariant run is stand) c.in_ok-tell_verdict.ensures
