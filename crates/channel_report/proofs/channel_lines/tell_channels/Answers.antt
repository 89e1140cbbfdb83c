use Rattle.std.proofs.Common.{◌<◌, length, reverse, refl}
use Rattle.run_engine.proofs.Keeping.Lookups.{held}
use Rattle.channel_report.specs.Delays.{departures_of}
use Rattle.channel_report.specs.Channels.{channel_line}
use Rattle.text_writer.proofs.TextsTold.{item-failed, item-told}
use Rattle.channel_report.proofs.channel_lines.tell_channels.Goals as goal
use Rattle.call_script.proofs.Walks.{read-at}

pub returns-in_err-tell_request : goal.returns-in_err-tell_request
returns-in_err-tell_request g c = λ entries found.
    let requests = c.args.plan.now.requests in
    let number = c.loop-number.number in
    let inside : number < length requests = rw (← c.requests-number-end.ensures.value) c.loop-number-test.true in
    let entry = held requests number inside in
    let line = channel_line (departures_of entries) (reverse entries) in
    item-failed line requests number entry.item (line entry.item) _ (g.K.Sink.written c.loop-number.sink) _ c.args.gather.now c.loop-number.gather c.tell_request.new.gather _ (g.K.Sink.faults c.loop-number.sink) _
    c.from_residual.result c.in_err-tell_request.field-0.0 c.from_residual.ensures.1 inside (read-at requests number entry.item entry.found) refl (c.loop-number.invariant entries found) (c.in_err-tell_request.ensures entries entry.item found entry.found)

pub loop-number-preserved : goal.loop-number-preserved
loop-number-preserved g c = λ entries found.
    let requests = c.args.plan.now.requests in
    let number = c.loop-number.number in
    let inside : number < length requests = rw (← c.requests-number-end.ensures.value) c.loop-number-test.true in
    let entry = held requests number inside in
    let line = channel_line (departures_of entries) (reverse entries) in
    item-told line requests number entry.item (line entry.item) _ (g.K.Sink.written c.loop-number.sink) _ c.args.gather.now c.loop-number.gather c.tell_request.new.gather _ _ _ inside (read-at requests number entry.item entry.found) refl (c.loop-number.invariant entries found) (c.in_ok-tell_request.ensures entries entry.item found entry.found)
