use Rattle.std.proofs.Common.{◌≡◌, ◌<◌, ◌≤◌, length, get_or, ap}
use Rattle.channel_report.specs.Moves.{caller_lines, script_lines}
use Rattle.text_writer.proofs.TextsTold.{item-failed, item-told, all-told}
use Rattle.channel_report.proofs.move_lines.tell_moves.Goals as goal

pub returns-in_err-tell_script : goal.returns-in_err-tell_script
returns-in_err-tell_script g c = λ run stand.
    let callers = c.args.plan.now.callers in
    let caller = c.caller-item.result in
    let inside : c.loop-caller.caller-index < length callers = rw (← c.callers-caller-items.ensures.value) c.loop-caller-test.true in
    let at : caller ≡ get_or callers c.loop-caller.caller-index caller = rw (← c.callers-caller-items.ensures.value) c.caller-item.is in
    item-failed (caller_lines c.args.plan.now run) callers c.loop-caller.caller-index caller (script_lines c.args.plan.now run c.as_slice.result.now) _ (g.K.Sink.written c.loop-caller.sink) _ c.args.gather.now c.loop-caller.gather c.tell_script.new.gather _ (g.K.Sink.faults c.loop-caller.sink) _
    c.from_residual.result c.in_err-tell_script.field-0.0 c.from_residual.ensures.1 inside at (ap (script_lines c.args.plan.now run) c.as_slice.ensures) (c.loop-caller.invariant run stand) (c.in_err-tell_script.ensures run stand)

pub loop-caller-preserved : goal.loop-caller-preserved
loop-caller-preserved g c = λ run stand.
    let callers = c.args.plan.now.callers in
    let caller = c.caller-item.result in
    let inside : c.loop-caller.caller-index < length callers = rw (← c.callers-caller-items.ensures.value) c.loop-caller-test.true in
    let at : caller ≡ get_or callers c.loop-caller.caller-index caller = rw (← c.callers-caller-items.ensures.value) c.caller-item.is in
    item-told (caller_lines c.args.plan.now run) callers c.loop-caller.caller-index caller (script_lines c.args.plan.now run c.as_slice.result.now) _ (g.K.Sink.written c.loop-caller.sink) _ c.args.gather.now c.loop-caller.gather c.tell_script.new.gather _ _ _ inside at
    (ap (script_lines c.args.plan.now run) c.as_slice.ensures) (c.loop-caller.invariant run stand) (c.in_ok-tell_script.ensures run stand)

pub returns : goal.returns
returns g c = λ run stand.
    let callers = c.args.plan.now.callers in
    let past : length callers ≤ c.loop-caller.caller-index = rw (← c.callers-caller-items.ensures.value) c.loop-caller-test.false in
    all-told (caller_lines c.args.plan.now run) callers c.loop-caller.caller-index _ (g.K.Sink.written c.loop-caller.sink) c.args.gather.now c.loop-caller.gather _ _ past (c.loop-caller.invariant run stand)
