use Rattle.std.proofs.Common.{List, take}
use Rattle.std.specs.List.{flat_map}
use Rattle.text_writer.specs.Telling.{Told}
use Rattle.call_script.specs.Tasks.{network_of}
use Rattle.run_engine.specs.runs.Runs.{IsRun}
use Rattle.run_engine.specs.schedules.Standing.{CallersStand}
use Rattle.run_record.specs.declared.done.Done.{Done}
use Rattle.channel_report.specs.Verdicts.{request_line}
use Rattle.channel_report.proofs.request_lines.tell_requests.Given as goal

-- the lines so far are told
abbrev pub invariant-loop-number : goal.invariant-loop-number
invariant-loop-number g l =
    (run : List Done) → IsRun (network_of l.plan) run → CallersStand l.plan l.callers run → Told (g.K.Sink.written l.fn.sink) (g.K.Sink.written l.sink) l.fn.gather l.gather (g.K.Sink.faults l.fn.sink) (g.K.Sink.faults l.sink) (flat_map (request_line run) (take l.number l.plan.requests))
