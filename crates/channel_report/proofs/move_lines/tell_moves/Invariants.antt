use Rattle.std.proofs.Common.{List, take}
use Rattle.std.specs.List.{flat_map}
use Rattle.text_writer.specs.Telling.{Told}
use Rattle.run_engine.specs.schedules.Standing.{CallersStand}
use Rattle.run_record.specs.declared.done.Done.{Done}
use Rattle.channel_report.specs.Moves.{caller_lines}
use Rattle.channel_report.proofs.move_lines.tell_moves.Given as goal

-- the lines so far are told
abbrev pub invariant-loop-caller : goal.invariant-loop-caller
invariant-loop-caller g l =
    (run : List Done) → CallersStand l.plan l.callers run → Told (g.K.Sink.written l.fn.sink) (g.K.Sink.written l.sink) l.fn.gather l.gather (g.K.Sink.faults l.fn.sink) (g.K.Sink.faults l.sink) (flat_map (caller_lines l.plan run) (take l.caller-index l.plan.callers))
