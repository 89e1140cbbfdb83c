use Rattle.std.proofs.Common.{List, reverse, take}
use Rattle.std.specs.List.{flat_map}
use Rattle.text_writer.specs.Telling.{Told}
use Rattle.channel_report.specs.Delays.{departures_of}
use Rattle.run_record.specs.declared.done.Done.{Done}
use Rattle.channel_report.specs.Channels.{channel_line}
use Rattle.channel_report.specs.Findings.{AreFound}
use Rattle.channel_report.proofs.channel_lines.tell_channels.Given as goal

-- the lines so far are told
abbrev pub invariant-loop-number : goal.invariant-loop-number
invariant-loop-number g l =
    (entries : List Done) → AreFound l.plan entries l.findings → Told (g.K.Sink.written l.fn.sink) (g.K.Sink.written l.sink) l.fn.gather l.gather (g.K.Sink.faults l.fn.sink) (g.K.Sink.faults l.sink) (flat_map (channel_line (departures_of entries) (reverse entries)) (take l.number l.plan.requests))
