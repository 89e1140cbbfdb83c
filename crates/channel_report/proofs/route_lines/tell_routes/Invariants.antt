use Rattle.std.proofs.Common.{take}
use Rattle.std.specs.List.{flat_map}
use Rattle.text_writer.specs.Telling.{Told}
use Rattle.channel_report.specs.Routes.{found_line}
use Rattle.channel_report.proofs.route_lines.tell_routes.Given as goal

-- the lines so far are told
abbrev pub invariant-loop-entry : goal.invariant-loop-entry
invariant-loop-entry g l =
    Told (g.K.Sink.written l.fn.sink) (g.K.Sink.written l.sink) l.fn.gather l.gather (g.K.Sink.faults l.fn.sink) (g.K.Sink.faults l.sink) (flat_map (found_line l.links) (take l.entry-index l.requests))
