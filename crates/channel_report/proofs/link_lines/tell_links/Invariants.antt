use Rattle.std.proofs.Common.{List, length, take}
use Rattle.std.specs.List.{flat_map}
use Rattle.text_writer.specs.Telling.{Told}
use Rattle.run_record.specs.declared.done.Done.{Done}
use Rattle.channel_report.specs.Links.{link_line}
use Rattle.channel_report.specs.Tallies.{AreLinkTallies}
use Rattle.channel_report.proofs.link_lines.tell_links.Given as goal

-- the lines so far are told
abbrev pub invariant-loop-number : goal.invariant-loop-number
invariant-loop-number g l =
    (run : List Done) → AreLinkTallies (length l.plan.links) run l.tallies → Told (g.K.Sink.written l.fn.sink) (g.K.Sink.written l.sink) l.fn.gather l.gather (g.K.Sink.faults l.fn.sink) (g.K.Sink.faults l.sink) (flat_map (link_line l.plan.version run) (take l.number l.plan.links))
