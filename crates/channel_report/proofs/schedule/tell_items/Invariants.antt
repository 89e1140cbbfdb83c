use Rattle.std.proofs.Common.{take}
use Rattle.std.specs.List.{flat_map}
use Rattle.text_writer.specs.Telling.{Told}
use Rattle.channel_report.specs.Schedule.{item_line}
use Rattle.channel_report.proofs.schedule.tell_items.Given as goal

-- the lines so far are told
abbrev pub invariant-loop-item : goal.invariant-loop-item
invariant-loop-item g l =
    Told (g.K.Sink.written l.fn.sink) (g.K.Sink.written l.sink) l.fn.gather l.gather (g.K.Sink.faults l.fn.sink) (g.K.Sink.faults l.sink) (flat_map (item_line l.plan.callers) (take l.item-index l.items))
