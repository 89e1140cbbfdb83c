use Rattle.std.proofs.Common.{take}
use Rattle.std.specs.List.{flat_map}
use Rattle.scenario_reader.specs.line.Link.{link_text}
use Rattle.text_writer.specs.Telling.{Told}
use Rattle.scenario_reader.proofs.writer.write_links.Given as goal

-- the first of them are told
abbrev pub invariant-loop-entry : goal.invariant-loop-entry
invariant-loop-entry g l =
    Told (g.K.Sink.written l.initial.sink) (g.K.Sink.written l.sink) l.initial.out l.out (g.K.Sink.faults l.initial.sink) (g.K.Sink.faults l.sink) (flat_map link_text (take l.entry-index l.links))
