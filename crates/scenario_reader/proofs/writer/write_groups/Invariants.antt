use Rattle.std.proofs.Common.{take}
use Rattle.std.specs.List.{flat_map}
use Rattle.scenario_reader.specs.line.Group.{group_text}
use Rattle.text_writer.specs.Telling.{Told}
use Rattle.scenario_reader.proofs.writer.write_groups.Given as goal

-- the first of them are told
abbrev pub invariant-loop-name : goal.invariant-loop-name
invariant-loop-name g l =
    Told (g.K.Sink.written l.initial.sink) (g.K.Sink.written l.sink) l.initial.out l.out (g.K.Sink.faults l.initial.sink) (g.K.Sink.faults l.sink) (flat_map group_text (take l.name-index l.groups))
