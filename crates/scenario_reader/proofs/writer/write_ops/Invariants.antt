use Rattle.std.proofs.Common.{take}
use Rattle.std.specs.List.{flat_map}
use Rattle.scenario_reader.specs.line.Operation.{op_text}
use Rattle.text_writer.specs.Telling.{Told}
use Rattle.scenario_reader.proofs.writer.write_ops.Given as goal

-- the first of them are told
abbrev pub invariant-loop-op : goal.invariant-loop-op
invariant-loop-op g l =
    Told (g.K.Sink.written l.initial.sink) (g.K.Sink.written l.sink) l.initial.out l.out (g.K.Sink.faults l.initial.sink) (g.K.Sink.faults l.sink) (flat_map (op_text l.links l.requests) (take l.op-index l.ops))
