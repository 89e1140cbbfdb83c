use Rattle.std.proofs.Common.{take}
use Rattle.std.specs.List.{flat_map}
use Rattle.scenario_reader.specs.PlanText.{caller_text}
use Rattle.text_writer.specs.Telling.{Told}
use Rattle.scenario_reader.proofs.writer.write_callers.Given as goal

-- the first of them are told
abbrev pub invariant-loop-caller : goal.invariant-loop-caller
invariant-loop-caller g l =
    Told (g.K.Sink.written l.initial.sink) (g.K.Sink.written l.sink) l.initial.out l.out (g.K.Sink.faults l.initial.sink) (g.K.Sink.faults l.sink) (flat_map (caller_text l.plan.links l.plan.groups l.plan.requests) (take l.caller-index l.callers))
