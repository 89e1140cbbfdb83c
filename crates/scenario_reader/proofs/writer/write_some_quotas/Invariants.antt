use Rattle.std.proofs.Common.{take}
use Rattle.std.specs.List.{flat_map}
use Rattle.scenario_reader.specs.line.Quota.{quota_text}
use Rattle.text_writer.specs.Telling.{Told}
use Rattle.scenario_reader.proofs.writer.write_some_quotas.Given as goal

-- the first of them are told
abbrev pub invariant-loop-quota : goal.invariant-loop-quota
invariant-loop-quota g l =
    Told (g.K.Sink.written l.initial.sink) (g.K.Sink.written l.sink) l.initial.out l.out (g.K.Sink.faults l.initial.sink) (g.K.Sink.faults l.sink) (flat_map (quota_text l.groups l.entry) (take l.quota-index l.quotas))
