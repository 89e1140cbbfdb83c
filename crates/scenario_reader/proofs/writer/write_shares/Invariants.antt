use Rattle.std.proofs.Common.{take}
use Rattle.std.specs.List.{flat_map}
use Rattle.scenario_reader.specs.line.Quota.{quotas_text}
use Rattle.text_writer.specs.Telling.{Told}
use Rattle.scenario_reader.proofs.writer.write_shares.Given as goal

-- those of the first links are told
abbrev pub invariant-loop-entry : goal.invariant-loop-entry
invariant-loop-entry g l =
    Told (g.K.Sink.written l.initial.sink) (g.K.Sink.written l.sink) l.initial.out l.out (g.K.Sink.faults l.initial.sink) (g.K.Sink.faults l.sink) (flat_map (quotas_text l.groups) (take l.entry-index l.links))
