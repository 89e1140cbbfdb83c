use Rattle.std.proofs.Common.{◌≡◌, take}
use Rattle.scenario_reader.specs.line.Quota.{load_values}
use Rattle.scenario_reader.proofs.line.quota.load_values.Given as goal

-- the values are those of the loads so far
abbrev pub invariant-loop-load : goal.invariant-loop-load
invariant-loop-load l = l.values ≡ load_values (take l.load-index l.loads)
