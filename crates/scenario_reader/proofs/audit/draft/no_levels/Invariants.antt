use Rattle.std.proofs.Common.{◌≡◌, None, replicate}
use Rattle.scenario_reader.proofs.audit.draft.no_levels.Given as goal

-- as many as turns so far
abbrev pub invariant-loop : goal.invariant-loop
invariant-loop l = l.levels.items ≡ replicate l.counter None
