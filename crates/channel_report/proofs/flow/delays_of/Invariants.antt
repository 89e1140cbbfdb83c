use Rattle.std.proofs.Common.{◌≡◌, map, take}
use Rattle.channel_report.specs.declared.flow.Flow.{Flow}
use Rattle.channel_report.proofs.flow.delays_of.Given as goal

-- those of the flows so far
abbrev pub invariant-loop-flow : goal.invariant-loop-flow
invariant-loop-flow l = l.tallies.items ≡ map (λ (flow : Flow). flow.delays) (take l.flow-index l.flows)
