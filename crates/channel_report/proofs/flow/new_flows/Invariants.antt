use Rattle.std.proofs.Common.{◌≡◌, ℕ, Some, [], length}
use Rattle.std.specs.List.{slice_get}
use Rattle.call_script.specs.declared.entries.RequestEntry.{RequestEntry}
use Rattle.channel_report.specs.Flows.{KeepsFlow}
use Rattle.channel_report.specs.declared.flow.Flow.{Flow}
use Rattle.channel_report.proofs.flow.new_flows.Given as goal

-- those of the requests so far
abbrev pub invariant-loop-entry : goal.invariant-loop-entry
invariant-loop-entry l = record {
  count : length l.flows.items ≡ l.entry-index;
  keeps : (n : ℕ) (entry : RequestEntry) (flow : Flow) → slice_get l.entry-items n ≡ Some entry → slice_get l.flows.items n ≡ Some flow → KeepsFlow n entry.request [] flow;
}
