use Rattle.std.proofs.Common.{◌≡◌, ℕ, Some, length}
use Rattle.std.specs.List.{slice_get}
use Rattle.call_script.specs.declared.entries.RequestEntry.{RequestEntry}
use Rattle.packet_answers.specs.ChannelRows.{TellsChannel}
use Rattle.packet_answers.specs.Plays.{run_in}
use Rattle.packet_answers.specs.declared.rows.ChannelRow.{ChannelRow}
use Rattle.packet_answers.proofs.rows.rows_told.Given as goal

-- the rows of the requests so far
abbrev pub invariant-loop-number : goal.invariant-loop-number
invariant-loop-number l = record {
  count : length l.told.items ≡ l.number;
  each : (n : ℕ) (entry : RequestEntry) (row : ChannelRow) → slice_get l.plan.requests n ≡ Some entry → slice_get l.told.items n ≡ Some row → TellsChannel (run_in l.played) entry row;
}
