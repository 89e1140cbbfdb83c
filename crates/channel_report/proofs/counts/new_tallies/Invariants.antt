use Rattle.std.proofs.Common.{◌≡◌, [], ℕ, Some, length}
use Rattle.std.specs.List.{slice_get}
use Rattle.channel_report.specs.ChannelTallies.{KeepsTally}
use Rattle.channel_report.specs.declared.channel_tally.ChannelTally.{ChannelTally}
use Rattle.channel_report.proofs.counts.new_tallies.Given as goal

-- the tallies so far
abbrev pub invariant-loop-channel : goal.invariant-loop-channel
invariant-loop-channel l = record {
  count : length l.tallies.items ≡ l._channel;
  bare : (n : ℕ) (tally : ChannelTally) → slice_get l.tallies.items n ≡ Some tally → KeepsTally [] 0 tally;
}
