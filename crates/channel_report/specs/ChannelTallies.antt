-- What is kept of the sources of a run's channels: the ticks for which each has planned packets at its channel's first link, without
-- those that were cancelled, and how many sends were refused there. A tick that no clock of a run reaches isn't kept.
use Rattle.std.specs.Prelude.{◌≡◌, ℕ, ◌^◌, Some, List, length, filter}
use Rattle.std.specs.List.{slice_get}
use Rattle.call_script.specs.declared.entries.RequestEntry.{RequestEntry}
use Rattle.run_record.specs.Runs.{part_of}
use Rattle.run_record.specs.declared.done.Done.{Done}
use Rattle.channel_report.specs.Sources.{first_link, is_made, planned_in, refused_in}
use Rattle.channel_report.specs.declared.channel_tally.ChannelTally.{ChannelTally}

-- no clock of a run reaches it
abbrev pub never : ℕ
never = 2 ^ 62

-- what is kept of such ticks, and of the number of refused sends
pub record KeepsTally (planned : List ℕ) (refused : ℕ) (tally : ChannelTally) : Type 0 where
  pub ticks : tally.ticks.items ≡ filter (is_made never) planned
  pub refuses : tally.refused ≡ refused

-- what is kept of the source of each request's channel, in a run that is listed newest first
pub record AreChannelTallies (requests : List RequestEntry) (run : List Done) (tallies : List ChannelTally) : Type 0 where
  pub all : length tallies ≡ length requests
  pub tells : (n : ℕ) (entry : RequestEntry) (tally : ChannelTally) → slice_get requests n ≡ Some entry → slice_get tallies n ≡ Some tally
      → KeepsTally (planned_in n (part_of (first_link entry.request.route) run)) (refused_in n (part_of (first_link entry.request.route) run)) tally
