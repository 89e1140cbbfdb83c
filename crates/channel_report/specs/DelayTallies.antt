-- What is kept of the delays of a run's channels: for each how many packets were delivered, and the least and the greatest delay.
use Rattle.std.specs.Prelude.{◌≡◌, ℕ, ◌+◌, Some, List, length}
use Rattle.std.specs.List.{slice_get}
use Rattle.call_script.specs.declared.entries.RequestEntry.{RequestEntry}
use Rattle.run_record.specs.declared.rows.HopRow.{HopRow}
use Rattle.channel_report.specs.Delays.{delays_of, least_of, least_with, worst_of, worst_with}
use Rattle.channel_report.specs.declared.delay_tally.DelayTally.{DelayTally}

-- of these delays
abbrev pub delay_tally_of : List ℕ → DelayTally
delay_tally_of delays = record { delivered = length delays; least = least_of delays; worst = worst_of delays }

-- with one more
abbrev pub with_delay : ℕ → DelayTally → DelayTally
with_delay delay tally = record {
  delivered = tally.delivered + 1;
  least = Some (least_with delay tally.least);
  worst = Some (worst_with delay tally.worst);
}

-- of each request's channel, by rows that are listed from the last one to the first
pub record AreDelayTallies (requests : List RequestEntry) (rows : List HopRow) (tallies : List DelayTally) : Type 0 where
  pub all : length tallies ≡ length requests
  pub tells : (n : ℕ) (entry : RequestEntry) (tally : DelayTally) → slice_get requests n ≡ Some entry → slice_get tallies n ≡ Some tally → tally ≡ delay_tally_of (delays_of entry.request rows)
