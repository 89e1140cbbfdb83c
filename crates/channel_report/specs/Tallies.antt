-- What is kept of a run while its entries are counted: for each link the counts of its history, and for each channel what its source
-- has planned at its first link, without what was cancelled, and how many sends were refused there. Quiet ticks add to the clocks alone.
use Rattle.std.specs.Prelude.{◌≡◌, ℕ, ◌+◌, ◌*◌, ◌<◌, ◌≤◌, List, length, slice_index_or}
use Rattle.link_steps.specs.Scan.{clock_of}
use Rattle.link_steps.specs.declared.replies.Entry.{Entry}
use Rattle.run_record.specs.Runs.{part_of}
use Rattle.run_record.specs.declared.done.Done.{Done}
use Rattle.channel_report.specs.Links.{sent_in, dropped_in, best_sent_in, best_lost_in, pours_refused_in}
use Rattle.channel_report.specs.declared.link_tally.LinkTally.{LinkTally}

-- the counts of a history
abbrev pub link_tally_of : List Entry → LinkTally
link_tally_of h = record {
  clock = clock_of h;
  sent = sent_in h;
  dropped = dropped_in h;
  best_sent = best_sent_in h;
  best_lost = best_lost_in h;
  pours_refused = pours_refused_in h;
}

-- the counts are those of the history, and few packets were dropped
pub record IsTally (h : List Entry) (tally : LinkTally) : Type 0 where
  pub is : tally ≡ link_tally_of h
  pub few : tally.dropped ≤ 4294967296 * length h

-- the counts of the first n links, by their numbers, in a run that is listed newest first
pub record AreLinkTallies (count : ℕ) (run : List Done) (tallies : List LinkTally) : Type 0 where
  pub all : length tallies ≡ count
  pub tells : (n : ℕ) (d : LinkTally) → n < count → IsTally (part_of n run) (slice_index_or tallies n d)

-- ---- of links whose clocks lag

-- with another clock
abbrev pub at_clock : ℕ → LinkTally → LinkTally
at_clock clock tally = record tally { clock = clock }

-- all but the clock is that of the history
abbrev pub IsToldTally : List Entry → LinkTally → Type 0
IsToldTally h tally = IsTally h (at_clock (clock_of h) tally)

-- so it is of the first n links
pub record AreToldTallies (count : ℕ) (run : List Done) (tallies : List LinkTally) : Type 0 where
  pub all : length tallies ≡ count
  pub tells : (n : ℕ) (d : LinkTally) → n < count → IsToldTally (part_of n run) (slice_index_or tallies n d)

-- ---- quiet ticks

-- the counts with this many quiet ticks more
abbrev pub ticks_later : ℕ → LinkTally → LinkTally
ticks_later n tally = record tally { clock = tally.clock + n }

-- each of these links has made this many
pub record HaveRested (n : ℕ) (old new : List LinkTally) : Type 0 where
  pub same : length new ≡ length old
  pub each : (k : ℕ) (d : LinkTally) → k < length old → slice_index_or new k d ≡ ticks_later n (slice_index_or old k d)

-- ---- clocks that catch up

-- each of these links has this clock, and its counts are as they were
pub record HaveClock (clock : ℕ) (old new : List LinkTally) : Type 0 where
  pub same : length new ≡ length old
  pub each : (k : ℕ) (d : LinkTally) → k < length old → slice_index_or new k d ≡ at_clock clock (slice_index_or old k d)
