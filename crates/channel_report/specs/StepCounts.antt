-- How many steps each actor of a run has made, by its number.
use Rattle.std.specs.Prelude.{◌≡◌, ℕ, ◌<◌, List, length, slice_index_or}
use Rattle.run_record.specs.Runs.{replies_to}
use Rattle.run_record.specs.declared.done.Done.{Done}

pub record AreStepCounts (run : List Done) (counts : List ℕ) : Type 0 where
  pub all : length counts ≡ 65
  pub tells : (n d : ℕ) → n < 65 → slice_index_or counts n d ≡ length (replies_to n run)
