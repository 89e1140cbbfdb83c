-- What is kept of the offers: for each channel how many there were, and the place of each link among those that have made one.
use Rattle.std.specs.Prelude.{◌≡◌, ℕ, ◌<◌, min, List, length, replicate, slice_index, slice_index_or}
use Rattle.run_record.specs.Rows.{hop_among, links_of}
use Rattle.run_record.specs.declared.done.Done.{Done}
use Rattle.run_record.specs.declared.hops.Hops.{Hops}

-- these links have made offers, in this order
pub record AreOffered (links : List ℕ) (hops : Hops) : Type 0 where
  pub whole : length hops.places ≡ 32
  pub count : hops.offers ≡ min 255 (length links)
  pub places : (n : ℕ) → n < 32 → slice_index hops.places n ≡ hop_among n links

-- before the first offer
abbrev pub no_hops : Hops
no_hops = record { places = replicate 32 0; offers = 0 }

-- the hops of a channel
abbrev pub hops_at : List Hops → ℕ → Hops
hops_at table c = slice_index_or table c no_hops

-- the table has the hops of each channel by these entries, which are in the order of time
abbrev pub AreHops : List Done → List Hops → Type 0
AreHops entries table = (c : ℕ) → AreOffered (links_of c entries) (hops_at table c)
