-- A list of ticks, in order of time, keeps a contract when neighbours are at least `xmin` ticks apart and an
-- entry and the one a burst after it are at least `interval` ticks apart. So no interval holds more than a
-- burst. The empty list keeps every contract. The same is said three times: as a fact, as a test of the list
-- in order of time, and as a test of the list with the newest tick first, which a history grows by.
use Rattle.std.specs.Prelude.{ℕ, ◌+◌, ◌-◌, ◌<◌, ◌≤◌, Bool, true, nat_le, ◌&&◌, List, [], ◌∷◌, length, slice_index, drop}
use Rattle.traffic_contract.specs.Contract.{Traffic, burst_of}

-- entries that stand `gap` places apart are at least `least` ticks apart
pub record Spaced (gap least : ℕ) (ticks : List ℕ) : Type 0 where
  pub apart : (i : ℕ) → i + gap < length ticks → slice_index ticks i + least ≤ slice_index ticks (i + gap)

-- the list, in order of time, keeps the contract
pub record Keeps (c : Traffic) (ticks : List ℕ) : Type 0 where
  pub neighbours : Spaced 1 c.xmin ticks
  pub bursts : Spaced (burst_of c) c.interval ticks

-- the first of these ticks, where there is one, is at least `least` ticks after t
abbrev pub starts_after : ℕ → ℕ → List ℕ → Bool
starts_after t least [] = true
starts_after t least (later ∷ ticks) = nat_le (t + least) later

-- whether entries that stand `gap` places apart are at least `least` ticks apart
unfoldable pub are_spaced : ℕ → ℕ → List ℕ → Bool
are_spaced gap least [] = true
are_spaced gap least (t ∷ ticks) = starts_after t least (drop gap (t ∷ ticks)) && are_spaced gap least ticks

-- whether the list, in order of time, keeps the contract
unfoldable pub keeps : Traffic → List ℕ → Bool
keeps c ticks = are_spaced 1 c.xmin ticks && are_spaced (burst_of c) c.interval ticks

-- the first of these ticks, where there is one, is at least `least` ticks before t
abbrev pub starts_before : ℕ → ℕ → List ℕ → Bool
starts_before t least [] = true
starts_before t least (earlier ∷ ticks) = nat_le (earlier + least) t

-- whether t may follow these ticks, newest first: it is `xmin` ticks after the newest of them and `interval`
-- ticks after the one that is a burst before it
unfoldable pub may_follow : Traffic → List ℕ → ℕ → Bool
may_follow c past t = starts_before t c.xmin past && starts_before t c.interval (drop (burst_of c - 1) past)

-- whether the list, newest first, keeps the contract
unfoldable pub keeps_newest_first : Traffic → List ℕ → Bool
keeps_newest_first c [] = true
keeps_newest_first c (t ∷ past) = may_follow c past t && keeps_newest_first c past
