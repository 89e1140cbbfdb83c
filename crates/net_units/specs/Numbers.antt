-- The numbers by which links, actors, channels and levels go. Each counts from 0, but for a level, which
-- counts from 1: level 1 has the smallest delay bound and is served first.
use Rattle.std.specs.Prelude.{ℕ, min}
use Rattle.std.proofs.Common.{lit<}
use Rattle.std.proofs.Math.Nat.{min-le_left, lt_of_le_of_lt}
use Rattle.net_units.specs.declared.numbers.LinkNo.{LinkNo}
use Rattle.net_units.specs.declared.numbers.ActorNo.{ActorNo}
use Rattle.net_units.specs.declared.numbers.ChanNo.{ChanNo}
use Rattle.net_units.specs.declared.numbers.Level.{Level}

-- the link's place among the links of the network
abbrev pub link_number : LinkNo → ℕ
link_number link = link.number

-- the actor's place: the callers in the order of the scenario, and then the plane
abbrev pub actor_number : ActorNo → ℕ
actor_number actor = actor.number

-- the channel's place among the requests of the scenario
abbrev pub channel_number : ChanNo → ℕ
channel_number channel = channel.number

-- the level's place among the bounds of its link, from 1
abbrev pub level_number : Level → ℕ
level_number level = level.number

-- ---- the link, the actor and the channel of a number within its limit; of a larger number, the last one

abbrev pub link_at : ℕ → LinkNo
link_at n = record { number = min 31 n; small = lt_of_le_of_lt (min-le_left 31 n) (lit< tt) }

abbrev pub actor_at : ℕ → ActorNo
actor_at n = record { number = min 64 n; small = lt_of_le_of_lt (min-le_left 64 n) (lit< tt) }

abbrev pub channel_at : ℕ → ChanNo
channel_at n = record { number = min 1048575 n; small = lt_of_le_of_lt (min-le_left 1048575 n) (lit< tt) }
