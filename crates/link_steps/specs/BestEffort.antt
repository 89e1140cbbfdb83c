-- Best-effort packets are served below all levels. A pour plans them as a submit plans those of a source, and they cross
-- this one link. The one planned for a tick arrives after the source packets of the tick, and is eligible in it. Where as
-- many as may wait are waiting already, it is lost. To the service it is a packet of the level after the last. It is the
-- first and only packet of its own lead, so it belongs to no reservation.
use Rattle.std.specs.Prelude.{ℕ, suc, Bool, not, nat_lt, ◌&&◌, None, List, [], ◌∷◌, length, filter, find}
use Rattle.std.proofs.Common.{lit<}
use Rattle.net_units.specs.declared.numbers.ChanNo.{ChanNo}
use Rattle.link_steps.specs.Rows.{SourcePacket, is_for}
use Rattle.link_steps.specs.Service.{Arrival, Start, has_started}
use Rattle.link_steps.specs.Sources.{SourceStep, Brings, source_step}

-- the level after the last, and whether a packet is of it
abbrev pub level_below : List ℕ → ℕ
level_below bounds = suc (length bounds)

abbrev pub is_best : List ℕ → Arrival → Bool
is_best bounds p = nat_lt (length bounds) p.level

-- how many have been taken and haven't started
abbrev pub waits_best : List ℕ → List Start → Arrival → Bool
waits_best bounds starts p = is_best bounds p && not (has_started starts p)

unfoldable pub waiting_best : List ℕ → List Start → List Arrival → ℕ
waiting_best bounds starts packets = length (filter (waits_best bounds starts) packets)

-- what happens to the one planned for tick t, if there is one, where `waiting` wait and `most` may
unfoldable pub best_step : ℕ → ℕ → ℕ → List SourcePacket → SourceStep
best_step waiting most t plan = source_step (nat_lt waiting most) (find (is_for t) plan)

-- a best-effort packet names no channel; the rules don't look at this one
abbrev no_channel : ChanNo
no_channel = record { number = 0; small = lit< tt }

-- the packet as the link takes it, with this arrival number
abbrev pub best_arrival : List ℕ → ℕ → ℕ → ℕ → Arrival
best_arrival bounds place size t = record {
  place = place;
  lead = place;
  chan = no_channel;
  number = 0;
  size = size;
  at = t;
  eligible = t;
  level = level_below bounds;
  next = None;
}

-- the packet taken, if there is one
abbrev pub best_packet : SourceStep → List ℕ → ℕ → ℕ → List Arrival
best_packet (Brings size) bounds place t = best_arrival bounds place size t ∷ []
best_packet _ bounds place t = []
