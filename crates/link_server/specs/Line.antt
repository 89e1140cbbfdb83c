-- The packets that wait in a link's line, and which of them is next: one that is eligible by the tick, such that no other that
-- is goes before it.
use Rattle.std.specs.Prelude.{◌≡◌, ℕ, ◌<◌, ◌≤◌, false, List, ◌∷◌, ◌++◌}
use Rattle.std.specs.List.Sorted.{IsPermutation}
use Rattle.link_steps.specs.Lists.{Each}
use Rattle.link_server.specs.declared.queue.line.Line.{Line}
use Rattle.link_server.specs.declared.queue.held_packet.HeldPacket.{HeldPacket}
use Rattle.link_server.specs.Keys.{keys_of, packets_at, queues_at}
use Rattle.link_server.specs.Queues.{joined}
use Rattle.link_server.specs.Order.{stands_before}
use Rattle.link_server.specs.Ready.{queues_of}

-- the packets in line, and for how many there is room
abbrev pub later_in : Line → List HeldPacket
later_in line = packets_at line.packets.slots (keys_of line.later.entries)

abbrev pub ready_in : Line → List HeldPacket
ready_in line = joined (queues_at line.packets.slots (queues_of line.ready))

abbrev pub waiting_in : Line → List HeldPacket
waiting_in line = later_in line ++ ready_in line

abbrev pub room_in : Line → ℕ
room_in line = line.room

-- none of these packets is eligible by the tick
abbrev pub IsAfter : ℕ → HeldPacket → Type 0
IsAfter tick packet = tick < packet.eligible

abbrev pub AreAfter : ℕ → List HeldPacket → Type 0
AreAfter tick packets = Each (IsAfter tick) packets

-- none is before the tick
abbrev pub IsFrom : ℕ → HeldPacket → Type 0
IsFrom tick packet = tick ≤ packet.eligible

abbrev pub AreFrom : ℕ → List HeldPacket → Type 0
AreFrom tick packets = Each (IsFrom tick) packets

-- one that is eligible by the tick doesn't go before this one
abbrev pub IsBehind : ℕ → HeldPacket → HeldPacket → Type 0
IsBehind tick first packet = packet.eligible ≤ tick → stands_before packet first ≡ false

-- this one is next, and the others are left
pub record IsNext (tick : ℕ) (old new : List HeldPacket) (next : HeldPacket) : Type 0 where
  pub others : IsPermutation old (next ∷ new)
  pub eligible : next.eligible ≤ tick
  pub after : Each (IsBehind tick next) new
