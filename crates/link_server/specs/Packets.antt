-- The packets at a link as its account has them: how many it has taken, those that are here in the order of their
-- arrival, and the one that occupies it.
use Rattle.std.specs.Prelude.{Option, Some, None, List, map}
use Rattle.link_steps.specs.Service.{Arrival, Start}
use Rattle.link_server.specs.declared.queue.held_packet.Gone.{Gone}
use Rattle.link_server.specs.declared.queue.held_packet.HeldPacket.{HeldPacket}
use Rattle.link_server.specs.declared.queue.held_packet.Running.{Running}

-- a packet
abbrev pub arrival_in : HeldPacket → Arrival
arrival_in packet = record {
  place = packet.place;
  lead = packet.lead;
  chan = packet.chan;
  number = packet.number;
  size = packet.size;
  at = packet.at;
  eligible = packet.eligible;
  level = packet.level;
  next = packet.next;
}

-- the start of the one that occupies the link
abbrev pub start_in : Running → Start
start_in running = record { packet = arrival_in running.packet; tick = running.tick }

abbrev pub on_in : Option Running → Option Start
on_in None = None
on_in (Some running) = Some (start_in running)

-- those that are here
abbrev pub here_in : List HeldPacket → List Arrival
here_in packets = map arrival_in packets

-- one that has departed
abbrev pub gone_of : Arrival → Gone
gone_of p = record { chan = p.chan; lead = p.lead }
