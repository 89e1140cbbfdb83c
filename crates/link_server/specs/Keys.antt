-- A link's line keeps the packets that haven't started in a slab, each under a key. The keys of those that
-- weren't eligible when the link last looked are in a calendar, under the tick from which they are, in the order of their
-- arrival. The other keys are in queues, one a level, each in the order in which they were eligible. Each key is in one of
-- these places, once.
use Rattle.std.specs.Prelude.{◌≡◌, ℕ, ◌+◌, if◌then◌else◌, nat_eq, List, [], ◌∷◌, ◌++◌, Option, Some, None, is_some, count_by, map, length, slice_index_or}
use Rattle.std.proofs.Common.{lit<, lit≤}
use Rattle.link_steps.specs.Lists.{Each}
use Rattle.tick_calendar.specs.Calendar.{Entry}
use Rattle.link_server.specs.declared.queue.held_packet.HeldPacket.{HeldPacket}
use Rattle.link_server.specs.Queues.{joined}
use Rattle.link_server.specs.Order.{IsBy, IsSoonerThanEach, AreByArrival, AreByLevel}

-- ---- packets under keys

-- what an empty slot stands for; no rule looks at it
abbrev pub no_packet : HeldPacket
no_packet = record {
  place = 0;
  lead = 0;
  chan = record { number = 0; small = lit< tt };
  number = 0;
  size = 1;
  at = 0;
  eligible = 0;
  level = 1;
  next = None;
  has_size = lit≤ tt;
  has_level = lit≤ tt;
  has_most = lit≤ tt;
}

abbrev pub packet_told : Option HeldPacket → HeldPacket
packet_told None = no_packet
packet_told (Some packet) = packet

-- the packet under a key, where these are the slots of the slab
abbrev pub packet_at : List (Option HeldPacket) → ℕ → HeldPacket
packet_at slots key = packet_told (slice_index_or slots key None)

abbrev pub packets_at : List (Option HeldPacket) → List ℕ → List HeldPacket
packets_at slots keys = map (packet_at slots) keys

abbrev pub queues_at : List (Option HeldPacket) → List (List ℕ) → List (List HeldPacket)
queues_at slots queues = map (packets_at slots) queues

-- ---- keys

abbrev pub key_of : Entry → ℕ
key_of entry = entry.1

-- the keys of these entries of a calendar
abbrev pub keys_of : List Entry → List ℕ
keys_of entries = map key_of entries

-- those of the calendar and those of the queues
abbrev pub keys_in : List Entry → List (List ℕ) → List ℕ
keys_in later queues = keys_of later ++ joined queues

-- how often a key is among these
abbrev pub times : ℕ → List ℕ → ℕ
times key [] = 0
times key (k ∷ keys) = (if nat_eq k key then 1 else 0) + times key keys

-- whether a key has a packet, as a number
abbrev pub count_at_key : List (Option HeldPacket) → ℕ → ℕ
count_at_key slots key = if is_some (slice_index_or slots key None) then 1 else 0

-- an entry is under the tick from which its packet is eligible
abbrev pub IsUnderTick : List (Option HeldPacket) → Entry → Type 0
IsUnderTick slots entry = entry.0 ≡ (packet_at slots entry.1).eligible

-- each key that has a packet is among these once
pub record AreKeyed (slots : List (Option HeldPacket)) (later : List Entry) (queues : List (List ℕ)) : Type 0 where
  pub once : (key : ℕ) → times key (keys_in later queues) ≡ count_at_key slots key
  pub counted : count_by is_some slots ≡ length (keys_in later queues)
  pub under : Each (IsUnderTick slots) later

-- ---- the order

-- these packets aren't ready yet, in the order of their arrival, and those of the queues are, by this tick
pub record AreInOrder (later : List HeldPacket) (queues : List (List HeldPacket)) (until : ℕ) : Type 0 where
  pub arrived : AreByArrival later
  pub levels : AreByLevel 1 queues
  pub ahead : Each (IsSoonerThanEach later) (joined queues)
  pub by : Each (IsBy until) (joined queues)
