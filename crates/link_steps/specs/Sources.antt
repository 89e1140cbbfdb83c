-- A source packet arrives in the tick for which it is planned. The rows bring theirs in the order in which they were
-- reserved. One that finds each slot of its row taken is dropped. The others are taken: each gets the next arrival
-- number of the link, and its regulator says at which tick it is eligible.
use Rattle.std.specs.Prelude.{ℕ, suc, ◌+◌, Bool, true, false, nat_eq, if◌then◌else◌, Option, Some, None, List, [], ◌∷◌, ◌++◌, length, find}
use Rattle.net_units.specs.Numbers.{level_number}
use Rattle.link_steps.specs.Buffer.{has_slot}
use Rattle.link_steps.specs.Regulator.{eligible_next}
use Rattle.link_steps.specs.Reservation.{Reservation}
use Rattle.link_steps.specs.Rows.{Row, SourcePacket, is_for}
use Rattle.link_steps.specs.Service.{Arrival}

-- the lead of a row when it takes the packet of this arrival number
abbrev pub lead_with : ℕ → ℕ → ℕ
lead_with lead place = if nat_eq lead 0 then place else lead

-- a packet as a row takes it, with this arrival number, at tick t and eligible at e
abbrev pub arrival_at : Reservation → ℕ → ℕ → ℕ → ℕ → ℕ → ℕ → Arrival
arrival_at terms lead place number size t e = record {
  place = place;
  lead = lead_with lead place;
  chan = terms.chan;
  number = number;
  size = size;
  at = t;
  eligible = e;
  level = level_number terms.level;
  next = terms.next;
}

-- the row with the packet of this arrival number, eligible at e
abbrev pub with_packet : ℕ → ℕ → Row → Row
with_packet place e row = record row { lead = lead_with row.lead place; ticks = e ∷ row.ticks }

-- what a row's source does in a tick: nothing, or it brings a packet of this size that is taken, or one that
-- finds no slot and is dropped
pub data SourceStep : Type 0 where
  Rests : SourceStep
  Brings : ℕ → SourceStep
  Drops : SourceStep

-- by whether a slot is free, and by the packet that is planned for the tick
abbrev pub source_step : Bool → Option SourcePacket → SourceStep
source_step slot None = Rests
source_step true (Some p) = Brings p.size
source_step false (Some p) = Drops

-- that of a row in tick t, given the packets that are here as the tick begins
unfoldable pub step_of : List ℕ → List Arrival → ℕ → Row → SourceStep
step_of bounds here t row = source_step (has_slot bounds row.terms row.lead here) (find (is_for t) row.plan)

-- the eligible tick of a source packet that the row takes in tick t
abbrev pub source_tick : Row → ℕ → ℕ
source_tick row t = eligible_next row.terms row.ticks t 0

-- the packet taken, if there is one
abbrev pub packet_of : SourceStep → ℕ → ℕ → Row → List Arrival
packet_of (Brings size) t place row = arrival_at row.terms row.lead place (suc (length row.ticks)) size t (source_tick row t) ∷ []
packet_of _ t place row = []

-- the row afterwards
abbrev pub row_after : SourceStep → ℕ → ℕ → Row → Row
row_after (Brings size) t place row = with_packet place (source_tick row t) row
row_after Drops t place row = record row { dropped = t ∷ row.dropped }
row_after Rests t place row = row

-- how many arrival numbers it takes, and how many packets it drops
abbrev pub taken_by : SourceStep → ℕ
taken_by (Brings size) = 1
taken_by _ = 0

abbrev pub dropped_by : SourceStep → ℕ
dropped_by Drops = 1
dropped_by _ = 0

-- the packets that the sources bring in tick t, in the order of their rows, after `taken` packets in all
unfoldable pub source_packets : List ℕ → List Arrival → ℕ → ℕ → List Row → List Arrival
source_packets bounds here t taken [] = []
source_packets bounds here t taken (row ∷ rows) =
    packet_of (step_of bounds here t row) t (suc taken) row
    ++ source_packets bounds here t (taken + taken_by (step_of bounds here t row)) rows

-- the rows afterwards
unfoldable pub rows_after : List ℕ → List Arrival → ℕ → ℕ → List Row → List Row
rows_after bounds here t taken [] = []
rows_after bounds here t taken (row ∷ rows) =
    row_after (step_of bounds here t row) t (suc taken) row
    ∷ rows_after bounds here t (taken + taken_by (step_of bounds here t row)) rows

-- how many source packets are dropped in tick t
unfoldable pub dropped_in : List ℕ → List Arrival → ℕ → List Row → ℕ
dropped_in bounds here t [] = 0
dropped_in bounds here t (row ∷ rows) = dropped_by (step_of bounds here t row) + dropped_in bounds here t rows
