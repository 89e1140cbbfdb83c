-- An account is sound when its numbers keep their bounds and its packets have room, as in every state of a link. At most
-- one packet leaves in a tick, so a link has taken at most as many packets as it has made ticks and has packets here,
-- taken together. The packets here stand in the order of their arrival numbers, and no two rows have the same first
-- packet. There is room for the packets here, for one packet more in each slot that is free, and for one more a row. What
-- a row plans lies ahead, in order of time. The packet that occupies the link is one of those here, was eligible when it
-- started, and hasn't left.
use Rattle.std.specs.Prelude.{◌≡◌, ℕ, suc, ◌+◌, ◌-◌, ◌<◌, ◌≤◌, Bool, nat_eq, not, Some, List, [], ◌∷◌, length, filter, find}
use Rattle.std.specs.Option.{ForSome}
use Rattle.net_units.specs.Numbers.{level_number}
use Rattle.net_units.specs.Limits.{most_bound, most_size}
use Rattle.traffic_contract.specs.Admission.{total}
use Rattle.traffic_contract.specs.Contract.{IsContract}
use Rattle.link_steps.specs.declared.shape.LinkShape.{LinkShape}
use Rattle.link_steps.specs.BestEffort.{is_best}
use Rattle.link_steps.specs.Buffer.{slots_of, held_packets}
use Rattle.link_steps.specs.Account.{Account, AccountRow, account_rows_after, held_rows, brought, present}
use Rattle.link_steps.specs.Lists.{Each}
use Rattle.link_steps.specs.Rows.{SourcePacket, left_at}
use Rattle.link_steps.specs.Service.{Arrival, Start, leaves_at}

-- ---- room

-- the slots of a row that no packet here holds
abbrev pub free_slots : List ℕ → List Arrival → AccountRow → ℕ
free_slots bounds here row = slots_of bounds row.terms - held_packets row.lead here

-- the places that a row may still want: one for each free slot, and one more
abbrev pub places_of : List ℕ → List Arrival → AccountRow → ℕ
places_of bounds here row = suc (free_slots bounds here row)

-- those that it may want in all
abbrev pub all_places_of : List ℕ → AccountRow → ℕ
all_places_of bounds row = suc (slots_of bounds row.terms)

-- the places that the packets here have and the rows may still want
unfoldable pub places : List ℕ → List Arrival → List AccountRow → ℕ
places bounds here rows = length here + total (places_of bounds here) rows

-- the same where no slot holds a packet: it is never less
unfoldable pub most_places : List ℕ → List Arrival → List AccountRow → ℕ
most_places bounds here rows = length here + total (all_places_of bounds) rows

-- ---- best-effort packets

-- the packets of channels, and how many best-effort packets there are
unfoldable pub of_channels : List ℕ → List Arrival → List Arrival
of_channels bounds here = filter (λ p. not (is_best bounds p)) here

unfoldable pub best_count : List ℕ → List Arrival → ℕ
best_count bounds here = length (filter (is_best bounds) here)

-- ---- packets

-- the arrival numbers of the packets rise, from above `low` to at most `high`
abbrev pub AreNumberedWithin : ℕ → List Arrival → ℕ → Type 0
AreNumberedWithin low [] high = low ≤ high
AreNumberedWithin low (p ∷ ps) high = (low < p.place) × AreNumberedWithin p.place ps high

-- the numbers of a packet are in their bounds, at a link with this number of levels that has taken `taken` packets
pub record IsSoundPacket (levels taken : ℕ) (p : Arrival) : Type 0 where
  pub lead_least : 1 ≤ p.lead
  pub lead_most : p.lead ≤ taken
  pub size_least : 1 ≤ p.size
  pub size_most : p.size ≤ most_size
  pub level_least : 1 ≤ p.level
  pub level_most : p.level ≤ suc levels

-- whether a packet has this arrival number
abbrev pub has_arrival_number : ℕ → Arrival → Bool
has_arrival_number place p = nat_eq p.place place

-- the packet that occupies the link in the tick of the clock is among those here
pub record IsRunning (rate clock : ℕ) (here : List Arrival) (start : Start) : Type 0 where
  pub is_here : find (has_arrival_number start.packet.place) here ≡ Some start.packet
  pub eligible : start.packet.eligible ≤ start.tick
  pub begun : start.tick ≤ clock
  pub leaves_later : clock < leaves_at rate start

-- ---- rows

-- the size of a planned packet is in its bounds
pub record HasSize (p : SourcePacket) : Type 0 where
  pub least : 1 ≤ p.size
  pub most : p.size ≤ most_size

-- the planned packets are for ticks from t on, each later than the one before it
abbrev pub AreAhead : ℕ → List SourcePacket → Type 0
AreAhead t [] = Unit {0}
AreAhead t (p ∷ ps) = (t ≤ p.tick) × HasSize p × AreAhead (suc p.tick) ps

-- the row has another lead than this, if it is one
abbrev pub IsApartFrom : ℕ → AccountRow → Type 0
IsApartFrom lead row = row.lead ≡ lead → lead ≡ 0

-- no two rows have the same lead, but for those that have taken no packet yet, whose lead is 0
abbrev pub HaveOwnLeads : List AccountRow → Type 0
HaveOwnLeads [] = Unit {0}
HaveOwnLeads (row ∷ rows) = Each (IsApartFrom row.lead) rows × HaveOwnLeads rows

-- the numbers of a row are in their bounds, at a link with this number of levels that has taken `taken` packets, at this clock
pub record IsSoundRow (levels clock taken : ℕ) (row : AccountRow) : Type 0 where
  pub contract : IsContract row.terms.contract
  pub level_most : level_number row.terms.level ≤ levels
  pub reach_most : level_number row.terms.reach ≤ levels
  pub up_reach_most : row.terms.up_reach ≤ most_bound
  pub up_bound_most : row.terms.up_bound ≤ most_bound
  pub taken_most : row.taken ≤ taken
  pub lead_most : row.lead ≤ taken
  pub ahead : AreAhead clock row.left

-- ---- the account

-- the account is sound, with room for `room` packets
pub record IsSound (shape : LinkShape) (room : ℕ) (k : Account) : Type 0 where
  pub taken_most : k.taken ≤ k.clock + length k.here
  pub numbered : AreNumberedWithin 0 k.here k.taken
  pub packets : Each (IsSoundPacket (length shape.bounds) k.taken) k.here
  pub apart : HaveOwnLeads k.rows
  pub rows : Each (IsSoundRow (length shape.bounds) k.clock k.taken) k.rows
  pub fits : places shape.bounds (of_channels shape.bounds k.here) k.rows + suc shape.best ≤ room
  pub best_few : best_count shape.bounds k.here ≤ suc shape.best
  pub best_ahead : AreAhead k.clock k.best_left
  pub running : ForSome k.on (IsRunning shape.rate k.clock k.here)

-- the account in the tick of its clock, once rows have expired and the sources have brought their packets: it is served so
unfoldable pub with_brought : LinkShape → Account → Account
with_brought shape k = record k {
  taken = k.taken + length (brought shape k);
  rows = account_rows_after shape.bounds k.here k.clock k.taken (held_rows shape k);
  here = present shape k;
  best_left = left_at (suc k.clock) k.best_left;
}
