-- Each packet of a channel that a link has taken belongs to one row alone, held or gone. The packets of a row are those with
-- its lead: the arrival number of its first packet, which no other row has. Their eligible ticks are the row's, in the order
-- in which they came, and their level is the row's, which is one of the link's. Best-effort packets belong to no row.
use Rattle.std.specs.Prelude.{◌≡◌, ℕ, suc, ◌≤◌, ◌⊎◌, Bool, nat_eq, List, [], ◌∷◌, ◌++◌, length, map, filter, reverse}
use Rattle.net_units.specs.Numbers.{level_number}
use Rattle.link_steps.specs.declared.replies.Entry.{Entry}
use Rattle.link_steps.specs.declared.shape.LinkShape.{LinkShape}
use Rattle.link_steps.specs.Buffer.{has_lead}
use Rattle.link_steps.specs.Lists.{Each, Any}
use Rattle.link_steps.specs.Rows.{Row}
use Rattle.link_steps.specs.Scan.{scan_of}
use Rattle.link_steps.specs.Service.{Arrival}

-- the packets of a row
abbrev pub own_packets : Row → List Arrival → List Arrival
own_packets row packets = filter (has_lead row.lead) packets

-- the tick at which a packet is eligible
abbrev pub eligible_of : Arrival → ℕ
eligible_of p = p.eligible

-- the packet has the level of the row
abbrev pub HasLevelOf : Row → Arrival → Type 0
HasLevelOf row p = p.level ≡ level_number row.terms.level

-- the packets have the arrival numbers after n, in their order
abbrev pub AreNumberedFrom : ℕ → List Arrival → Type 0
AreNumberedFrom n [] = Unit {0}
AreNumberedFrom n (p ∷ packets) = (p.place ≡ suc n) × AreNumberedFrom (suc n) packets

-- the row has the eligible ticks of its packets, and they have its level, which is one of the link's
pub record TellsPackets (levels : ℕ) (packets : List Arrival) (row : Row) : Type 0 where
  pub ticks : reverse row.ticks ≡ map eligible_of (own_packets row packets)
  pub level : Each (HasLevelOf row) (own_packets row packets)
  pub within : level_number row.terms.level ≤ levels

-- the row is that of the packet
abbrev pub IsRowOf : Arrival → Row → Type 0
IsRowOf p row = row.lead ≡ p.lead

-- one of the rows is, where the packet is of one of the levels
pub record HasRow (levels : ℕ) (rows gone : List Row) (p : Arrival) : Type 0 where
  pub one : p.level ≤ levels → Any (IsRowOf p) rows ⊎ Any (IsRowOf p) gone

-- and no other row is
abbrev pub is_own_row : Arrival → Row → Bool
is_own_row p row = nat_eq row.lead p.lead

pub record HasOnlyRow (levels : ℕ) (rows : List Row) (p : Arrival) : Type 0 where
  pub only : p.level ≤ levels → length (filter (is_own_row p) rows) ≡ 1

-- after a history
pub record PacketsHaveRows (shape : LinkShape) (h : List Entry) : Type 0 where
  pub held : Each (TellsPackets (length shape.bounds) (scan_of shape h).packets) (scan_of shape h).rows
  pub gone : Each (TellsPackets (length shape.bounds) (scan_of shape h).packets) (scan_of shape h).gone
  pub each : Each (HasRow (length shape.bounds) (scan_of shape h).rows (scan_of shape h).gone) (scan_of shape h).packets
  pub alone : Each (HasOnlyRow (length shape.bounds) ((scan_of shape h).rows ++ (scan_of shape h).gone)) (scan_of shape h).packets
