-- The source guarantee says what a source that keeps its contract gets at the first hop of its channel. It finds buffer:
-- each of its packets is taken in the tick for which it was planned, and none is dropped. Each is eligible in that very
-- tick, so the regulator never holds it back. And so each leaves at most the bound of its level after it arrives,
-- whatever all other sources do. What counts is what the source has offered: the packets whose tick was made, in order
-- of time, with any that were dropped. It is the same for the channels held and for those that are gone.
use Rattle.std.specs.Prelude.{◌≡◌, ℕ, ◌+◌, ◌≤◌, true, IsTrue, List, [], map, filter, reverse}
use Rattle.net_units.specs.LevelBounds.{bound_at}
use Rattle.traffic_contract.specs.Keeping.{Keeps}
use Rattle.link_steps.specs.declared.replies.Entry.{Entry}
use Rattle.link_steps.specs.declared.shape.LinkShape.{LinkShape}
use Rattle.link_steps.specs.Buffer.{has_lead}
use Rattle.link_steps.specs.Lists.{Each}
use Rattle.link_steps.specs.Rows.{Row, offered_by}
use Rattle.link_steps.specs.Scan.{clock_of, scan_of, starts_of}
use Rattle.link_steps.specs.Service.{Arrival, Start, leaves_at, has_departed}

-- the row is of a channel's first hop, and what its source has offered by the clock keeps its contract
pub record SourceKeeps (clock : ℕ) (row : Row) : Type 0 where
  pub first : row.terms.first ≡ true
  pub keeps : Keeps row.terms.contract (offered_by clock row)

-- the tick in which a packet arrived
abbrev pub arrival_of : Arrival → ℕ
arrival_of p = p.at

-- a packet of the row is eligible in the tick in which it arrives
pub record IsEligibleAtOnce (row : Row) (p : Arrival) : Type 0 where
  pub at_once : p.lead ≡ row.lead → p.eligible ≡ p.at

-- the last tick by which a packet that is eligible at once departs
abbrev pub arrival_deadline : LinkShape → Arrival → ℕ
arrival_deadline shape p = p.at + bound_at shape.bounds p.level

-- where a packet of the row has departed by the clock, it did so within its level's bound of its arrival
pub record LeavesPromptly (shape : LinkShape) (clock : ℕ) (row : Row) (start : Start) : Type 0 where
  pub within : start.packet.lead ≡ row.lead → leaves_at shape.rate start ≤ clock → leaves_at shape.rate start ≤ arrival_deadline shape start.packet

-- a packet of the row that has been here for its level's bound has departed
pub record HasLeftPromptly (shape : LinkShape) (clock : ℕ) (starts : List Start) (row : Row) (p : Arrival) : Type 0 where
  pub gone : p.lead ≡ row.lead → arrival_deadline shape p ≤ clock → IsTrue (has_departed shape.rate starts clock p)

-- what the source of a row has got after a history: none of its packets was dropped, those that arrived are those
-- offered, and so are the eligible ticks, in order of time
pub record IsServedPromptly (shape : LinkShape) (h : List Entry) (row : Row) : Type 0 where
  pub none_dropped : row.dropped ≡ []
  pub taken : map arrival_of (filter (has_lead row.lead) (scan_of shape h).packets) ≡ offered_by (clock_of h) row
  pub as_offered : reverse row.ticks ≡ offered_by (clock_of h) row
  pub at_once : Each (IsEligibleAtOnce row) (scan_of shape h).packets
  pub departed : Each (LeavesPromptly shape (clock_of h) row) (starts_of shape h)
  pub in_time : Each (HasLeftPromptly shape (clock_of h) (starts_of shape h) row) (scan_of shape h).packets

-- a source that keeps its contract is served promptly
abbrev pub KeepingIsServed : LinkShape → List Entry → Row → Type 0
KeepingIsServed shape h row = SourceKeeps (clock_of h) row → IsServedPromptly shape h row

-- and so for each row, held or gone
pub record SourceGuarantee (shape : LinkShape) (h : List Entry) : Type 0 where
  pub held : Each (KeepingIsServed shape h) (scan_of shape h).rows
  pub gone : Each (KeepingIsServed shape h) (scan_of shape h).gone
