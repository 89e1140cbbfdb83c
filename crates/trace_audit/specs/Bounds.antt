-- What a sound table says of its packets. Each leaves each of its hops after its eligible tick there, and within the bound of its
-- level. It is eligible at a hop within the delays of the hops before, from its eligible tick at the first hop on, and under
-- delay-jitter control exactly then. What has left its last hop reaches its destination within the delay of its whole route, which
-- is within what its request asks for. Where the ticks at which a channel's packets arrived at its first hop keep its contract,
-- each was eligible as it arrived; and under delay-jitter control two delays differ by less than the bound of the last hop, which
-- is within the jitter that was asked for.
use Rattle.std.specs.Prelude.{◌≡◌, ℕ, suc, ◌+◌, ◌<◌, ◌≤◌, Some, Option, List, length, map, slice_index, take}
use Rattle.std.specs.List.{slice_get}
use Rattle.net_units.specs.Allotted.{levels_of}
use Rattle.net_units.specs.LevelBounds.{bound_at}
use Rattle.net_units.specs.Numbers.{link_number, channel_number}
use Rattle.net_units.specs.declared.Kind.TheVariants.{Jitter}
use Rattle.net_units.specs.declared.levels.Levels.{Levels}
use Rattle.traffic_contract.specs.Keeping.{Keeps}
use Rattle.hop_reservation.specs.Offers.{delay_over}
use Rattle.hop_reservation.specs.declared.route.Hop.{Hop}
use Rattle.link_steps.specs.Lists.{Each, Among}
use Rattle.relaxation.specs.Allotment.{IsWithin}
use Rattle.setup_protocol.specs.Laws.{KeepsRequest}
use Rattle.setup_protocol.specs.Requests.{kind_of, jitter_of}
use Rattle.setup_protocol.specs.declared.request.Request.{Request}
use Rattle.call_script.specs.Parts.{PlanParts}
use Rattle.call_script.specs.Plans.{IsPlan}
use Rattle.call_script.specs.declared.entries.RequestEntry.{RequestEntry}
use Rattle.run_record.specs.declared.rows.HopRow.{HopRow}
use Rattle.trace_audit.specs.Above.{rows_at}
use Rattle.call_script.specs.Accepted.{AreAccepted}
use Rattle.trace_audit.specs.Checks.{IsSound}

-- the delay over the hops before the one of this index
abbrev pub delay_before : Request → List ℕ → ℕ → ℕ
delay_before request levels i = delay_over request.route (take i levels)

-- the row of the same packet at hop 1
pub record IsFirstOf (table : List HopRow) (row first : HopRow) : Type 0 where
  pub among : Among first table
  pub chan : channel_number first.chan ≡ channel_number row.chan
  pub number : first.number ≡ row.number
  pub hop : first.hop ≡ 1

-- the ticks at which the packets of a channel arrived at its first hop, in the order of the table
abbrev pub arrival_of : HopRow → ℕ
arrival_of row = row.at

abbrev pub arrivals_in : ℕ → List HopRow → List ℕ
arrivals_in c table = map arrival_of (rows_at c 1 table)

-- they keep the channel's contract
abbrev pub SourceKept : Request → ℕ → List HopRow → Type 0
SourceKept request c table = Keeps request.contract (arrivals_in c table)

-- the request of a row's channel, the levels with which it was accepted, and the hop of its route
pub record RowHop (plan : PlanParts) (levels : List (Option Levels)) (row : HopRow) : Type 0 where
  pub entry : RequestEntry
  pub given : Levels
  pub requested : slice_get plan.requests (channel_number row.chan) ≡ Some entry
  pub accepted : slice_get levels (channel_number row.chan) ≡ Some (Some given)
  pub index : ℕ
  pub place : row.hop ≡ suc index
  pub hop : Hop
  pub stands : slice_get entry.request.route index ≡ Some hop
  pub link : link_number hop.link ≡ link_number row.link

-- the bound of the row's level
abbrev pub bound_of_row : (plan : PlanParts) (levels : List (Option Levels)) (row : HopRow) → RowHop plan levels row → ℕ
bound_of_row plan levels row at = bound_at at.hop.bounds (slice_index (levels_of at.given) at.index)

-- the row is at the last hop of its route
abbrev pub IsLastHop : (plan : PlanParts) (levels : List (Option Levels)) (row : HopRow) → RowHop plan levels row → Type 0
IsLastHop plan levels row at = suc at.index ≡ length at.entry.request.route

-- what a row of a sound table tells of its packet
pub record RowKept (plan : PlanParts) (levels : List (Option Levels)) (table : List HopRow) (row : HopRow) : Type 0 where
  pub at : RowHop plan levels row
  -- its request's delay, and its jitter, are within what was asked for
  pub keeps : KeepsRequest at.entry.request (levels_of at.given) (delay_over at.entry.request.route (levels_of at.given))
  -- it left after its eligible tick, and within the bound of its level
  pub after : row.eligible < row.departed
  pub within : row.departed ≤ row.eligible + bound_of_row plan levels row at
  -- and was eligible within the delays of the hops before
  pub first : HopRow
  pub is_first : IsFirstOf table row first
  pub in_time : row.eligible ≤ first.eligible + delay_before at.entry.request (levels_of at.given) at.index
  pub exact : kind_of at.entry.request.control ≡ Jitter → row.eligible ≡ first.eligible + delay_before at.entry.request (levels_of at.given) at.index
  -- from its last hop it reaches its destination within the delay of its route
  pub arrives : IsLastHop plan levels row at → row.departed + at.hop.prop ≤ first.eligible + delay_over at.entry.request.route (levels_of at.given)
  -- a source that keeps its contract isn't held back
  pub at_once : SourceKept at.entry.request (channel_number row.chan) table → first.eligible ≡ first.at

-- two delays of one channel, from the arrival at the first hop to the destination, differ by less than the bound of the last hop
pub record AreClose (plan : PlanParts) (levels : List (Option Levels)) (one other first_one first_other : HopRow) (at : RowHop plan levels one) : Type 0 where
  pub close : one.departed + at.hop.prop + first_other.at < other.departed + at.hop.prop + first_one.at + bound_of_row plan levels one at
  pub bound : IsWithin (jitter_of at.entry.request.control) (bound_of_row plan levels one at)

pub record TableKept (plan : PlanParts) (levels : List (Option Levels)) (table : List HopRow) : Type 0 where
  pub rows : Each (RowKept plan levels table) table
  pub close : (one other first_one first_other : HopRow) (at : RowHop plan levels one) → Among one table → Among other table → channel_number other.chan ≡ channel_number one.chan → other.hop ≡ one.hop → IsLastHop plan levels one at
      → IsFirstOf table one first_one → IsFirstOf table other first_other → kind_of at.entry.request.control ≡ Jitter → SourceKept at.entry.request (channel_number one.chan) table → AreClose plan levels one other first_one first_other at

abbrev pub SoundTablesKeepTheBounds : Type 0
SoundTablesKeepTheBounds = (plan : PlanParts) (levels : List (Option Levels)) (table : List HopRow) → IsPlan plan → AreAccepted plan levels → IsSound plan levels table → TableKept plan levels table
