-- The account of a link: what it keeps of its history. It keeps its clock, how many packets it has taken, a row for
-- each reservation held, in the order of the reserves, the packets here, in the order of their arrival, and the one
-- that occupies it. Of a row it keeps the terms, the lead, how many packets were taken, the newest of their eligible
-- ticks, as many as a burst, and the planned packets that are left. The account gives the reply to each ask, and the
-- account after it: no rule needs more of the history.
use Rattle.std.specs.Prelude.{◌≡◌, ℕ, suc, ◌+◌, Bool, true, false, not, ◌&&◌, nat_eq, nat_le, nat_lt, if◌then◌else◌, Option, Some, None, List, [], ◌∷◌, ◌++◌, length, map, filter, find}
use Rattle.net_units.specs.declared.numbers.ChanNo.{ChanNo}
use Rattle.net_units.specs.declared.numbers.Level.{Level}
use Rattle.traffic_contract.specs.Contract.{IsContract}
use Rattle.traffic_contract.specs.Eligible.{newest, newest_burst}
use Rattle.link_steps.specs.declared.asks.Ask.{Ask}
use Rattle.link_steps.specs.declared.asks.Ask.TheVariants.{Reserve, Relax, Deny, Submit, Release, Arrive, Tick, Pour}
use Rattle.link_steps.specs.declared.asks.Packet.{Packet}
use Rattle.link_steps.specs.declared.replies.Entry.{Entry}
use Rattle.link_steps.specs.declared.replies.Refusal.TheVariants.{NoSuch, Stray}
use Rattle.link_steps.specs.declared.replies.Reply.{Reply}
use Rattle.link_steps.specs.declared.replies.Reply.TheVariants as Is
use Rattle.link_steps.specs.declared.replies.Sent.{Sent}
use Rattle.link_steps.specs.declared.replies.Why.TheVariants.{NoRow}
use Rattle.link_steps.specs.declared.shape.LinkShape.{LinkShape}
use Rattle.link_steps.specs.BestEffort.{is_best, best_step, best_packet}
use Rattle.link_steps.specs.Buffer.{has_slot, held_packets}
use Rattle.link_steps.specs.Hold.{hold_ended}
use Rattle.link_steps.specs.Lists.{change_first, without_first, Each}
use Rattle.link_steps.specs.Replies.{reserve_reply, relax_reply, deny_reply, submit_reply, release_reply, arrive_reply, pour_reply, sent_if}
use Rattle.link_steps.specs.Reservation.{Reservation, tentative, committed, closing, is_of, is_at_hop}
use Rattle.link_steps.specs.Scan.{Scan, clock_of, scan_of, names_first_hop}
use Rattle.link_steps.specs.Service.{Arrival, Start, leaves_at, first_in_line, starts_below, here_at}
use Rattle.link_steps.specs.Regulator.{eligible_next}
use Rattle.link_steps.specs.Rows.{Row, SourcePacket, planned_from, is_for, left_at}
use Rattle.link_steps.specs.Split.{Link}
use Rattle.link_steps.specs.Sources.{SourceStep, Brings, lead_with, arrival_at, source_step, taken_by, dropped_by}

-- `taken` counts the row's packets, and `recent` are the newest of their eligible ticks, newest first
pub record AccountRow : Type 0 where
  pub terms : Reservation
  pub lead : ℕ
  pub taken : ℕ
  pub recent : List ℕ
  pub left : List SourcePacket

-- `taken` counts the link's packets, `on` is the start of the one that occupies it, and `best_left` are the planned
-- best-effort packets that are left
pub record Account : Type 0 where
  pub clock : ℕ
  pub taken : ℕ
  pub rows : List AccountRow
  pub here : List Arrival
  pub on : Option Start
  pub best_left : List SourcePacket

-- ---- what is kept of a history

-- a row as it is kept at clock t
abbrev pub account_row : ℕ → Row → AccountRow
account_row t row = record {
  terms = row.terms;
  lead = row.lead;
  taken = length row.ticks;
  recent = newest_burst row.terms.contract row.ticks;
  left = left_at t row.plan;
}

-- the start of the packet that occupies the link in tick t, of these starts, newest first
abbrev pub start_on : ℕ → List Start → ℕ → Option Start
start_on rate [] t = None
start_on rate (start ∷ earlier) t = if nat_lt t (leaves_at rate start) then Some start else None

-- what is kept at clock t, from the scan of the history
unfoldable pub account_at : LinkShape → ℕ → Scan → Account
account_at shape t scan = record {
  clock = t;
  taken = length scan.packets;
  rows = map (account_row t) scan.rows;
  here = here_at shape.rate scan.packets t;
  on = start_on shape.rate (starts_below shape.rate scan.packets t) t;
  best_left = left_at t scan.best_plan;
}

-- what is kept of a history, at its clock
abbrev pub account_of : LinkShape → List Entry → Account
account_of shape h = account_at shape (clock_of h) (scan_of shape h)

-- what is kept of no history
abbrev pub empty_account : Account
empty_account = record { clock = 0; taken = 0; rows = []; here = []; on = None; best_left = [] }

-- a link that keeps this stands for the history
abbrev pub StandsFor : LinkShape → Account → List Entry → Type 0
StandsFor shape k h = k ≡ account_of shape h

-- the rows have contracts, as those of every admissible history do
abbrev pub HasContract : AccountRow → Type 0
HasContract row = IsContract row.terms.contract

abbrev pub HasContracts : Account → Type 0
HasContracts k = Each HasContract k.rows

-- ---- the rows through a tick

-- its reservation
abbrev pub account_terms : AccountRow → Reservation
account_terms row = row.terms

-- whether a row stays held in tick t
abbrev pub account_stays : List ℕ → ℕ → AccountRow → Bool
account_stays bounds t row = not (hold_ended bounds row.terms row.taken (newest row.recent) t)

-- what a row's source does in tick t
unfoldable pub account_step : List ℕ → List Arrival → ℕ → AccountRow → SourceStep
account_step bounds here t row = source_step (has_slot bounds row.terms row.lead here) (find (is_for t) row.left)

-- the eligible tick of a source packet that the row takes in tick t
abbrev pub account_tick : AccountRow → ℕ → ℕ
account_tick row t = eligible_next row.terms row.recent t 0

-- the packet taken from a source, if there is one
abbrev pub account_packet : SourceStep → ℕ → ℕ → AccountRow → List Arrival
account_packet (Brings size) t place row = arrival_at row.terms row.lead place (suc row.taken) size t (account_tick row t) ∷ []
account_packet _ t place row = []

-- the row with one more packet, of this arrival number and eligible at e
abbrev pub account_with : ℕ → ℕ → AccountRow → AccountRow
account_with place e row = record row {
  lead = lead_with row.lead place;
  taken = suc row.taken;
  recent = newest_burst row.terms.contract (e ∷ row.recent);
}

-- the row after its source's step in tick t: what was planned for t is no longer left
abbrev pub past_tick : ℕ → AccountRow → AccountRow
past_tick t row = record row { left = left_at (suc t) row.left }

-- the row after its source's step, where a packet that is taken has this arrival number
abbrev pub account_after_step : SourceStep → ℕ → ℕ → AccountRow → AccountRow
account_after_step (Brings size) t place row = account_with place (account_tick row t) (past_tick t row)
account_after_step _ t place row = past_tick t row

-- the packets that all sources bring in tick t, after `taken` packets in all
unfoldable pub account_packets : List ℕ → List Arrival → ℕ → ℕ → List AccountRow → List Arrival
account_packets bounds here t taken [] = []
account_packets bounds here t taken (row ∷ rows) =
    account_packet (account_step bounds here t row) t (suc taken) row
    ++ account_packets bounds here t (taken + taken_by (account_step bounds here t row)) rows

-- the rows afterwards
unfoldable pub account_rows_after : List ℕ → List Arrival → ℕ → ℕ → List AccountRow → List AccountRow
account_rows_after bounds here t taken [] = []
account_rows_after bounds here t taken (row ∷ rows) =
    account_after_step (account_step bounds here t row) t (suc taken) row
    ∷ account_rows_after bounds here t (taken + taken_by (account_step bounds here t row)) rows

-- how many packets are dropped
unfoldable pub account_dropped : List ℕ → List Arrival → ℕ → List AccountRow → ℕ
account_dropped bounds here t [] = 0
account_dropped bounds here t (row ∷ rows) = dropped_by (account_step bounds here t row) + account_dropped bounds here t rows

-- ---- the packets through a tick

-- whether a packet that is here is eligible by tick t
abbrev pub is_eligible_by : ℕ → Arrival → Bool
is_eligible_by t p = nat_le p.eligible t

-- the start of this packet in tick t, where there is one
abbrev pub start_at : ℕ → Option Arrival → Option Start
start_at t None = None
start_at t (Some p) = Some (record { packet = p; tick = t })

-- the packet that occupies the link in tick t: the one that did, or else the first in line of those here
abbrev pub served : ℕ → List Arrival → Option Start → Option Start
served t here (Some start) = Some start
served t here None = start_at t (first_in_line (filter (is_eligible_by t) here))

-- whether it leaves by the end of tick t
abbrev pub leaves_by : ℕ → ℕ → Start → Bool
leaves_by rate t start = nat_le (leaves_at rate start) (suc t)

-- the one that still occupies the link then
abbrev pub still_on : ℕ → ℕ → Option Start → Option Start
still_on rate t None = None
still_on rate t (Some start) = if leaves_by rate t start then None else Some start

-- the packet that departs at the end of tick t
abbrev pub departs : LinkShape → ℕ → Option Start → Option Sent
departs shape t None = None
departs shape t (Some start) = sent_if shape (nat_eq (leaves_at shape.rate start) (suc t)) start

-- whether a best-effort packet does
abbrev pub best_departs : LinkShape → ℕ → Option Start → Bool
best_departs shape t None = false
best_departs shape t (Some start) = nat_eq (leaves_at shape.rate start) (suc t) && is_best shape.bounds start.packet

-- whether a packet is another than the one that started
abbrev pub is_other : Start → Arrival → Bool
is_other start p = not (nat_eq start.packet.place p.place)

-- the packets that are still here then
abbrev pub still_here : ℕ → ℕ → Option Start → List Arrival → List Arrival
still_here rate t None here = here
still_here rate t (Some start) here = if leaves_by rate t start then filter (is_other start) here else here

-- ---- the account through a tick

-- the rows that stay held in the tick at hand
abbrev pub held_rows : LinkShape → Account → List AccountRow
held_rows shape k = filter (account_stays shape.bounds k.clock) k.rows

-- the packets that their sources bring
abbrev pub from_sources : LinkShape → Account → List Arrival
from_sources shape k = account_packets shape.bounds k.here k.clock k.taken (held_rows shape k)

-- whether a best-effort packet that is here waits, where this one is on the link, and how many do
abbrev pub waits_here : List ℕ → Option Start → Arrival → Bool
waits_here bounds None p = is_best bounds p
waits_here bounds (Some start) p = is_best bounds p && is_other start p

unfoldable pub account_waiting : LinkShape → Account → ℕ
account_waiting shape k = length (filter (waits_here shape.bounds k.on) k.here)

-- the step of the best-effort packet planned for the tick at hand
unfoldable pub account_best : LinkShape → Account → SourceStep
account_best shape k = best_step (account_waiting shape k) shape.best k.clock k.best_left

-- all packets of the tick
abbrev pub brought : LinkShape → Account → List Arrival
brought shape k = from_sources shape k ++ best_packet (account_best shape k) shape.bounds (suc (k.taken + length (from_sources shape k))) k.clock

-- those here then
abbrev pub present : LinkShape → Account → List Arrival
present shape k = k.here ++ brought shape k

-- the packet that occupies the link
abbrev pub occupies : LinkShape → Account → Option Start
occupies shape k = served k.clock (present shape k) k.on

-- the account after the tick
unfoldable pub account_after_tick : LinkShape → Account → Account
account_after_tick shape k = record {
  clock = suc k.clock;
  taken = k.taken + length (brought shape k);
  rows = account_rows_after shape.bounds k.here k.clock k.taken (held_rows shape k);
  here = still_here shape.rate k.clock (occupies shape k) (present shape k);
  on = still_on shape.rate k.clock (occupies shape k);
  best_left = left_at (suc k.clock) k.best_left;
}

-- and the reply to it
unfoldable pub account_tick_reply : LinkShape → Account → Reply
account_tick_reply shape k =
    Is.Ticked k.clock
    (account_dropped shape.bounds k.here k.clock (held_rows shape k))
    (departs shape k.clock (occupies shape k))
    (best_departs shape k.clock (occupies shape k))
    (nat_eq (dropped_by (account_best shape k)) 1)

-- ---- the reply to an ask

-- whether a row is this channel's; and whether it is so at its first hop, or at a later one
abbrev pub is_account_of : ChanNo → AccountRow → Bool
is_account_of chan row = is_of chan row.terms

abbrev pub is_account_at_hop : ChanNo → Bool → AccountRow → Bool
is_account_at_hop chan first row = is_at_hop chan first row.terms

-- what a row, if there is one, replies to a submit, a release and a packet that arrives
abbrev pub account_submit : ℕ → ℕ → Option AccountRow → Reply
account_submit t size None = Is.Refused NoSuch
account_submit t size (Some row) = submit_reply t size row.terms (length row.left)

abbrev pub account_release : Option ℕ → Option AccountRow → Reply
account_release upstream None = Is.Refused NoSuch
account_release upstream (Some row) = release_reply upstream row.terms row.taken (length row.left)

abbrev pub account_arrive : LinkShape → ℕ → List Arrival → Packet → Option AccountRow → Reply
account_arrive shape t here packet None = Is.Refused (Stray NoRow)
account_arrive shape t here packet (Some row) =
    arrive_reply shape.bounds t packet row.terms row.taken (held_packets row.lead here) (eligible_next row.terms row.recent t packet.due)

-- the reply of the account to an ask
unfoldable pub account_reply : Link → Account → Ask → Reply
account_reply link k (Reserve chan contract kind delay up_reach first next) = reserve_reply link (map account_terms k.rows) chan contract delay up_reach
account_reply link k (Relax chan level up_bound) = relax_reply k.clock level up_bound (find (is_of chan) (map account_terms k.rows))
account_reply link k (Deny chan) = deny_reply (find (is_of chan) (map account_terms k.rows))
account_reply link k (Submit chan count gap size) = account_submit k.clock size (find (is_account_at_hop chan true) k.rows)
account_reply link k (Release chan upstream) = account_release upstream (find (is_account_at_hop chan (names_first_hop upstream)) k.rows)
account_reply link k (Arrive packet) = account_arrive link.shape k.clock k.here packet (find (is_account_of packet.chan) k.rows)
account_reply link k Tick = account_tick_reply link.shape k
account_reply link k (Pour count gap size) = pour_reply k.clock link.shape.cap size (length k.best_left)

-- ---- the account after an ask and its reply

-- a row without packets yet
abbrev pub new_account : Reservation → AccountRow
new_account terms = record { terms = terms; lead = 0; taken = 0; recent = []; left = [] }

-- the changes of a row by a relax, by a submit at clock t, and by a release
abbrev pub account_relaxed : Level → ℕ → AccountRow → AccountRow
account_relaxed level up_bound row = record row { terms = committed level up_bound row.terms }

abbrev pub account_planned : ℕ → ℕ → ℕ → ℕ → AccountRow → AccountRow
account_planned t count gap size row = record row { left = row.left ++ planned_from t gap size count }

abbrev pub account_closed : ℕ → AccountRow → AccountRow
account_closed count row = record row { terms = closing count row.terms; left = [] }

-- a packet from the link before that a row takes at clock t: its eligible tick, the row with it, and the packet
abbrev pub account_arrived_tick : ℕ → Packet → AccountRow → ℕ
account_arrived_tick t packet row = eligible_next row.terms row.recent t packet.due

abbrev pub account_arrived_row : ℕ → ℕ → Packet → AccountRow → AccountRow
account_arrived_row t place packet row = account_with place (account_arrived_tick t packet row) row

abbrev pub account_arrived : ℕ → ℕ → Packet → AccountRow → Arrival
account_arrived t place packet row = arrival_at row.terms row.lead place packet.number packet.size t (account_arrived_tick t packet row)

-- the account with other rows
abbrev pub with_account_rows : Account → List AccountRow → Account
with_account_rows k rows = record k { rows = rows }

-- the account with the packet taken, where there is a row for it
unfoldable pub account_with_arrival : Packet → Account → Option AccountRow → Account
account_with_arrival packet k None = k
account_with_arrival packet k (Some row) = record k {
  taken = suc k.taken;
  rows = change_first (is_account_of packet.chan) (account_arrived_row k.clock (suc k.taken) packet) k.rows;
  here = k.here ++ account_arrived k.clock (suc k.taken) packet row ∷ [];
}

-- the account after an ask and its reply; a refusal changes nothing
unfoldable pub account_after : LinkShape → Account → Ask → Reply → Account
account_after shape k (Reserve chan contract kind delay up_reach first next) (Is.Offer level reach) =
    with_account_rows k (k.rows ++ new_account (tentative chan contract kind first next up_reach level reach) ∷ [])
account_after shape k (Relax chan level up_bound) (Is.Relaxed clock) =
    with_account_rows k (change_first (is_account_of chan) (account_relaxed level up_bound) k.rows)
account_after shape k (Deny chan) Is.Denied = with_account_rows k (without_first (is_account_of chan) k.rows)
account_after shape k (Submit chan count gap size) (Is.Planned clock) =
    with_account_rows k (change_first (is_account_at_hop chan true) (account_planned k.clock count gap size) k.rows)
account_after shape k (Release chan upstream) (Is.Closing count cancelled) =
    with_account_rows k (change_first (is_account_at_hop chan (names_first_hop upstream)) (account_closed count) k.rows)
account_after shape k (Arrive packet) (Is.Taken clock eligible) = account_with_arrival packet k (find (is_account_of packet.chan) k.rows)
account_after shape k Tick reply = account_after_tick shape k
account_after shape k (Pour count gap size) (Is.Planned clock) = record k { best_left = k.best_left ++ planned_from k.clock gap size count }
account_after shape k _ _ = k
