-- The history of a link is the list of its asks, each with its reply, newest first. Its clock is the number of its
-- ticks, which is the number of the next one. One scan of the history, from its beginning on, finds what the rules
-- speak of: the rows held, in the order of their reserves; the rows gone, whose hold has ended; and all packets
-- taken, in the order of their arrival numbers. An ask that was refused changes nothing.
use Rattle.std.specs.Prelude.{ℕ, suc, Bool, true, false, Option, Some, None, List, [], ◌∷◌, ◌++◌, length, filter, find}
use Rattle.net_units.specs.declared.numbers.ChanNo.{ChanNo}
use Rattle.net_units.specs.declared.numbers.Level.{Level}
use Rattle.link_steps.specs.declared.asks.Ask.{Ask}
use Rattle.link_steps.specs.declared.asks.Ask.TheVariants.{Reserve, Relax, Deny, Submit, Release, Arrive, Tick, Pour}
use Rattle.link_steps.specs.declared.asks.Packet.{Packet}
use Rattle.link_steps.specs.declared.replies.Entry.{Entry}
use Rattle.link_steps.specs.declared.replies.Reply.{Reply}
use Rattle.link_steps.specs.declared.replies.Reply.TheVariants as Is
use Rattle.link_steps.specs.declared.shape.LinkShape.{LinkShape}
use Rattle.link_steps.specs.Hold.{expires, stays}
use Rattle.link_steps.specs.Lists.{change_first, without_first}
use Rattle.link_steps.specs.Reservation.{tentative, committed, closing, is_of, is_at_hop}
use Rattle.link_steps.specs.Service.{Arrival, Start, here_at, starts_below}
use Rattle.link_steps.specs.Regulator.{eligible_next}
use Rattle.link_steps.specs.Rows.{Row, SourcePacket, new_row, planned_from, made_by}
use Rattle.link_steps.specs.Sources.{SourceStep, arrival_at, with_packet, rows_after, source_packets}
use Rattle.link_steps.specs.BestEffort.{best_packet, best_step, waiting_best}

-- the rows held, the rows gone, the packets taken, best-effort ones among them, and the plan of these
pub record Scan : Type 0 where
  pub rows : List Row
  pub gone : List Row
  pub packets : List Arrival
  pub best_plan : List SourcePacket

-- the clock one tick later, if the ask is a tick
abbrev pub clock_with : Ask → ℕ → ℕ
clock_with Tick t = suc t
clock_with _ t = t

-- the clock of a history: the ticks made, and the number of the next one
unfoldable pub clock_of : List Entry → ℕ
clock_of [] = 0
clock_of (e ∷ past) = clock_with e.ask (clock_of past)

-- whether a row is this channel's; and whether it is so at its first hop, or at a later one
abbrev pub is_row_of : ChanNo → Row → Bool
is_row_of chan row = is_of chan row.terms

abbrev pub is_row_at_hop : ChanNo → Bool → Row → Bool
is_row_at_hop chan first row = is_at_hop chan first row.terms

-- a release that is told no count names a first hop, one that is told a count a later hop
abbrev pub names_first_hop : Option ℕ → Bool
names_first_hop None = true
names_first_hop (Some told) = false

-- the changes of a row by a relax, by a submit at clock t, and by a release at clock t, which cancels the planned
-- packets whose tick isn't made yet
abbrev pub relax_row : Level → ℕ → Row → Row
relax_row level up_bound row = record row { terms = committed level up_bound row.terms }

abbrev pub plan_row : ℕ → ℕ → ℕ → ℕ → Row → Row
plan_row t count gap size row = record row { plan = row.plan ++ planned_from t gap size count }

abbrev pub close_row : ℕ → ℕ → Row → Row
close_row t count row = record row { terms = closing count row.terms; plan = made_by t row.plan }

-- the scan with other rows
abbrev pub with_rows : Scan → List Row → Scan
with_rows scan rows = record scan { rows = rows }

-- a packet from the link before that a row takes at clock t, with this arrival number
abbrev pub arrived_tick : ℕ → Packet → Row → ℕ
arrived_tick t packet row = eligible_next row.terms row.ticks t packet.due

abbrev pub arrived_packet : ℕ → ℕ → Packet → Row → Arrival
arrived_packet t place packet row = arrival_at row.terms row.lead place packet.number packet.size t (arrived_tick t packet row)

abbrev pub arrived_row : ℕ → ℕ → Packet → Row → Row
arrived_row t place packet row = with_packet place (arrived_tick t packet row) row

-- the scan with the packet taken, where there is a row for it
unfoldable pub with_arrival : ℕ → Packet → Scan → Option Row → Scan
with_arrival t packet scan None = scan
with_arrival t packet scan (Some row) = record scan {
  rows = change_first (is_row_of packet.chan) (arrived_row t (suc (length scan.packets)) packet) scan.rows;
  packets = scan.packets ++ arrived_packet t (suc (length scan.packets)) packet row ∷ [];
}

-- tick t begins: the rows whose hold has ended expire
unfoldable pub without_expired : List ℕ → ℕ → Scan → Scan
without_expired bounds t scan = record scan {
  rows = filter (stays bounds t) scan.rows;
  gone = scan.gone ++ filter (expires bounds t) scan.rows;
}

-- then the source packets planned for tick t arrive, among the packets here as it begins
unfoldable pub with_sources : List ℕ → List Arrival → ℕ → Scan → Scan
with_sources bounds here t scan = record scan {
  rows = rows_after bounds here t (length scan.packets) scan.rows;
  packets = scan.packets ++ source_packets bounds here t (length scan.packets) scan.rows;
}

-- then the best-effort packet planned for tick t, where its step is this one
unfoldable pub with_best : List ℕ → SourceStep → ℕ → Scan → Scan
with_best bounds step t scan = record scan { packets = scan.packets ++ best_packet step bounds (suc (length scan.packets)) t }

-- its step, from the scan as the tick begins
unfoldable pub best_step_at : LinkShape → ℕ → Scan → SourceStep
best_step_at shape t scan = best_step (waiting_best shape.bounds (starts_below shape.rate scan.packets t) scan.packets) shape.best t scan.best_plan

-- the scan after tick t
unfoldable pub after_tick : LinkShape → ℕ → Scan → Scan
after_tick shape t scan =
    with_best shape.bounds (best_step_at shape t scan) t (with_sources shape.bounds (here_at shape.rate scan.packets t) t (without_expired shape.bounds t scan))

-- the scan after one ask at clock t, and its reply
unfoldable pub after : LinkShape → ℕ → Scan → Ask → Reply → Scan
after shape t scan (Reserve chan contract kind delay up_reach first next) (Is.Offer level reach) =
    with_rows scan (scan.rows ++ new_row (tentative chan contract kind first next up_reach level reach) ∷ [])
after shape t scan (Relax chan level up_bound) (Is.Relaxed clock) =
    with_rows scan (change_first (is_row_of chan) (relax_row level up_bound) scan.rows)
after shape t scan (Deny chan) Is.Denied = with_rows scan (without_first (is_row_of chan) scan.rows)
after shape t scan (Submit chan count gap size) (Is.Planned clock) =
    with_rows scan (change_first (is_row_at_hop chan true) (plan_row t count gap size) scan.rows)
after shape t scan (Release chan upstream) (Is.Closing count cancelled) =
    with_rows scan (change_first (is_row_at_hop chan (names_first_hop upstream)) (close_row t count) scan.rows)
after shape t scan (Arrive packet) (Is.Taken clock eligible) = with_arrival t packet scan (find (is_row_of packet.chan) scan.rows)
after shape t scan Tick reply = after_tick shape t scan
after shape t scan (Pour count gap size) (Is.Planned clock) = record scan { best_plan = scan.best_plan ++ planned_from t gap size count }
after shape t scan _ _ = scan

-- the scan of a history
unfoldable pub scan_of : LinkShape → List Entry → Scan
scan_of shape [] = record { rows = []; gone = []; packets = []; best_plan = [] }
scan_of shape (e ∷ past) = after shape (clock_of past) (scan_of shape past) e.ask e.reply

-- the starts in the ticks made, newest first
abbrev pub starts_of : LinkShape → List Entry → List Start
starts_of shape h = starts_below shape.rate (scan_of shape h).packets (clock_of h)
