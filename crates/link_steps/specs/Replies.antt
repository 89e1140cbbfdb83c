-- The legal reply to each ask, from the history before it. A reserve is offered the best level of its contract, and its
-- reach: the largest level whose bound is within the end-to-end bound or that of the offer, whichever is larger. A
-- relax, a deny, a submit and a release are answered where a reservation of the channel is held in the phase that they
-- want; a submit, and a release that carries no count, name it at its first hop, a release that carries a count at a
-- later one. A release at the first hop answers with the count of packets taken and cancels what is planned. One at a
-- later hop answers with its own count or the one that it carries, whichever is larger, and cancels nothing. A packet
-- that arrives is taken where the reservation is ready for it and has a slot free, and the reply says at which tick it
-- is eligible. A tick says how many source packets were dropped in it, and which packet departs at its end.
use Rattle.std.specs.Prelude.{ℕ, suc, ◌+◌, Bool, true, false, not, ◌&&◌, nat_eq, if◌then◌else◌, Option, Some, None, List, [], ◌∷◌, length, map, find, max, unwrap_or, ◌++◌}
use Rattle.net_units.specs.LevelBounds.{bound_at, reach_of}
use Rattle.net_units.specs.declared.numbers.ChanNo.{ChanNo}
use Rattle.net_units.specs.declared.numbers.Level.{Level}
use Rattle.traffic_contract.specs.Contract.{Traffic}
use Rattle.link_steps.specs.declared.asks.Ask.{Ask}
use Rattle.link_steps.specs.declared.asks.Ask.TheVariants.{Reserve, Relax, Deny, Submit, Release, Arrive, Tick, Pour}
use Rattle.link_steps.specs.declared.asks.Packet.{Packet}
use Rattle.link_steps.specs.declared.replies.Entry.{Entry}
use Rattle.link_steps.specs.declared.replies.Phase.TheVariants.{Tentative, Committed}
use Rattle.link_steps.specs.declared.replies.Refusal.TheVariants.{NoSuch, Stray}
use Rattle.link_steps.specs.declared.replies.Reply.{Reply}
use Rattle.link_steps.specs.declared.replies.Reply.TheVariants.{Offer, Relaxed, Denied, Planned, Closing, Taken, Ticked, Refused}
use Rattle.link_steps.specs.declared.replies.Sent.{Sent}
use Rattle.link_steps.specs.declared.replies.Why.TheVariants.{NoRow}
use Rattle.link_steps.specs.declared.shape.LinkShape.{LinkShape}
use Rattle.link_steps.specs.Buffer.{need_of, slots_of, held_packets}
use Rattle.link_steps.specs.Levels.{level_of}
use Rattle.link_steps.specs.Refusals.{RefusalRule, first_refusal, too_wide, twice, no_level, no_buffer, not_in_phase, unfit, busy, too_big, too_big_for, full, stray_rules}
use Rattle.link_steps.specs.Reservation.{Reservation, is_of}
use Rattle.link_steps.specs.Scan.{Scan, clock_of, scan_of, without_expired, best_step_at, after_tick, is_row_of, is_row_at_hop, names_first_hop}
use Rattle.link_steps.specs.Service.{Arrival, Start, leaves_at, starts_below, here_at}
use Rattle.link_steps.specs.Room.{Room, room_of}
use Rattle.link_steps.specs.Split.{Link}
use Rattle.link_steps.specs.Regulator.{eligible_next}
use Rattle.link_steps.specs.Rows.{Row, row_terms, left_at}
use Rattle.link_steps.specs.Sources.{dropped_by, dropped_in}
use Rattle.link_steps.specs.BestEffort.{is_best}

-- the rules on a reserve with this room, in their order
abbrev pub reserve_rules : LinkShape → List Reservation → ChanNo → Traffic → ℕ → ℕ → Room → List RefusalRule
reserve_rules shape held chan contract delay up_reach room =
    too_wide contract shape.cap
    ∷ twice (find (is_of chan) held)
    ∷ no_level room.best room.sum room.bound
    ∷ no_buffer (need_of shape.bounds contract up_reach (reach_of shape.bounds delay (unwrap_or room.best 0))) room.free
    ∷ []

-- the offer where none applies
abbrev pub best_offer : LinkShape → ℕ → Room → Reply
best_offer shape delay room = Offer (level_of (unwrap_or room.best 0)) (level_of (reach_of shape.bounds delay (unwrap_or room.best 0)))

-- the reply to a reserve with this room
abbrev pub reserve_reply_in : LinkShape → List Reservation → ChanNo → Traffic → ℕ → ℕ → Room → Reply
reserve_reply_in shape held chan contract delay up_reach room =
    first_refusal (reserve_rules shape held chan contract delay up_reach room) (best_offer shape delay room)

-- the reply to a reserve at a link that holds these reservations
unfoldable pub reserve_reply : Link → List Reservation → ChanNo → Traffic → ℕ → ℕ → Reply
reserve_reply link held chan contract delay up_reach =
    reserve_reply_in link.shape held chan contract delay up_reach (room_of link held chan contract)

-- a relax of the reservation held, if there is one
unfoldable pub relax_reply : ℕ → Level → ℕ → Option Reservation → Reply
relax_reply t level up_bound None = Refused NoSuch
relax_reply t level up_bound (Some terms) = first_refusal (not_in_phase Tentative terms ∷ unfit terms level up_bound ∷ []) (Relaxed t)

-- a deny of it
unfoldable pub deny_reply : Option Reservation → Reply
deny_reply None = Refused NoSuch
deny_reply (Some terms) = first_refusal (not_in_phase Tentative terms ∷ []) Denied

-- a submit where `left` planned packets are left
unfoldable pub submit_reply : ℕ → ℕ → Reservation → ℕ → Reply
submit_reply t size terms left = first_refusal (not_in_phase Committed terms ∷ busy left ∷ too_big terms size ∷ []) (Planned t)

-- the count of a release that is told a count, or none, where `taken` packets are taken
abbrev pub count_at_release : Option ℕ → ℕ → ℕ
count_at_release None taken = taken
count_at_release (Some told) taken = max told taken

-- the planned packets that it cancels, of `left` that are left
abbrev pub cancelled_at_release : Option ℕ → ℕ → ℕ
cancelled_at_release None left = left
cancelled_at_release (Some told) left = 0

-- a release where `taken` packets are taken and `left` planned ones are left
unfoldable pub release_reply : Option ℕ → Reservation → ℕ → ℕ → Reply
release_reply upstream terms taken left = first_refusal (not_in_phase Committed terms ∷ []) (Closing (count_at_release upstream taken) (cancelled_at_release upstream left))

-- a packet that arrives where `taken` are taken and `held` are here, and would be eligible at e
unfoldable pub arrive_reply : List ℕ → ℕ → Packet → Reservation → ℕ → ℕ → ℕ → Reply
arrive_reply bounds t packet terms taken held e =
    first_refusal (stray_rules packet terms taken ++ full held (slots_of bounds terms) ∷ [])
    (Taken t e)

-- a packet as it leaves the link
abbrev pub sent_of : LinkShape → Start → Sent
sent_of shape start = record {
  packet = record {
    chan = start.packet.chan;
    number = start.packet.number;
    size = start.packet.size;
    due = start.packet.eligible + bound_at shape.bounds start.packet.level + shape.prop;
  };
  at = start.packet.at;
  eligible = start.packet.eligible;
  arrives = leaves_at shape.rate start + shape.prop;
  next = start.packet.next;
}

-- the packet that departs at this tick, where it is a channel's, and whether it is a best-effort one: the one that
-- started last, if that is its last tick
abbrev pub sent_if : LinkShape → Bool → Start → Option Sent
sent_if shape departs start = if departs && not (is_best shape.bounds start.packet) then Some (sent_of shape start) else None

unfoldable pub sent_at : LinkShape → ℕ → List Start → Option Sent
sent_at shape t [] = None
sent_at shape t (start ∷ earlier) = sent_if shape (nat_eq (leaves_at shape.rate start) t) start

unfoldable pub best_sent_at : LinkShape → ℕ → List Start → Bool
best_sent_at shape t [] = false
best_sent_at shape t (start ∷ earlier) = nat_eq (leaves_at shape.rate start) t && is_best shape.bounds start.packet

-- what a row, if there is one, replies to a submit, a release and a packet that arrives
abbrev pub submit_to : ℕ → ℕ → Option Row → Reply
submit_to t size None = Refused NoSuch
submit_to t size (Some row) = submit_reply t size row.terms (length (left_at t row.plan))

abbrev pub release_to : ℕ → Option ℕ → Option Row → Reply
release_to t upstream None = Refused NoSuch
release_to t upstream (Some row) = release_reply upstream row.terms (length row.ticks) (length (left_at t row.plan))

abbrev pub arrive_to : LinkShape → ℕ → List Arrival → Packet → Option Row → Reply
arrive_to shape t packets packet None = Refused (Stray NoRow)
arrive_to shape t packets packet (Some row) =
    arrive_reply shape.bounds t packet row.terms (length row.ticks) (held_packets row.lead (here_at shape.rate packets t)) (eligible_next row.terms row.ticks t packet.due)

-- a pour where `left` planned best-effort packets are left
unfoldable pub pour_reply : ℕ → ℕ → ℕ → ℕ → Reply
pour_reply t cap size left = first_refusal (busy left ∷ too_big_for cap size ∷ []) (Planned t)

-- a tick: its number, the source packets dropped in it, the packet that departs at its end, whether a best-effort packet
-- does, and whether one is lost
abbrev pub tick_reply : LinkShape → ℕ → Scan → Reply
tick_reply shape t scan =
    Ticked t
    (dropped_in shape.bounds (here_at shape.rate scan.packets t) t (without_expired shape.bounds t scan).rows)
    (sent_at shape (suc t) (starts_below shape.rate (after_tick shape t scan).packets (suc t)))
    (best_sent_at shape (suc t) (starts_below shape.rate (after_tick shape t scan).packets (suc t)))
    (nat_eq (dropped_by (best_step_at shape t scan)) 1)

-- the reply to an ask at clock t, from the scan of the history
unfoldable pub reply_at : Link → ℕ → Scan → Ask → Reply
reply_at link t scan (Reserve chan contract kind delay up_reach first next) = reserve_reply link (map row_terms scan.rows) chan contract delay up_reach
reply_at link t scan (Relax chan level up_bound) = relax_reply t level up_bound (find (is_of chan) (map row_terms scan.rows))
reply_at link t scan (Deny chan) = deny_reply (find (is_of chan) (map row_terms scan.rows))
reply_at link t scan (Submit chan count gap size) = submit_to t size (find (is_row_at_hop chan true) scan.rows)
reply_at link t scan (Release chan upstream) = release_to t upstream (find (is_row_at_hop chan (names_first_hop upstream)) scan.rows)
reply_at link t scan (Arrive packet) = arrive_to link.shape t scan.packets packet (find (is_row_of packet.chan) scan.rows)
reply_at link t scan Tick = tick_reply link.shape t scan
reply_at link t scan (Pour count gap size) = pour_reply t link.shape.cap size (length (left_at t scan.best_plan))

-- the legal reply to an ask after a history
unfoldable pub reply_to : Link → List Entry → Ask → Reply
reply_to link past ask = reply_at link (clock_of past) (scan_of link.shape past) ask
