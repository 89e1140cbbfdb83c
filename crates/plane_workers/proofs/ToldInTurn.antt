-- Which of the replies to asks made one after the other tell something: those of ticks alone, each with its clock. So the next of them
-- has a clock no earlier than that of the link.
use Rattle.std.proofs.Common.{◌≡◌, ℕ, ◌≤◌, true, false, List, [], ◌∷◌, ◌++◌, Option, Some, None, length, map, refl, sym, ap, ◌∙◌, arith, inl, inr}
use Rattle.std.proofs.lemmas.Bool.{cases_Bool}
use Rattle.std.specs.Prelude.{filter, find}
use Rattle.net_units.specs.declared.numbers.ChanNo.{ChanNo}
use Rattle.net_units.specs.declared.numbers.Level.{Level}
use Rattle.traffic_contract.specs.Contract.{Traffic}
use Rattle.link_steps.specs.Buffer.{held_packets, slots_of}
use Rattle.link_steps.specs.Refusals.{RefusalRule, busy, first_refusal, full, not_in_phase, stray_rules, too_big, too_big_for, unfit}
use Rattle.link_steps.specs.Regulator.{eligible_next}
use Rattle.link_steps.specs.Replies.{arrive_reply, arrive_to, best_offer, cancelled_at_release, count_at_release, deny_reply, pour_reply, relax_reply, release_reply, release_to, reply_at, reply_to, reserve_reply, reserve_rules, submit_reply, submit_to}
use Rattle.link_steps.specs.Reservation.{Reservation, is_of}
use Rattle.link_steps.specs.Room.{room_of}
use Rattle.link_steps.specs.Rows.{Row, left_at, row_terms}
use Rattle.link_steps.specs.Scan.{clock_of, clock_with, is_row_at_hop, is_row_of, names_first_hop, scan_of}
use Rattle.link_steps.specs.Service.{Arrival, here_at}
use Rattle.link_steps.specs.Split.{Link}
use Rattle.link_steps.specs.declared.asks.Ask.{Ask}
use Rattle.link_steps.specs.declared.asks.Ask.TheVariants.{Reserve, Relax, Deny, Submit, Release, Arrive, Tick, Pour}
use Rattle.link_steps.specs.declared.asks.Packet.{Packet}
use Rattle.link_steps.specs.declared.replies.Entry.{Entry}
use Rattle.link_steps.specs.declared.replies.Phase.TheVariants.{Committed, Tentative}
use Rattle.link_steps.specs.declared.replies.Reply.{Reply}
use Rattle.link_steps.specs.declared.replies.Reply.TheVariants as Is
use Rattle.link_steps.specs.declared.shape.LinkShape.{LinkShape}
use Rattle.channel_laws.proofs.SentInTime.{tick-answer}
use Rattle.run_engine.specs.schedules.Lagging.{is_told}
use Rattle.plane_workers.specs.Answered.{entry_after, replies_along}
use Rattle.plane_workers.specs.Tracks.{clock_told, never, next_clock}
use Rattle.plane_workers.proofs.AsksInTurn.{clock-step}

-- ---- one reply

pub told-first : (reply : Reply) (rest : List Reply) → is_told reply ≡ true → filter is_told (reply ∷ rest) ≡ reply ∷ filter is_told rest
told-first reply rest is = rw is refl

pub untold-first : (reply : Reply) (rest : List Reply) → is_told reply ≡ false → filter is_told (reply ∷ rest) ≡ filter is_told rest
untold-first reply rest is = rw is refl

-- that of a tick has its clock
pub tick-tells-clock : (link : Link) (h : List Entry) → clock_told (reply_to link h Tick) ≡ clock_of h
tick-tells-clock link h = ap clock_told (tick-answer link h)

-- those of other asks tell nothing
refusals-untold : (rules : List RefusalRule) (reply : Reply) → is_told reply ≡ false → is_told (first_refusal rules reply) ≡ false
refusals-untold [] reply is = is
refusals-untold (None ∷ rules) reply is = refusals-untold rules reply is
refusals-untold (Some refusal ∷ rules) reply is = refl

reserve-untold : (link : Link) (held : List Reservation) (chan : ChanNo) (contract : Traffic) (delay up_reach : ℕ) → is_told (reserve_reply link held chan contract delay up_reach) ≡ false
unfolding reserve_reply
reserve-untold link held chan contract delay up_reach =
    let room = room_of link held chan contract in
    refusals-untold (reserve_rules link.shape held chan contract delay up_reach room) (best_offer link.shape delay room) refl

relax-untold : (t : ℕ) (level : Level) (up_bound : ℕ) (found : Option Reservation) → is_told (relax_reply t level up_bound found) ≡ false
unfolding relax_reply
relax-untold t level up_bound None = refl
relax-untold t level up_bound (Some terms) = refusals-untold (not_in_phase Tentative terms ∷ unfit terms level up_bound ∷ []) (Is.Relaxed t) refl

deny-untold : (found : Option Reservation) → is_told (deny_reply found) ≡ false
unfolding deny_reply
deny-untold None = refl
deny-untold (Some terms) = refusals-untold (not_in_phase Tentative terms ∷ []) Is.Denied refl

submit-untold : (t size : ℕ) (found : Option Row) → is_told (submit_to t size found) ≡ false
unfolding submit_reply
submit-untold t size None = refl
submit-untold t size (Some row) = refusals-untold (not_in_phase Committed row.terms ∷ busy (length (left_at t row.plan)) ∷ too_big row.terms size ∷ []) (Is.Planned t) refl

release-untold : (t : ℕ) (upstream : Option ℕ) (found : Option Row) → is_told (release_to t upstream found) ≡ false
unfolding release_reply
release-untold t upstream None = refl
release-untold t upstream (Some row) = refusals-untold (not_in_phase Committed row.terms ∷ []) (Is.Closing (count_at_release upstream (length row.ticks)) (cancelled_at_release upstream (length (left_at t row.plan)))) refl

arrive-untold : (shape : LinkShape) (t : ℕ) (packets : List Arrival) (packet : Packet) (found : Option Row) → is_told (arrive_to shape t packets packet found) ≡ false
unfolding arrive_reply
arrive-untold shape t packets packet None = refl
arrive-untold shape t packets packet (Some row) =
    refusals-untold (stray_rules packet row.terms (length row.ticks) ++ full (held_packets row.lead (here_at shape.rate packets t)) (slots_of shape.bounds row.terms) ∷ []) (Is.Taken t (eligible_next row.terms row.ticks t packet.due)) refl

pour-untold : (t cap size left : ℕ) → is_told (pour_reply t cap size left) ≡ false
unfolding pour_reply
pour-untold t cap size left = refusals-untold (busy left ∷ too_big_for cap size ∷ []) (Is.Planned t) refl

never-told : (reply : Reply) (ask : Ask) → is_told reply ≡ false → is_told reply ≡ true → ask ≡ Tick
never-told reply ask untold told = (let clash : false ≡ true = sym untold ∙ told in cc)

-- so an ask whose reply tells something is a tick
pub only-ticks-told : (link : Link) (h : List Entry) (ask : Ask) → is_told (reply_to link h ask) ≡ true → ask ≡ Tick
unfolding reply_to reply_at
only-ticks-told link h (Reserve chan contract kind delay up_reach first next) = never-told (reply_to link h (Reserve chan contract kind delay up_reach first next)) (Reserve chan contract kind delay up_reach first next) (reserve-untold link (map row_terms (scan_of link.shape h).rows) chan contract delay up_reach)
only-ticks-told link h (Relax chan level up_bound) = never-told (reply_to link h (Relax chan level up_bound)) (Relax chan level up_bound) (relax-untold (clock_of h) level up_bound (find (is_of chan) (map row_terms (scan_of link.shape h).rows)))
only-ticks-told link h (Deny chan) = never-told (reply_to link h (Deny chan)) (Deny chan) (deny-untold (find (is_of chan) (map row_terms (scan_of link.shape h).rows)))
only-ticks-told link h (Submit chan count gap size) = never-told (reply_to link h (Submit chan count gap size)) (Submit chan count gap size) (submit-untold (clock_of h) size (find (is_row_at_hop chan true) (scan_of link.shape h).rows))
only-ticks-told link h (Release chan upstream) = never-told (reply_to link h (Release chan upstream)) (Release chan upstream) (release-untold (clock_of h) upstream (find (is_row_at_hop chan (names_first_hop upstream)) (scan_of link.shape h).rows))
only-ticks-told link h (Arrive packet) = never-told (reply_to link h (Arrive packet)) (Arrive packet) (arrive-untold link.shape (clock_of h) (scan_of link.shape h).packets packet (find (is_row_of packet.chan) (scan_of link.shape h).rows))
only-ticks-told link h Tick = λ told. refl
only-ticks-told link h (Pour count gap size) = never-told (reply_to link h (Pour count gap size)) (Pour count gap size) (pour-untold (clock_of h) link.shape.cap size (length (left_at (clock_of h) (scan_of link.shape h).best_plan)))

pub arrival-untold : (link : Link) (h : List Entry) (packet : Packet) → is_told (reply_to link h (Arrive packet)) ≡ false
unfolding reply_to reply_at
arrival-untold link h packet = arrive-untold link.shape (clock_of h) (scan_of link.shape h).packets packet (find (is_row_of packet.chan) (scan_of link.shape h).rows)

-- ---- the next that tells something

clock-later : (ask : Ask) (t : ℕ) → t ≤ clock_with ask t
clock-later ask t = (let step = clock-step ask t in omega (arith, step))

-- has a clock no earlier than that of the link
pub told-from : (link : Link) (least : ℕ) (h : List Entry) (asks : List Ask) → least ≤ clock_of h → least ≤ never → least ≤ next_clock (filter is_told (replies_along link h asks))
unfolding replies_along clock_of
told-from link least h [] from early = early
told-from link least h (ask ∷ asks) from early =
    elim (cases_Bool (is_told (reply_to link h ask))) [
      | inl told ↦
          (let clock : clock_told (reply_to link h ask) ≡ clock_of h = ap (λ a. clock_told (reply_to link h a)) (only-ticks-told link h ask told) ∙ tick-tells-clock link h in
          let next : next_clock (filter is_told (reply_to link h ask ∷ replies_along link (entry_after link h ask ∷ h) asks)) ≡ clock_of h = ap next_clock (told-first (reply_to link h ask) (replies_along link (entry_after link h ask ∷ h) asks) told) ∙ clock in
          omega (arith, next, from))
      | inr untold ↦
          (let next = ap next_clock (untold-first (reply_to link h ask) (replies_along link (entry_after link h ask ∷ h) asks) untold) in
          let later = clock-later ask (clock_of h) in
          let others = told-from link least (entry_after link h ask ∷ h) asks (omega (arith, from, later)) early in
          omega (arith, next, others))
    ]

pub told-later : (link : Link) (h : List Entry) (asks : List Ask) → clock_of h ≤ never → clock_of h ≤ next_clock (filter is_told (replies_along link h asks))
told-later link h asks early = told-from link (clock_of h) h asks (omega arith) early
