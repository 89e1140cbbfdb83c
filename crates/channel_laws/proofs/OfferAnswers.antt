-- An offer is the reply of a reserve alone, and its level is one of the link's.
use Rattle.std.proofs.Common.{ℕ, suc, true, List, [], ◌∷◌, length, map, Option, Some, None, sym, subst}
use Rattle.std.specs.Prelude.{find}
use Rattle.net_units.specs.declared.numbers.Level.{Level}
use Rattle.link_steps.specs.declared.asks.Ask.{Ask}
use Rattle.link_steps.specs.declared.asks.Ask.TheVariants.{Reserve, Relax, Deny, Submit, Release, Arrive, Tick}
use Rattle.channel_laws.specs.Asks.{MayReplyTo, OfferTells}
use Rattle.link_steps.specs.Admissible.{MayAnswer}
use Rattle.link_steps.specs.declared.asks.Packet.{Packet}
use Rattle.link_steps.specs.declared.replies.Entry.{Entry}
use Rattle.link_steps.specs.declared.replies.Reply.{Reply}
use Rattle.link_steps.specs.declared.replies.Reply.TheVariants as Is
use Rattle.link_steps.specs.declared.shape.LinkShape.{LinkShape}
use Rattle.link_steps.specs.Refusals.{RefusalRule, refused_or, first_refusal, not_in_phase, unfit, busy, too_big, too_big_for, first_hop, uncommitted, wrong_number, past_count, big, full}
use Rattle.link_steps.specs.Buffer.{slots_of, held_packets}
use Rattle.link_steps.specs.Regulator.{eligible_next}
use Rattle.link_steps.specs.declared.replies.Phase.TheVariants.{Tentative, Committed}
use Rattle.link_steps.specs.Service.{here_at}
use Rattle.link_steps.specs.Rows.{left_at}
use Rattle.link_steps.specs.Reservation.{Reservation, is_of}
use Rattle.link_steps.specs.Replies.{relax_reply, deny_reply, submit_reply, release_reply, arrive_reply, submit_to, release_to, arrive_to, pour_reply, reply_at}
use Rattle.link_steps.specs.Rows.{Row, row_terms}
use Rattle.link_steps.specs.Scan.{Scan, clock_of, scan_of, is_row_of, is_row_at_hop, names_first_hop}
use Rattle.link_steps.specs.Service.{Arrival}

-- the reply isn't an offer
abbrev IsNoOffer : Reply → Type 0
IsNoOffer (Is.Offer level reach) = ⊥
IsNoOffer _ = Unit {0}

rule-other : (rule : RefusalRule) (reply : Reply) → IsNoOffer reply → IsNoOffer (refused_or rule reply)
rule-other None reply is = is
rule-other (Some refusal) reply is = tt

rules-other : (rules : List RefusalRule) (reply : Reply) → IsNoOffer reply → IsNoOffer (first_refusal rules reply)
rules-other [] reply is = is
rules-other (rule ∷ rules) reply is = rule-other rule (first_refusal rules reply) (rules-other rules reply is)

relax-other : (t up_bound : ℕ) (level : Level) (found : Option Reservation) → IsNoOffer (relax_reply t level up_bound found)
unfolding relax_reply
relax-other t up_bound level None = tt
relax-other t up_bound level (Some terms) = rules-other (not_in_phase Tentative terms ∷ unfit terms level up_bound ∷ []) (Is.Relaxed t) tt

deny-other : (found : Option Reservation) → IsNoOffer (deny_reply found)
unfolding deny_reply
deny-other None = tt
deny-other (Some terms) = rules-other (not_in_phase Tentative terms ∷ []) Is.Denied tt

submit-other : (t size : ℕ) (found : Option Row) → IsNoOffer (submit_to t size found)
unfolding submit_reply
submit-other t size None = tt
submit-other t size (Some row) = rules-other (not_in_phase Committed row.terms ∷ busy (length (left_at t row.plan)) ∷ too_big row.terms size ∷ []) (Is.Planned t) tt

release-other : (t : ℕ) (upstream : Option ℕ) (found : Option Row) → IsNoOffer (release_to t upstream found)
unfolding release_reply
release-other t upstream None = tt
release-other t upstream (Some row) = rules-other (not_in_phase Committed row.terms ∷ []) _ tt

arrive-other : (shape : LinkShape) (t : ℕ) (packets : List Arrival) (packet : Packet) (found : Option Row) → IsNoOffer (arrive_to shape t packets packet found)
unfolding arrive_reply
arrive-other shape t packets packet None = tt
arrive-other shape t packets packet (Some row) =
    rules-other (first_hop row.terms ∷ uncommitted row.terms ∷ wrong_number packet.number (suc (length row.ticks)) ∷ past_count row.terms (length row.ticks) ∷ big row.terms packet.size ∷ full (held_packets row.lead (here_at shape.rate packets t)) (slots_of shape.bounds row.terms) ∷ [])
    (Is.Taken t (eligible_next row.terms row.ticks t packet.due)) tt

best-other : (t cap size left : ℕ) → IsNoOffer (pour_reply t cap size left)
unfolding pour_reply
best-other t cap size left = rules-other (busy left ∷ too_big_for cap size ∷ []) (Is.Planned t) tt

offer-at : (shape : LinkShape) (t : ℕ) (scan : Scan) (ask : Ask) (level reach : Level) → MayAnswer shape t scan ask (Is.Offer level reach) → OfferTells shape ask level
unfolding MayAnswer reply_at
offer-at shape t scan (Reserve chan contract kind delay up_reach first next) level reach may = record { reserve = tt; most = may.level_most }
offer-at shape t scan (Relax chan given up_bound) level reach same = absurd (subst IsNoOffer (sym same) (relax-other t up_bound given (find (is_of chan) (map row_terms scan.rows))))
offer-at shape t scan (Deny chan) level reach same = absurd (subst IsNoOffer (sym same) (deny-other (find (is_of chan) (map row_terms scan.rows))))
offer-at shape t scan (Submit chan count gap size) level reach same = absurd (subst IsNoOffer (sym same) (submit-other t size (find (is_row_at_hop chan true) scan.rows)))
offer-at shape t scan (Release chan upstream) level reach same = absurd (subst IsNoOffer (sym same) (release-other t upstream (find (is_row_at_hop chan (names_first_hop upstream)) scan.rows)))
offer-at shape t scan (Arrive packet) level reach same = absurd (subst IsNoOffer (sym same) (arrive-other shape t scan.packets packet (find (is_row_of packet.chan) scan.rows)))
offer-at shape t scan Tick level reach same = absurd (subst IsNoOffer (sym same) tt)
offer-at shape t scan _ level reach same = absurd (subst IsNoOffer (sym same) (best-other t shape.cap _ _))

pub offer-answers : (shape : LinkShape) (h : List Entry) (ask : Ask) (level reach : Level) → MayReplyTo shape h ask (Is.Offer level reach) → OfferTells shape ask level
offer-answers shape h ask level reach may = offer-at shape (clock_of h) (scan_of shape h) ask level reach may
