-- A packet that arrives is taken, or refused as stray or as finding no slot.
use Rattle.std.proofs.Common.{◌≡◌, ℕ, suc, [], ◌∷◌, List, Option, Some, None, sym, subst, length}
use Rattle.std.specs.Prelude.{find}
use Rattle.link_steps.specs.declared.asks.Packet.{Packet}
use Rattle.link_steps.specs.declared.asks.Ask.TheVariants.{Arrive}
use Rattle.link_steps.specs.declared.replies.Entry.{Entry}
use Rattle.link_steps.specs.declared.replies.Refusal.{Refusal}
use Rattle.link_steps.specs.declared.replies.Refusal.TheVariants as refusal
use Rattle.link_steps.specs.declared.replies.Reply.{Reply}
use Rattle.link_steps.specs.declared.replies.Why.{Why}
use Rattle.link_steps.specs.declared.replies.Reply.TheVariants as Is
use Rattle.link_steps.specs.declared.shape.LinkShape.{LinkShape}
use Rattle.link_steps.specs.Buffer.{held_packets, slots_of}
use Rattle.link_steps.specs.Refusals.{first_hop, uncommitted, wrong_number, past_count, big, full}
use Rattle.link_steps.specs.Regulator.{eligible_next}
use Rattle.link_steps.specs.Replies.{arrive_reply, arrive_to, reply_at, reply_to}
use Rattle.link_steps.specs.Reservation.{Reservation}
use Rattle.link_steps.specs.Rows.{Row}
use Rattle.link_steps.specs.Scan.{clock_of, scan_of, is_row_of}
use Rattle.link_steps.specs.Service.{Arrival, here_at}
use Rattle.link_steps.specs.Split.{Link}
use Rattle.channel_laws.specs.Reservations.{IsArriveReply}
use Rattle.link_steps.proofs.RuleCases.{rules-fact, unless-some}

of-own : (own refusal : Refusal) → refusal ≡ own → IsArriveReply (Is.Refused own) → IsArriveReply (Is.Refused refusal)
of-own own refusal same is = subst (λ r. IsArriveReply (Is.Refused r)) (sym same) is

arrives : (bounds : List ℕ) (t : ℕ) (packet : Packet) (terms : Reservation) (taken held e : ℕ) → IsArriveReply (arrive_reply bounds t packet terms taken held e)
unfolding arrive_reply
arrives bounds t packet terms taken held e =
    rules-fact IsArriveReply
    (first_hop terms ∷ uncommitted terms ∷ wrong_number packet.number (suc taken) ∷ past_count terms taken ∷ big terms packet.size ∷ full held (slots_of bounds terms) ∷ [])
    (Is.Taken t e) (
      λ refusal same. of-own _ refusal (unless-some _ _ refusal same) tt,
      (
        λ refusal same. of-own _ refusal (unless-some _ _ refusal same) tt,
        (
          λ refusal same. of-own _ refusal (unless-some _ _ refusal same) tt,
          (
            λ refusal same. of-own _ refusal (unless-some _ _ refusal same) tt,
            (
              λ refusal same. of-own _ refusal (unless-some _ _ refusal same) tt,
              (λ refusal same. of-own _ refusal (unless-some _ _ refusal same) tt, tt),
            ),
          ),
        ),
      ),
    ) tt

pub arrive-answered : (shape : LinkShape) (t : ℕ) (packets : List Arrival) (packet : Packet) (found : Option Row) → IsArriveReply (arrive_to shape t packets packet found)
arrive-answered shape t packets packet None = tt
arrive-answered shape t packets packet (Some row) = arrives shape.bounds t packet row.terms (length row.ticks) (held_packets row.lead (here_at shape.rate packets t)) (eligible_next row.terms row.ticks t packet.due)

-- the legal reply to a packet that arrives
pub arrive-told : (link : Link) (h : List Entry) (packet : Packet) (reply : Reply) → reply ≡ reply_to link h (Arrive packet) → IsArriveReply reply
unfolding reply_to reply_at
arrive-told link h packet reply same = subst IsArriveReply (sym same) (arrive-answered link.shape (clock_of h) (scan_of link.shape h).packets packet (find (is_row_of packet.chan) (scan_of link.shape h).rows))

-- what holds where it is taken, or refused so, holds of the reply
pub of-arrive : (P : Reply → Type 0) (reply : Reply) → ((clock eligible : ℕ) → P (Is.Taken clock eligible)) → ((held slots : ℕ) → P (Is.Refused (refusal.Full held slots))) → ((why : Why) → P (Is.Refused (refusal.Stray why))) → IsArriveReply reply → P reply
of-arrive P (Is.Taken clock eligible) taken full stray is = taken clock eligible
of-arrive P (Is.Refused (refusal.Full held slots)) taken full stray is = full held slots
of-arrive P (Is.Refused (refusal.Stray why)) taken full stray is = stray why
of-arrive P _ taken full stray is = absurd is
