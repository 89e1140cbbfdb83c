-- Laws of the channels of one link. Most are of every admissible history; those on one entry are of every scan.
use Rattle.std.specs.Prelude.{◌≡◌, ℕ, ◌≤◌, Bool, true, Option, Some, None, List, ◌∷◌, option_map}
use Rattle.net_units.specs.Numbers.{channel_number}
use Rattle.net_units.specs.declared.Kind.{Kind}
use Rattle.net_units.specs.declared.numbers.ChanNo.{ChanNo}
use Rattle.net_units.specs.declared.numbers.Level.{Level}
use Rattle.net_units.specs.declared.numbers.LinkNo.{LinkNo}
use Rattle.traffic_contract.specs.Contract.{Traffic}
use Rattle.link_steps.specs.declared.asks.Ask.{Ask}
use Rattle.link_steps.specs.declared.asks.Ask.TheVariants.{Reserve, Relax, Deny, Submit, Release, Arrive}
use Rattle.link_steps.specs.declared.asks.Packet.{Packet}
use Rattle.link_steps.specs.declared.replies.Entry.{Entry}
use Rattle.link_steps.specs.declared.replies.Phase.TheVariants.{Committed}
use Rattle.link_steps.specs.declared.replies.Reply.TheVariants.{Offer, Relaxed, Denied, Planned, Ticked}
use Rattle.link_steps.specs.declared.replies.Sent.{Sent}
use Rattle.link_steps.specs.declared.shape.LinkShape.{LinkShape}
use Rattle.link_steps.specs.declared.replies.Reply.{Reply}
use Rattle.link_steps.specs.Lists.{Each}
use Rattle.link_steps.specs.Admissible.{IsAdmissible}
use Rattle.link_steps.specs.Effects.{PlansBest, effect_of}
use Rattle.link_steps.specs.Replies.{tick_reply, reply_to}
use Rattle.link_steps.specs.Reservation.{Reservation, tentative, committed}
use Rattle.link_steps.specs.Scan.{clock_of, scan_of, names_first_hop}
use Rattle.link_steps.specs.Split.{Link}
use Rattle.channel_laws.specs.Asks.{MayReplyTo, OfferTells, IsOff, IsMild}
use Rattle.channel_laws.specs.Channels.{HopTerms, AllOfferTerms, offers_to, channel_packets, SizeWithin, ChannelStands}
use Rattle.channel_laws.specs.Departing.{IsSent, TickSends}
use Rattle.channel_laws.specs.Sources.{SourceIsKept, SourceIsServed}
use Rattle.channel_laws.specs.Unsent.{NoneSent, IsPlanned, FewCancelled}
use Rattle.channel_laws.specs.Reservations.{held_by, IsOpen, ComesOf, IsSendReply, IsReleased, IsArriveReply}

-- the reservation of a channel that is held after a history
abbrev pub held_after : LinkShape → ChanNo → List Entry → Option Reservation
held_after shape chan h = held_by chan (scan_of shape h).rows

-- an offer is the reply to a reserve alone, and its level is one of the link's
abbrev pub OffersAnswerReserves : Type 0
OffersAnswerReserves = (shape : LinkShape) (h : List Entry) (ask : Ask) (level reach : Level) → MayReplyTo shape h ask (Offer level reach) → OfferTells shape ask level

-- a packet that leaves in a tick of an admissible history is the one that started last, and leaves within its level's bound
abbrev pub WhatLeavesIsInTime : Type 0
WhatLeavesIsInTime = (shape : LinkShape) (h : List Entry) (clock full : ℕ) (sent : Sent) (best_sent best_lost : Bool) → IsAdmissible shape h → Ticked clock full (Some sent) best_sent best_lost ≡ tick_reply shape (clock_of h) (scan_of shape h) → IsSent shape h sent

-- in an admissible history that offers to a channel at most once, and on these terms, all packets of the channel are those
-- of its one row
abbrev pub AChannelHasOneRow : Type 0
AChannelHasOneRow = (shape : LinkShape) (terms : HopTerms) (c : ℕ) (h : List Entry) → IsAdmissible shape h → AllOfferTerms terms c h → ChannelStands terms c (offers_to c h) (scan_of shape h)

-- in such a history each packet of the channel that a tick sends is the next in its order
abbrev pub PacketsLeaveInOrder : Type 0
PacketsLeaveInOrder = (shape : LinkShape) (terms : HopTerms) (c : ℕ) (h : List Entry) (reply : Reply) → IsAdmissible shape h → AllOfferTerms terms c h → offers_to c h ≤ 1 → reply ≡ tick_reply shape (clock_of h) (scan_of shape h) → TickSends shape c h reply

-- in an admissible history each packet of a channel is within its contract's size
abbrev pub SizesKeepTheContract : Type 0
SizesKeepTheContract = (shape : LinkShape) (terms : HopTerms) (c : ℕ) (h : List Entry) → IsAdmissible shape h → AllOfferTerms terms c h → Each (SizeWithin terms) (channel_packets c (scan_of shape h).packets)

-- where the source of a channel keeps its contract, no packet of it is dropped and none waits to be eligible
abbrev pub KeepingSourcesAreServed : Type 0
KeepingSourcesAreServed = (shape : LinkShape) (terms : HopTerms) (c : ℕ) (h : List Entry) → IsAdmissible shape h → AllOfferTerms terms c h → offers_to c h ≤ 1 → (kept : SourceIsKept c (clock_of h) (scan_of shape h)) → SourceIsServed c (scan_of shape h) kept.row

-- what an entry makes of the reservation of a channel
pub record EntriesChangeTheirReservation : Type 0 where
  -- one that names another channel, or none, leaves it as it is, unless it is closing
  pub others : (shape : LinkShape) (h : List Entry) (e : Entry) (chan : ChanNo) → IsAdmissible shape h → IsOff (channel_number chan) e.ask → IsOpen (held_after shape chan h) → held_after shape chan (e ∷ h) ≡ held_after shape chan h
  -- after one that neither reserves, relaxes nor denies the channel it is the one before, or that one closing
  pub mild : (shape : LinkShape) (h : List Entry) (e : Entry) (chan : ChanNo) (terms : Reservation) → IsAdmissible shape h → IsMild (channel_number chan) e.ask → held_after shape chan (e ∷ h) ≡ Some terms → ComesOf terms (held_after shape chan h)
  -- an offer is held
  pub offered : (shape : LinkShape) (h : List Entry) (chan : ChanNo) (contract : Traffic) (kind : Kind) (delay up_reach : ℕ) (first : Bool) (next : Option LinkNo) (level reach : Level) → held_after shape chan h ≡ None
      → held_after shape chan (record { ask = Reserve chan contract kind delay up_reach first next; reply = Offer level reach } ∷ h) ≡ Some (tentative chan contract kind first next up_reach level reach)
  -- a relax commits it
  pub relaxed : (shape : LinkShape) (h : List Entry) (chan : ChanNo) (level : Level) (up_bound clock : ℕ) → held_after shape chan (record { ask = Relax chan level up_bound; reply = Relaxed clock } ∷ h) ≡ option_map (committed level up_bound) (held_after shape chan h)
  -- a deny gives it back
  pub denied : (shape : LinkShape) (h : List Entry) (chan : ChanNo) → IsAdmissible shape h → held_after shape chan (record { ask = Deny chan; reply = Denied } ∷ h) ≡ None

-- the legal replies to the asks that send, close and arrive
pub record AsksAreAnswered : Type 0 where
  pub submits : (link : Link) (h : List Entry) (chan : ChanNo) (terms : Reservation) (count gap size : ℕ) → held_after link.shape chan h ≡ Some terms → terms.first ≡ true → terms.phase ≡ Committed → IsSendReply (reply_to link h (Submit chan count gap size))
  pub releases : (link : Link) (h : List Entry) (chan : ChanNo) (terms : Reservation) (upstream : Option ℕ) → held_after link.shape chan h ≡ Some terms → terms.first ≡ names_first_hop upstream → terms.phase ≡ Committed → IsReleased (reply_to link h (Release chan upstream))
  -- an ask that plans best-effort packets where it is planned
  pub best : (link : Link) (h : List Entry) (ask : Ask) (clock count gap size : ℕ) → effect_of (scan_of link.shape h) ask (Planned clock) ≡ PlansBest count gap size → IsSendReply (reply_to link h ask)
  pub arrives : (link : Link) (h : List Entry) (packet : Packet) → IsArriveReply (reply_to link h (Arrive packet))

-- what moves the planned packets of one channel to another counts on
pub record PlannedPacketsMayMove : Type 0 where
  -- where nothing was submitted on a committed channel, packets within its contract are planned
  pub joins : (link : Link) (h : List Entry) (chan : ChanNo) (terms : Reservation) (count gap size : ℕ) → held_after link.shape chan h ≡ Some terms → terms.first ≡ true → terms.phase ≡ Committed → NoneSent (channel_number chan) h → size ≤ terms.contract.smax → IsPlanned (reply_to link h (Submit chan count gap size))
  -- a release in an admissible history cancels no more than one submit may plan
  pub leaves : (shape : LinkShape) (h : List Entry) (chan : ChanNo) (upstream : Option ℕ) (reply : Reply) → IsAdmissible shape h → MayReplyTo shape h (Release chan upstream) reply → FewCancelled reply
