-- Which replies an ask gets in a run. Of a setup's asks only a reserve may be refused: for its packets, its level or its buffer. An
-- ask for packets is planned, or refused while planned packets are left or because its own are too large. A release is answered. A
-- packet that arrives is taken, or refused as stray or as finding no slot.
use Rattle.std.specs.Prelude.{◌≡◌, true}
use Rattle.link_steps.specs.declared.asks.Ask.{Ask}
use Rattle.link_steps.specs.declared.asks.Ask.TheVariants.{Reserve, Relax, Deny, Release, Arrive, Tick}
use Rattle.link_steps.specs.declared.replies.Reply.{Reply}
use Rattle.link_steps.specs.declared.replies.Reply.TheVariants.{Offer, Relaxed, Denied, Ticked, Refused}
use Rattle.setup_protocol.specs.Setup.{is_reserve_refusal}
use Rattle.channel_laws.specs.Reservations.{IsSendReply, IsReleased, IsArriveReply}

abbrev pub IsReserveReply : Reply → Type 0
IsReserveReply (Offer level reach) = Unit {0}
IsReserveReply (Refused refusal) = is_reserve_refusal refusal ≡ true
IsReserveReply _ = ⊥

abbrev pub IsRelaxed : Reply → Type 0
IsRelaxed (Relaxed clock) = Unit {0}
IsRelaxed _ = ⊥

abbrev pub IsTicked : Reply → Type 0
IsTicked (Ticked clock full sent best_sent best_lost) = Unit {0}
IsTicked _ = ⊥

-- the ask gets one of its replies: the last clause is for the asks for packets
abbrev pub IsReplyOf : Ask → Reply → Type 0
IsReplyOf (Reserve chan contract kind delay up_reach first next) reply = IsReserveReply reply
IsReplyOf (Relax chan level up_bound) reply = IsRelaxed reply
IsReplyOf (Deny chan) reply = reply ≡ Denied
IsReplyOf (Release chan upstream) reply = IsReleased reply
IsReplyOf (Arrive packet) reply = IsArriveReply reply
IsReplyOf Tick reply = IsTicked reply
IsReplyOf _ reply = IsSendReply reply
