-- The reservation of a channel that a link holds, and where it comes from after an entry.
use Rattle.std.specs.Prelude.{◌≡◌, ℕ, false, Option, Some, List, map, find}
use Rattle.net_units.specs.declared.numbers.ChanNo.{ChanNo}
use Rattle.link_steps.specs.declared.replies.Phase.TheVariants.{Closing}
use Rattle.link_steps.specs.declared.replies.Refusal.TheVariants.{Busy, TooBig, Full, Stray}
use Rattle.link_steps.specs.declared.replies.Reply.{Reply}
use Rattle.link_steps.specs.declared.replies.Reply.TheVariants as Is
use Rattle.link_steps.specs.Reservation.{Reservation, is_of, is_phase, closing}
use Rattle.link_steps.specs.Rows.{Row, row_terms}

-- the one that is held, as the rules of a relax and a deny find it
abbrev pub held_by : ChanNo → List Row → Option Reservation
held_by chan rows = find (is_of chan) (map row_terms rows)

-- it isn't closing, if there is one
abbrev pub IsOpen : Option Reservation → Type 0
IsOpen held = (terms : Reservation) → held ≡ Some terms → is_phase terms.phase Closing ≡ false

-- a reservation after an entry is the one before, or that one closing
pub data ComesOf (terms : Reservation) (before : Option Reservation) : Type 0 where
  Stays : before ≡ Some terms → ComesOf terms before
  Closed : (old : Reservation) (count : ℕ) → before ≡ Some old → terms ≡ closing count old → ComesOf terms before

-- ---- the replies where it is committed

-- packets are planned, or the ask is refused since planned ones are left or since they are too large
abbrev pub IsSendReply : Reply → Type 0
IsSendReply (Is.Planned clock) = Unit {0}
IsSendReply (Is.Refused (Busy left)) = Unit {0}
IsSendReply (Is.Refused (TooBig size smax)) = Unit {0}
IsSendReply _ = ⊥

abbrev pub IsReleased : Reply → Type 0
IsReleased (Is.Closing count cancelled) = Unit {0}
IsReleased _ = ⊥

-- ---- the replies to a packet that arrives

abbrev pub IsArriveReply : Reply → Type 0
IsArriveReply (Is.Taken clock eligible) = Unit {0}
IsArriveReply (Is.Refused (Full held slots)) = Unit {0}
IsArriveReply (Is.Refused (Stray why)) = Unit {0}
IsArriveReply _ = ⊥
