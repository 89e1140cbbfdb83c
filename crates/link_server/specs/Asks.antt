-- Only a reserve takes memory, and want of it comes in place of an offer.
use Rattle.link_steps.specs.declared.asks.Ask.{Ask}
use Rattle.link_steps.specs.declared.asks.Ask.TheVariants.{Reserve, Relax, Deny, Submit, Release, Arrive, Tick, Pour}
use Rattle.link_steps.specs.declared.replies.Reply.{Reply}
use Rattle.link_steps.specs.declared.replies.Reply.TheVariants as Is

-- the ask takes no memory: it isn't a reserve
abbrev pub TakesNone : Ask → Type 0
TakesNone (Reserve chan contract kind delay up_reach first next) = ⊥
TakesNone (Relax chan level up_bound) = Unit {0}
TakesNone (Deny chan) = Unit {0}
TakesNone (Submit chan count gap size) = Unit {0}
TakesNone (Release chan upstream) = Unit {0}
TakesNone (Arrive packet) = Unit {0}
TakesNone Tick = Unit {0}
TakesNone (Pour count gap size) = Unit {0}

-- a packet arrives, or a tick is made
abbrev pub IsArriveOrTick : Ask → Type 0
IsArriveOrTick (Reserve chan contract kind delay up_reach first next) = ⊥
IsArriveOrTick (Relax chan level up_bound) = ⊥
IsArriveOrTick (Deny chan) = ⊥
IsArriveOrTick (Submit chan count gap size) = ⊥
IsArriveOrTick (Release chan upstream) = ⊥
IsArriveOrTick (Arrive packet) = Unit {0}
IsArriveOrTick Tick = Unit {0}
IsArriveOrTick (Pour count gap size) = ⊥

-- the reply is an offer
abbrev pub IsOffer : Reply → Type 0
IsOffer (Is.Offer level reach) = Unit {0}
IsOffer (Is.Relaxed clock) = ⊥
IsOffer Is.Denied = ⊥
IsOffer (Is.Planned clock) = ⊥
IsOffer (Is.Closing count cancelled) = ⊥
IsOffer (Is.Taken clock eligible) = ⊥
IsOffer (Is.Ticked clock lost sent best_sent best_lost) = ⊥
IsOffer (Is.Refused refusal) = ⊥
