-- A reserve as the link reads it: what is wanted, and the offer or the refusal that it gets.
use Rattle.std.specs.Prelude.{Result, Ok, Err, List}
use Rattle.link_steps.specs.declared.asks.Ask.{Ask}
use Rattle.link_steps.specs.declared.asks.Ask.TheVariants.{Reserve}
use Rattle.link_steps.specs.declared.replies.Refusal.{Refusal}
use Rattle.link_steps.specs.declared.replies.Reply.{Reply}
use Rattle.link_steps.specs.declared.replies.Reply.TheVariants as Is
use Rattle.link_steps.specs.declared.shape.LinkShape.{LinkShape}
use Rattle.link_steps.specs.Admissible.{MayOffer}
use Rattle.link_steps.specs.Reservation.{Reservation}
use Rattle.link_server.specs.declared.table.served_row.Wanted.{Wanted}
use Rattle.link_server.specs.declared.table.served_row.Offered.{Offered}

-- the ask for what is wanted
abbrev pub ask_for : Wanted → Ask
ask_for wanted = Reserve wanted.chan wanted.contract wanted.kind wanted.delay wanted.up_reach wanted.first wanted.next

-- the reply that makes an offer, or says a refusal
abbrev pub offer_reply : Result Offered Refusal → Reply
offer_reply (Ok offer) = Is.Offer offer.level offer.reach
offer_reply (Err refusal) = Is.Refused refusal

-- what is wanted may be offered so, at a link that holds these reservations
abbrev pub MayHold : LinkShape → List Reservation → Wanted → Offered → Type 0
MayHold shape held wanted offer = MayOffer shape held wanted.chan wanted.contract wanted.delay wanted.up_reach offer.level offer.reach
