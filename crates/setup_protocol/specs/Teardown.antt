-- A channel is released by a message that goes forward along its route. The first hop is given no count, cancels the
-- packets whose tick isn't made, and replies how many it has taken. Each later hop is given that count, since that many
-- packets are still to pass it.
use Rattle.std.specs.Prelude.{ℕ, Bool, true, false, Option, Some, None, List, [], ◌∷◌, length}
use Rattle.std.specs.List.{slice_get}
use Rattle.net_units.specs.declared.numbers.ChanNo.{ChanNo}
use Rattle.net_units.specs.declared.numbers.LinkNo.{LinkNo}
use Rattle.hop_reservation.specs.declared.route.Hop.{Hop}
use Rattle.link_steps.specs.declared.asks.Ask.{Ask}
use Rattle.link_steps.specs.declared.asks.Ask.TheVariants.{Release}
use Rattle.link_steps.specs.declared.replies.Reply.{Reply}
use Rattle.link_steps.specs.declared.replies.Reply.TheVariants.{Closing}
use Rattle.setup_protocol.specs.Setup.{asked_of}

abbrev pub is_closing : Reply → Bool
is_closing (Closing count cancelled) = true
is_closing _ = false

-- the count of packets that a reply tells
abbrev pub told_count : Reply → ℕ
told_count (Closing count cancelled) = count
told_count _ = 0

-- the count that the first hop has told
abbrev pub first_count : List Reply → Option ℕ
first_count [] = None
first_count (reply ∷ replies) = Some (told_count reply)

-- the next ask after these replies, if one is left
abbrev pub next_release : ChanNo → List Hop → List Reply → Option (LinkNo × Ask)
next_release chan route replies = asked_of (slice_get route (length replies)) (λ hop. Release chan (first_count replies))
