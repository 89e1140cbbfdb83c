-- What a run says of the source of a channel, by the history of its first link. A submit that was answered plans packets: one at
-- the tick of the answer, and then one every gap. A release that was answered cancels those whose tick the link hadn't made yet.
-- Those that are left and whose tick the link has made are what the source has offered, including packets that found no slot and
-- were dropped. A send is refused while planned packets are left, or because its packets are too large.
use Rattle.std.specs.Prelude.{ℕ, zero, suc, ◌+◌, Bool, nat_eq, nat_lt, if◌then◌else◌, Option, Some, None, List, [], ◌∷◌, ◌++◌, filter}
use Rattle.net_units.specs.Numbers.{channel_number, link_number}
use Rattle.net_units.specs.declared.numbers.ChanNo.{ChanNo}
use Rattle.hop_reservation.specs.declared.route.Hop.{Hop}
use Rattle.link_steps.specs.Scan.{clock_of}
use Rattle.link_steps.specs.declared.asks.Ask.{Ask}
use Rattle.link_steps.specs.declared.asks.Ask.TheVariants.{Submit, Release}
use Rattle.link_steps.specs.declared.replies.Entry.{Entry}
use Rattle.link_steps.specs.declared.replies.Reply.{Reply}
use Rattle.link_steps.specs.declared.replies.Reply.TheVariants.{Planned, Closing, Refused}
use Rattle.channel_report.specs.declared.source_act.Act.{Act}
use Rattle.channel_report.specs.declared.source_act.Act.TheVariants.{Plans, Refuses, Cancels, Nothing}

-- what an entry does for a source
abbrev pub act_of : Ask → Reply → Act
act_of (Submit chan count gap size) (Planned tick) = Plans chan tick gap count
act_of (Submit chan count gap size) (Refused refusal) = Refuses chan
act_of (Release chan upstream) (Closing count cancelled) = Cancels chan
act_of _ _ = Nothing

-- the channel of the source
abbrev pub chan_of : Act → Option ChanNo
chan_of (Plans chan tick gap count) = Some chan
chan_of (Refuses chan) = Some chan
chan_of (Cancels chan) = Some chan
chan_of Nothing = None

-- whether this is the channel's number
abbrev pub is_channel : ℕ → ChanNo → Bool
is_channel number chan = nat_eq (channel_number chan) number

-- a count of ticks, the first at u and then one every gap
abbrev pub ticks_from : ℕ → ℕ → ℕ → List ℕ
ticks_from u gap zero = []
ticks_from u gap (suc count) = u ∷ ticks_from (u + gap) gap count

-- whether a link has made a tick by a clock
abbrev pub is_made : ℕ → ℕ → Bool
is_made clock tick = nat_lt tick clock

-- the ticks for which the source of the channel of this number has planned packets after an entry, where the clock was t
abbrev pub planned_after : ℕ → ℕ → List ℕ → Act → List ℕ
planned_after number t planned (Plans chan tick gap count) = if is_channel number chan then planned ++ ticks_from tick gap count else planned
planned_after number t planned (Refuses chan) = planned
planned_after number t planned (Cancels chan) = if is_channel number chan then filter (is_made t) planned else planned
planned_after number t planned Nothing = planned

-- those after a history, without the cancelled ones
unfoldable pub planned_in : ℕ → List Entry → List ℕ
planned_in number [] = []
planned_in number (e ∷ past) = planned_after number (clock_of past) (planned_in number past) (act_of e.ask e.reply)

-- the ticks at which the source has offered a packet, dropped ones included
abbrev pub offered_in : ℕ → List Entry → List ℕ
offered_in number h = filter (is_made (clock_of h)) (planned_in number h)

-- how many sends on the channel an entry refuses
abbrev pub refused_by : ℕ → Act → ℕ
refused_by number (Plans chan tick gap count) = 0
refused_by number (Refuses chan) = if is_channel number chan then 1 else 0
refused_by number (Cancels chan) = 0
refused_by number Nothing = 0

-- how many were refused
unfoldable pub refused_in : ℕ → List Entry → ℕ
refused_in number [] = 0
refused_in number (e ∷ past) = refused_by number (act_of e.ask e.reply) + refused_in number past

-- the number of a route's first link
abbrev pub first_link : List Hop → ℕ
first_link [] = 0
first_link (hop ∷ hops) = link_number hop.link
