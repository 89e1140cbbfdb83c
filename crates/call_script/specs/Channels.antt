-- What a caller has learnt of each channel, kept by the channels' numbers: what its request has come to, whether it is established,
-- the gap and the size of the packets that were planned on it last, and what a move from it has reported. A channel that isn't kept
-- is one of which nothing was learnt.
use Rattle.std.specs.Prelude.{◌≡◌, ◌<◌, ℕ, Bool, true, false, Option, None, List, get_or, option_map}
use Rattle.net_units.specs.Numbers.{channel_number}
use Rattle.net_units.specs.declared.numbers.ChanNo.{ChanNo}
use Rattle.channel_move.specs.declared.shifted.Shifted.{Shifted}
use Rattle.link_steps.specs.declared.replies.Reply.{Reply}
use Rattle.link_steps.specs.declared.replies.Reply.TheVariants.{Planned}
use Rattle.setup_protocol.specs.Setup.{Outcome}
use Rattle.setup_protocol.specs.State.{outcome_of}
use Rattle.call_script.specs.Scripts.{Learnt, Settles, PlannedOn, MovedTo, Packets, outcome_in, is_established, last_packets, moved_off}
use Rattle.call_script.specs.declared.channels.Channel.{Channel}

pub record Told : Type 0 where
  pub verdict : Option Outcome
  pub established : Bool
  pub packets : Packets
  pub moved : Option Shifted

-- what is learnt of a channel
abbrev pub told_of : ChanNo → List Learnt → Told
told_of chan outcomes = record { verdict = outcome_in chan outcomes; established = is_established chan outcomes; packets = last_packets chan outcomes; moved = moved_off chan outcomes }

-- what is kept of it
abbrev pub told_in : Channel → Told
told_in channel = record { verdict = option_map outcome_of channel.verdict; established = channel.established; packets = record { gap = channel.gap; size = channel.size }; moved = channel.moved }

abbrev pub blank : Channel
blank = record { verdict = None; established = false; gap = 1; size = 1; moved = None }

abbrev pub channel_in : List Channel → ChanNo → Channel
channel_in channels chan = get_or channels (channel_number chan) blank

-- what is kept is what was learnt
abbrev pub AreTold : List Channel → List Learnt → Type 0
AreTold channels outcomes = (chan : ChanNo) → told_in (channel_in channels chan) ≡ told_of chan outcomes

-- what was learnt is of channels below this number
abbrev pub IsOfChannelsBelow : ℕ → Learnt → Type 0
IsOfChannelsBelow count (Settles chan outcome) = channel_number chan < count
IsOfChannelsBelow count (PlannedOn chan gap size) = channel_number chan < count
IsOfChannelsBelow count (MovedTo old new told gap size) = (channel_number old < count) × (channel_number new < count)

-- whether a reply plans the packets of its submit
abbrev pub is_planned : Reply → Bool
is_planned (Planned clock) = true
is_planned _ = false
