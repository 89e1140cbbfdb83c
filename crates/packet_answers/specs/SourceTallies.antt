-- What is kept of the source of one channel while the entries of its first link are counted: the link's clock, the ticks for which packets
-- are planned, without those that were cancelled, and how many sends were refused. A tick that no clock of a run reaches isn't kept.
use Rattle.std.specs.Prelude.{◌≡◌, ℕ, if◌then◌else◌, List, ◌++◌, filter, reverse, take, true, false, Option, Some, None, ◌-◌}
use Rattle.net_units.specs.declared.numbers.ChanNo.{ChanNo}
use Rattle.traffic_contract.specs.Contract.{Traffic}
use Rattle.traffic_contract.specs.Keeping.{keeps_newest_first}
use Rattle.link_steps.specs.Scan.{clock_of}
use Rattle.link_steps.specs.declared.asks.Ask.{Ask}
use Rattle.link_steps.specs.declared.asks.Ask.TheVariants.{Submit, Release}
use Rattle.link_steps.specs.declared.replies.Entry.{Entry}
use Rattle.link_steps.specs.declared.replies.Reply.{Reply}
use Rattle.link_steps.specs.declared.replies.Reply.TheVariants.{Planned, Closing, Refused}
use Rattle.channel_report.specs.ChannelTallies.{never}
use Rattle.channel_report.specs.Sources.{is_channel, is_made, planned_in, refused_in, ticks_from}
use Rattle.packet_answers.specs.declared.sources.Act.{Act}
use Rattle.packet_answers.specs.declared.sources.Act.TheVariants.{Plans, Refuses, Cancels, Nothing}
use Rattle.packet_answers.specs.declared.sources.Source.{Source}

-- ---- what an entry does for one source

abbrev pub if_own : ℕ → ChanNo → Act → Act
if_own number chan act = if is_channel number chan then act else Nothing

abbrev pub act_for : ℕ → Ask → Reply → Act
act_for number (Submit chan count gap size) (Planned tick) = if_own number chan (Plans tick gap count)
act_for number (Submit chan count gap size) (Refused refusal) = if_own number chan Refuses
act_for number (Release chan upstream) (Closing count cancelled) = if_own number chan Cancels
act_for number _ _ = Nothing

-- the ticks that are planned after it, where the clock was t
abbrev pub planned_with : ℕ → List ℕ → Act → List ℕ
planned_with t planned (Plans tick gap count) = planned ++ ticks_from tick gap count
planned_with t planned Refuses = planned
planned_with t planned Cancels = filter (is_made t) planned
planned_with t planned Nothing = planned

-- how many sends it refuses
abbrev pub refused_with : Act → ℕ
refused_with (Plans tick gap count) = 0
refused_with Refuses = 1
refused_with Cancels = 0
refused_with Nothing = 0

-- ---- what is kept

-- of the source of the channel of this number, by a history of its first link
pub record KeepsSource (number : ℕ) (h : List Entry) (source : Source) : Type 0 where
  pub clock : source.clock ≡ clock_of h
  pub ticks : source.ticks.items ≡ filter (is_made never) (planned_in number h)
  pub refuses : source.refused ≡ refused_in number h

-- ---- with which packet a source breaks its contract

-- the packets before it keep the contract, and with it they don't; where there is none, all keep it
abbrev pub BreaksFrom : Traffic → List ℕ → Option ℕ → Type 0
BreaksFrom contract ticks None = keeps_newest_first contract (reverse ticks) ≡ true
BreaksFrom contract ticks (Some number) = (keeps_newest_first contract (reverse (take (number - 1) ticks)) ≡ true) × (keeps_newest_first contract (reverse (take number ticks)) ≡ false)
