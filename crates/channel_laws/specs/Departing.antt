-- What leaves a link in a tick. A tick reports the packet of a channel that leaves at its end, if one does. That packet is the
-- one that started last. It was eligible before it left, and left within the bound of its level.
use Rattle.std.specs.Prelude.{◌≡◌, ◌≢◌, ℕ, suc, ◌<◌, ◌≤◌, Bool, Some, List, ◌∷◌, length, filter}
use Rattle.net_units.specs.Numbers.{channel_number}
use Rattle.link_steps.specs.declared.asks.Ask.TheVariants.{Tick}
use Rattle.link_steps.specs.declared.replies.Entry.{Entry}
use Rattle.link_steps.specs.declared.replies.Reply.{Reply}
use Rattle.link_steps.specs.declared.replies.Reply.TheVariants as Is
use Rattle.link_steps.specs.declared.replies.Sent.{Sent}
use Rattle.link_steps.specs.declared.shape.LinkShape.{LinkShape}
use Rattle.link_steps.specs.HopGuarantee.{deadline_of}
use Rattle.link_steps.specs.Replies.{sent_of, tick_reply}
use Rattle.link_steps.specs.Scan.{clock_of, scan_of, starts_of}
use Rattle.link_steps.specs.Service.{Arrival, Start, leaves_at, starts_below, has_departed}
use Rattle.link_steps.specs.Lists.{Among}
use Rattle.channel_laws.specs.Channels.{channel_packets}

-- the history with one tick more
abbrev pub ticked : LinkShape → List Entry → List Entry
ticked shape h = record { ask = Tick; reply = tick_reply shape (clock_of h) (scan_of shape h) } ∷ h

-- the start of a packet that leaves at the end of the tick
pub record IsSent (shape : LinkShape) (h : List Entry) (sent : Sent) : Type 0 where
  pub start : Start
  pub earlier : List Start
  pub head : starts_of shape (ticked shape h) ≡ start ∷ earlier
  pub among : Among start (starts_of shape (ticked shape h))
  pub leaves : leaves_at shape.rate start ≡ suc (clock_of h)
  pub is : sent ≡ sent_of shape start
  pub size_least : 1 ≤ start.packet.size
  pub size_most : start.packet.size ≤ shape.cap
  pub level_least : 1 ≤ start.packet.level
  pub level : start.packet.level ≤ length shape.bounds
  pub after : start.packet.eligible < leaves_at shape.rate start
  pub within : leaves_at shape.rate start ≤ deadline_of shape start.packet

-- how many packets of a channel have departed by a tick
abbrev pub gone_count : LinkShape → ℕ → List Arrival → ℕ → ℕ
gone_count shape c packets t = length (filter (has_departed shape.rate (starts_below shape.rate packets t) t) (channel_packets c packets))

-- and after a history
abbrev pub gone_of : LinkShape → ℕ → List Entry → ℕ
gone_of shape c h = gone_count shape c (scan_of shape h).packets (clock_of h)

-- what a tick sends of a channel, and what it makes of the count
pub data TickSends (shape : LinkShape) (c : ℕ) (h : List Entry) (reply : Reply) : Type 0 where
  SendsOwn : (sent : Sent) (clock full : ℕ) (best_sent best_lost : Bool) → reply ≡ Is.Ticked clock full (Some sent) best_sent best_lost → channel_number sent.packet.chan ≡ c → IsSent shape h sent → sent.packet.number ≡ suc (gone_of shape c h) → gone_of shape c (ticked shape h) ≡ suc (gone_of shape c h) → TickSends shape c h reply
  SendsOther : ((sent : Sent) (clock full : ℕ) (best_sent best_lost : Bool) → reply ≡ Is.Ticked clock full (Some sent) best_sent best_lost → channel_number sent.packet.chan ≢ c) → gone_of shape c (ticked shape h) ≡ gone_of shape c h → TickSends shape c h reply
