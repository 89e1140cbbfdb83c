-- A history is legal when each of its asks meets the conditions on an ask, and each of its replies is the legal one
-- after the history before it. The conditions are the limits of the numbers: counts, gaps and sizes are at least 1
-- and within the limits of a send, a level is one of the link's, the bounds before are within the limit of a bound,
-- a channel's first hop has no bound before it, and a packet is due below tick 2^62. A contract is one whose four
-- numbers are within their limits, as every `Contract` is.
use Rattle.std.specs.Prelude.{◌≡◌, ℕ, ◌^◌, ◌<◌, ◌≤◌, Bool, true, List, [], ◌∷◌, length}
use Rattle.net_units.specs.Numbers.{level_number}
use Rattle.net_units.specs.Limits.{most_bound, most_gap, most_packets, most_size}
use Rattle.traffic_contract.specs.Contract.{Traffic, IsContract}
use Rattle.link_steps.specs.declared.asks.Ask.{Ask}
use Rattle.link_steps.specs.declared.asks.Ask.TheVariants.{Reserve, Relax, Deny, Submit, Release, Arrive, Tick, Pour}
use Rattle.link_steps.specs.declared.asks.Packet.{Packet}
use Rattle.link_steps.specs.declared.replies.Entry.{Entry}
use Rattle.link_steps.specs.declared.shape.LinkShape.{LinkShape}
use Rattle.link_steps.specs.Replies.{reply_to}
use Rattle.link_steps.specs.Split.{Link}

-- the conditions on a reserve, with this contract and this reach before it
pub record ReserveFits (contract : Traffic) (up_reach : ℕ) (first : Bool) : Type 0 where
  pub is_contract : IsContract contract
  pub reach_most : up_reach ≤ most_bound
  pub nothing_before : first ≡ true → up_reach ≡ 0

-- on a relax to this level, of `levels`, with this bound before it
pub record RelaxFits (levels level up_bound : ℕ) : Type 0 where
  pub level_most : level ≤ levels
  pub bound_most : up_bound ≤ most_bound

-- on a submit of `count` packets, one every gap, of this size
pub record SubmitFits (count gap size : ℕ) : Type 0 where
  pub count_least : 1 ≤ count
  pub count_most : count ≤ most_packets
  pub gap_least : 1 ≤ gap
  pub gap_most : gap ≤ most_gap
  pub size_least : 1 ≤ size
  pub size_most : size ≤ most_size

-- and on a packet that arrives
pub record PacketFits (packet : Packet) : Type 0 where
  pub size_least : 1 ≤ packet.size
  pub size_most : packet.size ≤ most_size
  pub due_most : packet.due < 2 ^ 62

-- the ask meets the conditions at a link of this shape
abbrev pub AskFits : LinkShape → Ask → Type 0
AskFits shape (Reserve chan contract kind delay up_reach first next) = ReserveFits contract up_reach first
AskFits shape (Relax chan level up_bound) = RelaxFits (length shape.bounds) (level_number level) up_bound
AskFits shape (Deny chan) = Unit {0}
AskFits shape (Submit chan count gap size) = SubmitFits count gap size
AskFits shape (Release chan upstream) = Unit {0}
AskFits shape (Arrive packet) = PacketFits packet
AskFits shape Tick = Unit {0}
AskFits shape (Pour count gap size) = (1 ≤ shape.best) × SubmitFits count gap size

-- an entry is legal after the history before it
pub record IsLegalAfter (link : Link) (past : List Entry) (e : Entry) : Type 0 where
  pub fits : AskFits link.shape e.ask
  pub answered : e.reply ≡ reply_to link past e.ask

-- the history, newest first, is legal at this link
unfoldable pub IsLegal : Link → List Entry → Type 0
IsLegal link [] = Unit {0}
IsLegal link (e ∷ past) = IsLegal link past × IsLegalAfter link past e
