-- A network as callers see it: its links as the rules see them, and the owner of each channel. No call changes them. The
-- links stand in the order of their numbers.
use Rattle.std.specs.Prelude.{◌≡◌, ℕ, List, [], length}
use Rattle.atomic_table.specs.Seated.{TableId}
use Rattle.net_units.specs.declared.numbers.ActorNo.{ActorNo}
use Rattle.link_steps.specs.Legal.{AskFits}
use Rattle.link_steps.specs.Lists.{Each}
use Rattle.link_steps.specs.Split.{Link, SplitFits}
use Rattle.link_steps.specs.declared.asks.Ask.{Ask}
use Rattle.link_steps.specs.declared.asks.Ask.TheVariants.{Submit, Pour}
use Rattle.step_stamp.specs.Lists.{up_to}
use Rattle.step_stamp.specs.Seats.{link_table, list_of}
use Rattle.step_stamp.specs.declared.seats.LinkSeat.{LinkSeat}
use Rattle.link_ledger.specs.Tokens.{IsLink}

pub record Sight : Type 0 where
  pub links : List Link
  pub owners : List ActorNo

-- what a network keeps: its stamps are those of the table, its locked links have the numbers from 0 on, and each link's split
-- fits the link
pub record IsNetwork (table : TableId) (links : List Link) (stamps : TableId) (numbers : List ℕ) : Type 0 where
  pub table_is : stamps ≡ table
  pub numbers_are : numbers ≡ up_to (length links)
  pub splits : Each SplitFits links

-- an ask meets the conditions on an ask at the link of this number
abbrev pub FitsAt : List Link → ℕ → Ask → Type 0
FitsAt links l ask = (link : Link) → IsLink links l link → AskFits link.shape ask

-- packets are sent, of a channel or best-effort ones
abbrev pub IsSend : Ask → Type 0
IsSend (Submit chan count gap size) = Unit {0}
IsSend (Pour count gap size) = Unit {0}
IsSend _ = ⊥

-- a link's seat of this table, at which nothing was entered
pub record IsUnusedLink (table : TableId) (seat : LinkSeat) : Type 0 where
  pub from_table : link_table seat ≡ table
  pub empty : list_of seat ≡ []
