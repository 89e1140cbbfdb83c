-- What a call adds to the own entries of a pass: each ask that it makes, with its link's reply, in order. And what every call leaves
-- unchanged in the pass.
use Rattle.std.specs.Prelude.{◌≡◌, ℕ, ◌+◌, ◌<◌, ◌≤◌, true, List, ◌++◌, length, map}
use Rattle.net_units.specs.declared.numbers.LinkNo.{LinkNo}
use Rattle.link_steps.specs.declared.asks.Ask.{Ask}
use Rattle.link_steps.specs.declared.replies.Reply.{Reply}
use Rattle.link_steps.specs.Lists.{Each}
use Rattle.link_ledger.specs.Tokens.{Token, last_seen, stamps_drawn}
use Rattle.link_ledger.specs.declared.entries.OwnEntry.{OwnEntry}

-- an own entry without its stamp and its place: which link was asked what, and the reply
pub record Asked : Type 0 where
  pub link : LinkNo
  pub ask : Ask
  pub reply : Reply

abbrev pub asked_in : OwnEntry → Asked
asked_in e = record { link = e.link; ask = e.ask; reply = e.reply }

-- the pass has its own entries and then exactly these
pub record Adds (pass pass' : Token) (added : List Asked) : Type 0 where
  pub entries : List OwnEntry
  pub own : pass'.own ≡ pass.own ++ entries
  pub are : map asked_in entries ≡ added

-- the pass has its own entries and then some whose stamps are above this number, which it has seen
pub record AddsAbove (least : ℕ) (pass pass' : Token) : Type 0 where
  pub entries : List OwnEntry
  pub own : pass'.own ≡ pass.own ++ entries
  pub above : Each (λ (e : OwnEntry). least < e.stamp) entries
  pub seen : least ≤ last_seen pass'

-- it is the same pass: its actor, its stamps, and its seat
pub record IsSamePass (pass pass' : Token) : Type 0 where
  pub actor : pass'.actor ≡ pass.actor
  pub table : pass'.table ≡ pass.table
  pub has_seat : pass'.has_seat ≡ true

-- after want of memory no step is made with the pass any more. It has drawn one stamp beyond its entries at most
pub record IsLost (pass : Token) : Type 0 where
  pub spent : pass.spent ≡ true
  pub few : stamps_drawn pass ≤ length pass.own + 1
