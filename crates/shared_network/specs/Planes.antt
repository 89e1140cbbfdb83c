-- The plane of a network makes its rounds with a pass. The arrives and ticks among the pass's own entries are, in their order, what
-- the plane has asked, each after the replies of those before it, and the plane stands where these replies bring it. A step of the
-- plane adds its next ask, with the link's reply, which the plane has then taken.
use Rattle.std.specs.Prelude.{◌≡◌, ℕ, Bool, true, false, Option, Some, List, [], ◌∷◌, map, filter, reverse}
use Rattle.net_units.specs.declared.numbers.LinkNo.{LinkNo}
use Rattle.link_steps.specs.declared.asks.Ask.{Ask}
use Rattle.link_steps.specs.declared.asks.Ask.TheVariants.{Arrive, Tick}
use Rattle.link_steps.specs.declared.replies.Reply.{Reply}
use Rattle.tick_plane.specs.PlaneAccount.{PlaneAccount}
use Rattle.tick_plane.specs.Planes.{plane_ask, plane_after, plane_of}
use Rattle.link_ledger.specs.Tokens.{Token}
use Rattle.link_ledger.specs.declared.entries.OwnEntry.{OwnEntry}
use Rattle.shared_network.specs.Added.{Adds}
use Rattle.shared_network.specs.Calls.{Follows, reply_in}

-- a packet arrives, or a link ticks
abbrev pub is_round : Ask → Bool
is_round (Arrive packet) = true
is_round Tick = true
is_round _ = false

-- the arrives and ticks among own entries
abbrev pub rounds_in : List OwnEntry → List OwnEntry
rounds_in own = filter (λ (e : OwnEntry). is_round e.ask) own

-- what a plane of this many links and rounds asks next after these replies
abbrev pub next_round : ℕ → ℕ → List Reply → Option (LinkNo × Ask)
next_round links rounds replies = plane_ask rounds (plane_of links (reverse replies))

-- the arrives and ticks are the plane's, of a network of this many links, and it has taken their replies
pub record IsPlanes (links : ℕ) (plane : PlaneAccount) (own : List OwnEntry) : Type 0 where
  pub follows : Follows (next_round links plane.rounds) [] (rounds_in own)
  pub stands : plane.at ≡ plane_of links (reverse (map reply_in (rounds_in own)))

-- the pass has made the plane's next ask, and the plane has taken the reply
pub record MakesRound (plane plane' : PlaneAccount) (pass pass' : Token) (reply : Reply) : Type 0 where
  pub link : LinkNo
  pub ask : Ask
  pub asked : plane_ask plane.rounds plane.at ≡ Some (link, ask)
  pub adds : Adds pass pass' (record { link = link; ask = ask; reply = reply } ∷ [])
  pub taken : plane'.at ≡ plane_after plane.links reply plane.at
  pub links_are : plane'.links ≡ plane.links
  pub rounds_are : plane'.rounds ≡ plane.rounds
