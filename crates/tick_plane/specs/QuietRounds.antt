-- Rounds in which nothing arrives. Where the plane is at the start of a round, and no flight is due in it nor in those that follow up to
-- some round, it asks for ticks alone until then. Where no packet leaves for another link in them either, it stands at that round
-- with the flights that it had.
use Rattle.std.specs.Prelude.{◌≡◌, ℕ, zero, suc, ◌+◌, ◌*◌, ◌≤◌, List, [], ◌++◌, length}
use Rattle.net_units.specs.declared.numbers.LinkNo.{LinkNo}
use Rattle.link_steps.specs.Lists.{Each}
use Rattle.link_steps.specs.declared.asks.Ask.{Ask}
use Rattle.link_steps.specs.declared.replies.Reply.{Reply}
use Rattle.tick_plane.specs.Coming.{IsDueFrom}
use Rattle.tick_plane.specs.Planes.{Plane, flight_in}
use Rattle.tick_plane.specs.Rounds.{AskedInTurn, ticks_from}

-- it is at the start of a round, has n rounds left, and none of its flights is due in them
pub record HasQuietRounds (rounds n : ℕ) (plane : Plane) : Type 0 where
  pub starts : plane.ticked ≡ 0
  pub left : plane.round + n ≤ rounds
  pub none : Each (IsDueFrom (plane.round + n)) plane.flights

-- n rounds later, with the same flights
abbrev pub rounds_later : ℕ → Plane → Plane
rounds_later n plane = record plane { round = plane.round + n }

-- ---- the law

-- no packet leaves for another link with the reply
abbrev pub IsStill : Reply → Type 0
IsStill reply = flight_in reply ≡ []

-- the ticks of n rounds of this many links
unfoldable pub ticks_in : ℕ → ℕ → List (LinkNo × Ask)
ticks_in zero links = []
ticks_in (suc n) links = ticks_from 0 links ++ ticks_in n links

-- in n quiet rounds the plane asks for their ticks in turn; and where no packet leaves with a reply, it stands n rounds later
abbrev pub QuietRoundsAreTicksAlone : Type 0
QuietRoundsAreTicksAlone = (links rounds n : ℕ) (plane : Plane) (replies : List Reply) → 1 ≤ links → HasQuietRounds rounds n plane → length replies ≡ n * links → Each IsStill replies → AskedInTurn links rounds plane (ticks_in n links) replies (rounds_later n plane)
