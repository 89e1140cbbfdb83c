-- What each hop is asked on the way back, and whether it can refuse. Each hop that has offered is asked once more: to give
-- its row back where the request is denied, or to relax to the level that it is allotted. A hop refuses a relax that is
-- below its offer or beyond its reach, or whose bound before it is over the one that its reserve carried. No hop refuses
-- so where each offer states the reach that a link states: the largest level whose bound is within the delay asked for, or
-- within that of the level offered, if that is larger. A channel is released hop by hop: each ask of a teardown goes to
-- the hop of its route that is next.
use Rattle.std.specs.Prelude.{◌≡◌, ℕ, suc, ◌<◌, ◌≤◌, true, Some, List, [], ◌∷◌, ◌++◌, length, take}
use Rattle.std.specs.List.{slice_get}
use Rattle.net_units.specs.Numbers.{level_number}
use Rattle.net_units.specs.declared.numbers.ChanNo.{ChanNo}
use Rattle.net_units.specs.declared.numbers.Level.{Level}
use Rattle.net_units.specs.declared.numbers.LinkNo.{LinkNo}
use Rattle.net_units.specs.LevelBounds.{reach_of}
use Rattle.hop_reservation.specs.Offers.{AreLevels}
use Rattle.hop_reservation.specs.declared.route.Hop.{Hop}
use Rattle.link_steps.specs.Legal.{AskFits}
use Rattle.link_steps.specs.declared.asks.Ask.{Ask}
use Rattle.link_steps.specs.declared.asks.Ask.TheVariants.{Relax, Release, Deny as GiveBack}
use Rattle.link_steps.specs.declared.replies.Reply.{Reply}
use Rattle.link_steps.specs.declared.shape.LinkShape.{LinkShape}
use Rattle.relaxation.specs.Laws.{HaveBounds}
use Rattle.setup_protocol.specs.Setup.{Outcome, Accepts, Denies, is_offer, level_in, reach_in, offers_in, reach_after, reserve_of, relax_of, next_ask, verdict_of}
use Rattle.setup_protocol.specs.Teardown.{first_count, next_release}
use Rattle.setup_protocol.specs.declared.request.Request.{Request}

-- ---- each hop is asked back

-- what the hop at a place, from 0, is asked on the way back to this outcome
abbrev pub back_of : Request → ℕ → Outcome → Ask
back_of request index (Denies deny) = GiveBack request.chan
back_of request index (Accepts levels delay) = relax_of request levels (suc index)

-- after the first of these replies the hop was asked so, and it replied
pub record IsAskedBack (request : Request) (replies : List Reply) (hop : Hop) (ask : Ask) : Type 0 where
  pub before : List Reply
  pub reply : Reply
  pub after : List Reply
  pub split : replies ≡ before ++ reply ∷ after
  pub is_asked : next_ask request before ≡ Some (hop.link, ask)

-- so each hop that has offered, before the request settles. The offers are levels of their hops
abbrev pub EveryHopIsAskedBack : Type 0
EveryHopIsAskedBack = (request : Request) (replies : List Reply) (outcome : Outcome) (index : ℕ) (hop : Hop)
    → AreLevels request.route (offers_in replies) → verdict_of request replies ≡ Some outcome
    → index < length (offers_in replies) → slice_get request.route index ≡ Some hop → IsAskedBack request replies hop (back_of request index outcome)

-- ---- no relax is unfit

-- the offers at the start of the replies tell the reach of their hops
unfoldable pub TellReaches : ℕ → List Hop → List Reply → Type 0
TellReaches delay hops [] = Unit {0}
TellReaches delay [] (reply ∷ replies) = Unit {0}
TellReaches delay (hop ∷ hops) (reply ∷ replies) = is_offer reply ≡ true → (reach_in reply ≡ reach_of hop.bounds delay (level_in reply)) × TellReaches delay hops replies

-- a relax goes to a hop of the route, which has made this offer to a reserve; its level lies from the offered one to the
-- reach told, and the bound before it is at most the one that the reserve carried
pub record IsFitRelax (request : Request) (replies : List Reply) (to : LinkNo) (level up_bound : ℕ) : Type 0 where
  pub index : ℕ
  pub hop : Hop
  pub offer : Reply
  pub stands : slice_get request.route index ≡ Some hop
  pub is_asked : to ≡ hop.link
  pub reserved : next_ask request (take index replies) ≡ Some (hop.link, reserve_of request (offers_in (take index replies)) (reach_after 0 request.route (take index replies)))
  pub replied : slice_get replies index ≡ Some offer
  pub offered : is_offer offer ≡ true
  pub from_offer : level_in offer ≤ level
  pub up_to_reach : level ≤ reach_in offer
  pub within_before : up_bound ≤ reach_after 0 request.route (take index replies)

-- so each relax of a setup
abbrev pub EveryRelaxIsFit : Type 0
EveryRelaxIsFit = (request : Request) (replies : List Reply) (to : LinkNo) (chan : ChanNo) (level : Level) (up_bound : ℕ)
    → HaveBounds request.route → AreLevels request.route (offers_in replies) → TellReaches request.delay request.route replies
    → next_ask request replies ≡ Some (to, Relax chan level up_bound) → IsFitRelax request replies to (level_number level) up_bound

-- ---- releases

-- a release of the hop that is next, with the count that the first hop has told
pub record IsReleaseOfHop (chan : ChanNo) (route : List Hop) (replies : List Reply) (to : LinkNo) (ask : Ask) : Type 0 where
  pub hop : Hop
  pub stands : slice_get route (length replies) ≡ Some hop
  pub is_asked : to ≡ hop.link
  pub releases : ask ≡ Release chan (first_count replies)
  pub fits : (shape : LinkShape) → AskFits shape ask

-- so each ask of a teardown
abbrev pub EveryReleaseGoesToItsHop : Type 0
EveryReleaseGoesToItsHop = (chan : ChanNo) (route : List Hop) (replies : List Reply) (to : LinkNo) (ask : Ask)
    → next_release chan route replies ≡ Some (to, ask) → IsReleaseOfHop chan route replies to ask
