-- What a setup comes to. A settled request is accepted exactly where every hop of its route has offered and the destination
-- denies nothing. An accepted one has a level of each hop, and its bound on the end-to-end delay is at most the one that was
-- asked for; under delay-jitter control the last hop's bound is at most the jitter bound. Each ask goes to a hop of the
-- route, and meets the conditions on an ask at every link that has this hop's bounds. Before a request settles, each hop
-- that has offered is asked once more, to give its row back or to relax.
use Rattle.std.specs.Prelude.{◌≡◌, ◌↔◌, ℕ, ◌≤◌, Bool, true, false, nat_lt, if◌then◌else◌, Some, None, List, length, drop}
use Rattle.std.specs.List.{slice_get}
use Rattle.net_units.specs.declared.numbers.LinkNo.{LinkNo}
use Rattle.traffic_contract.specs.Contract.{IsContract}
use Rattle.hop_reservation.specs.Offers.{AreLevels}
use Rattle.hop_reservation.specs.declared.route.Hop.{Hop}
use Rattle.link_steps.specs.Legal.{AskFits}
use Rattle.link_steps.specs.declared.asks.Ask.{Ask}
use Rattle.link_steps.specs.declared.shape.LinkShape.{LinkShape}
use Rattle.link_steps.specs.declared.replies.Reply.{Reply}
use Rattle.relaxation.specs.Allotment.{denial_of, bound_at_end, IsWithin}
use Rattle.relaxation.specs.Laws.{HaveBounds}
use Rattle.setup_protocol.specs.Requests.{jitter_of}
use Rattle.setup_protocol.specs.Setup.{Outcome, Accepts, Denies, offers_in, after_offers, next_ask, verdict_of}
use Rattle.setup_protocol.specs.State.{HaveLevels}
use Rattle.setup_protocol.specs.declared.request.Request.{Request}

-- whether the channel is established
abbrev pub is_accepted : Outcome → Bool
is_accepted (Accepts levels delay) = true
is_accepted (Denies deny) = false

-- every hop has offered, and the destination denies nothing
pub record IsPassed (request : Request) (replies : List Reply) : Type 0 where
  pub all_offer : length request.route ≤ length (offers_in replies)
  pub no_denial : denial_of request.route (offers_in replies) request.delay (jitter_of request.control) ≡ None

abbrev pub AcceptedWhereAllPass : Type 0
AcceptedWhereAllPass = (request : Request) (replies : List Reply) (outcome : Outcome)
    → verdict_of request replies ≡ Some outcome → (is_accepted outcome ≡ true) ↔ IsPassed request replies

-- an accepted request's levels keep what was asked for
pub record KeepsRequest (request : Request) (levels : List ℕ) (delay : ℕ) : Type 0 where
  pub have_levels : HaveLevels request.route levels
  pub in_time : delay ≤ request.delay
  pub in_jitter : IsWithin (jitter_of request.control) (bound_at_end request.route levels)

-- wherever the offers are levels of their hops
abbrev pub AcceptedKeepTheirBounds : Type 0
AcceptedKeepTheirBounds = (request : Request) (replies : List Reply) (levels : List ℕ) (delay : ℕ)
    → HaveBounds request.route → AreLevels request.route (offers_in replies) → verdict_of request replies ≡ Some (Accepts levels delay) → KeepsRequest request levels delay

-- an ask of a hop of the route, which meets its conditions at every link with that hop's bounds
pub record AsksHop (request : Request) (to : LinkNo) (ask : Ask) : Type 0 where
  pub index : ℕ
  pub hop : Hop
  pub stands : slice_get request.route index ≡ Some hop
  pub is_asked : to ≡ hop.link
  pub fits : (shape : LinkShape) → shape.bounds ≡ hop.bounds → AskFits shape ask

-- wherever the offers are levels of their hops
abbrev pub EverySetupAskFits : Type 0
EverySetupAskFits = (request : Request) (replies : List Reply) (to : LinkNo) (ask : Ask)
    → IsContract request.contract → HaveBounds request.route → AreLevels request.route (offers_in replies)
    → next_ask request replies ≡ Some (to, ask) → AsksHop request to ask

-- the replies on the way back: those after the refusal of a hop, or after the offers of all
abbrev pub replies_back : Request → List Reply → List Reply
replies_back request replies = if nat_lt (length (offers_in replies)) (length request.route) then drop 1 (after_offers replies) else after_offers replies

-- a settled request has as many of them as there were offers, at least. The offers are levels of their hops
abbrev pub EveryOfferIsAskedBack : Type 0
EveryOfferIsAskedBack = (request : Request) (replies : List Reply) (outcome : Outcome)
    → AreLevels request.route (offers_in replies) → verdict_of request replies ≡ Some outcome → length (offers_in replies) ≤ length (replies_back request replies)
