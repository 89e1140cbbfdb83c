-- Words for the networks that are worked by hand: their links have the levels 10, 20 and 40 and a propagation of 2, and each channel
-- has one hop.
use Rattle.std.specs.Prelude.{◌≡◌, ◌≢◌, ◌≤◌, ℕ, List, [], ◌∷◌, length}
use Rattle.atomic_table.specs.Seated.{TableId}
use Rattle.net_units.specs.Numbers.{channel_number, link_number}
use Rattle.net_units.specs.declared.numbers.ActorNo.{ActorNo}
use Rattle.hop_reservation.specs.declared.route.Hop.{Hop}
use Rattle.link_steps.specs.Lists.{Each}
use Rattle.link_steps.specs.Split.{Link}
use Rattle.link_steps.specs.declared.shape.LinkShape.{LinkShape}
use Rattle.setup_protocol.specs.declared.request.Request.{Request}
use Rattle.link_ledger.specs.Owners.{IsOwner}
use Rattle.link_ledger.specs.Tokens.{Token, stamps_drawn}
use Rattle.shared_network.specs.Calls.{HasNone, IsEstablished}
use Rattle.shared_network.specs.Shifts.{NoneSubmitted, WerePlanned}
use Rattle.setup_protocol.specs.Hops.{IsHopOf}
use Rattle.shared_network.specs.Ready.{MayStep, IsNew}

pub record IsWorkedLink (shape : LinkShape) : Type 0 where
  pub bounds : shape.bounds ≡ 10 ∷ 20 ∷ 40 ∷ []
  pub prop : shape.prop ≡ 2

-- a hop over the link of this number
pub record IsOverLink (l : ℕ) (hop : Hop) : Type 0 where
  pub link_is : link_number hop.link ≡ l
  pub bounds : hop.bounds ≡ 10 ∷ 20 ∷ 40 ∷ []
  pub prop : hop.prop ≡ 2

-- a pass that has made no step may set the channel of this request up
pub record IsJob (table : TableId) (owners : List ActorNo) (links : List Link) (pass : Token) (request : Request) : Type 0 where
  pub may_step : MayStep table owners links pass
  pub drawn : pass.view.drawn ≡ []
  pub owned : IsOwner owners pass.actor request.chan
  pub new : HasNone request.chan pass.own
  pub hops : Each (IsHopOf links) request.route

-- a pass that has made no step may set both channels up, and plan packets of 2 units on the first
pub record MayPlan (table : TableId) (owners : List ActorNo) (links : List Link) (pass : Token) (left joined : Request) : Type 0 where
  pub new : IsNew table owners links 2 pass
  pub some : 1 ≤ length links
  pub owned_left : IsOwner owners pass.actor left.chan
  pub owned_joined : IsOwner owners pass.actor joined.chan
  pub hops_left : Each (IsHopOf links) left.route
  pub hops_joined : Each (IsHopOf links) joined.route
  pub apart : channel_number joined.chan ≢ channel_number left.chan
  pub small : 2 ≤ joined.contract.smax

-- and it may then move them, one every 10 ticks, to the other
pub record MayMove (table : TableId) (owners : List ActorNo) (links : List Link) (pass : Token) (left joined : Request) : Type 0 where
  pub may_step : MayStep table owners links pass
  pub few : stamps_drawn pass ≤ 65
  pub owned_left : IsOwner owners pass.actor left.chan
  pub owned_joined : IsOwner owners pass.actor joined.chan
  pub hops_left : Each (IsHopOf links) left.route
  pub hops_joined : Each (IsHopOf links) joined.route
  pub apart : channel_number joined.chan ≢ channel_number left.chan
  pub small : 2 ≤ joined.contract.smax
  pub left_open : IsEstablished left pass.own
  pub joined_open : IsEstablished joined pass.own
  pub unsent : NoneSubmitted joined.chan pass.own
  pub planned : WerePlanned left.chan 10 2 pass.own
