-- The network of the tour: two links in a row, with the levels 10, 20 and 40 and a propagation of 2, and one channel over both, which
-- actor 0 owns. Its plane is actor 1. And what the passes of the two actors may do.
use Rattle.std.specs.Prelude.{◌≡◌, ℕ, ◌<◌, List, [], ◌∷◌, length, map}
use Rattle.atomic_table.specs.Seated.{TableId}
use Rattle.net_units.specs.Numbers.{actor_number, channel_number, link_number}
use Rattle.net_units.specs.declared.numbers.ActorNo.{ActorNo}
use Rattle.hop_reservation.specs.declared.route.Hop.{Hop}
use Rattle.link_steps.specs.Lists.{Each}
use Rattle.link_steps.specs.Split.{Link}
use Rattle.link_ledger.specs.Tokens.{Token}
use Rattle.setup_protocol.specs.declared.request.Request.{Request}
use Rattle.shared_network.specs.Planes.{IsPlanes}
use Rattle.shared_network.specs.Ready.{IsNew, MayStep}
use Rattle.shared_network.specs.Worked.{IsWorkedLink}
use Rattle.tick_plane.specs.PlaneAccount.{PlaneAccount}

pub record IsTour (links : List Link) (owners : List ActorNo) : Type 0 where
  pub two : length links ≡ 2
  pub worked : Each (λ (link : Link). IsWorkedLink link.shape) links
  pub owned : map actor_number owners ≡ 0 ∷ []

-- a hop over one of the two links
pub record IsTourHop (hop : Hop) : Type 0 where
  pub link : link_number hop.link < 2
  pub bounds : hop.bounds ≡ 10 ∷ 20 ∷ 40 ∷ []
  pub prop : hop.prop ≡ 2

pub record IsTourRequest (request : Request) : Type 0 where
  pub chan : channel_number request.chan ≡ 0
  pub hops : Each IsTourHop request.route

-- the pass of this actor, one of two, has made no step
pub record IsNewOf (table : TableId) (owners : List ActorNo) (links : List Link) (actor : ℕ) (pass : Token) : Type 0 where
  pub new : IsNew table owners links 2 pass
  pub actor_is : actor_number pass.actor ≡ actor

-- it may close the network with the other
pub record MayClose (table : TableId) (owners : List ActorNo) (links : List Link) (actor : ℕ) (pass : Token) : Type 0 where
  pub may_step : MayStep table owners links pass
  pub among : pass.view.among ≡ 2
  pub actor_is : actor_number pass.actor ≡ actor

-- the plane may go on with its pass
pub record PlaneGoes (table : TableId) (owners : List ActorNo) (links : List Link) (plane : PlaneAccount) (pass : Token) : Type 0 where
  pub may_close : MayClose table owners links 1 pass
  pub links_are : plane.links ≡ length links
  pub rounds_are : plane.rounds ≡ 50
  pub planes : IsPlanes (length links) plane pass.own
