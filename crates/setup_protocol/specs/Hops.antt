-- A hop of a route goes over one of the links of a network: it has the bounds and the propagation of that link. A request fits a
-- network when each hop of its route does so.
use Rattle.std.specs.Prelude.{◌≡◌, Some, List}
use Rattle.std.specs.List.{slice_get}
use Rattle.net_units.specs.Numbers.{link_number}
use Rattle.traffic_contract.specs.Contract.{IsContract}
use Rattle.hop_reservation.specs.Routes.{IsRoute}
use Rattle.hop_reservation.specs.declared.route.Hop.{Hop}
use Rattle.link_steps.specs.Lists.{Each}
use Rattle.link_steps.specs.Split.{Link}
use Rattle.relaxation.specs.Laws.{HaveBounds}
use Rattle.setup_protocol.specs.declared.request.Request.{Request}

pub record IsHopOf (links : List Link) (hop : Hop) : Type 0 where
  pub link : Link
  pub linked : slice_get links (link_number hop.link) ≡ Some link
  pub bounds : hop.bounds ≡ link.shape.bounds
  pub prop : hop.prop ≡ link.shape.prop

-- a request fits these links: its contract is one, and so is its route, each hop of which goes over one of them
pub record RequestFits (links : List Link) (request : Request) : Type 0 where
  pub contract : IsContract request.contract
  pub bounds : HaveBounds request.route
  pub route : IsRoute request.route
  pub hops : Each (IsHopOf links) request.route
