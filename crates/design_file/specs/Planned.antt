-- The plan of a design has a link for each of the design's and a request for each of its streams, in their order. Links have the numbers of
-- their places, and so have the channels of requests; a request's route is over the links that its stream names. The caller with the number of
-- its stream's group opens it, the first one where it has none.
use Rattle.std.specs.Prelude.{ℕ, ◌≡◌, ◌<◌, ◌≤◌, Some, List, [], ◌∷◌, ◌++◌, length}
use Rattle.std.specs.List.{AllZip, slice_get}
use Rattle.net_units.specs.Numbers.{link_number, actor_number, channel_number}
use Rattle.link_steps.specs.Lists.{Each}
use Rattle.hop_reservation.specs.declared.route.Hop.{Hop}
use Rattle.call_script.specs.declared.entries.LinkEntry.{LinkEntry}
use Rattle.call_script.specs.declared.entries.RequestEntry.{RequestEntry}
use Rattle.call_script.specs.Parts.{PlanParts, FollowsLink}
use Rattle.design_text.specs.declared.design.Design.{Design}
use Rattle.design_text.specs.declared.design.DesignLink.{DesignLink}
use Rattle.design_text.specs.declared.design.DesignStream.{DesignStream}
use Rattle.design_text.specs.declared.design.Way.{Way}
use Rattle.design_text.specs.declared.design.Way.TheVariants.{Over, Between}
use Rattle.scenario_reader.specs.Nodes.{LinksAreNumbered, route_between}
use Rattle.field_units.specs.Rounding.{delay_in, traffic_of}
use Rattle.design_file.specs.Rounded.{control_in, IsLinkOf}

-- the links of a plan are those of a design, rounded, have the numbers of their places, and are 32 at most
pub record AreLinksOf (tick unit : ℕ) (links : List DesignLink) (entries : List LinkEntry) : Type 0 where
  pub each : AllZip (IsLinkOf tick unit) links entries
  pub numbered : LinksAreNumbered entries
  pub few : length entries ≤ 32

-- a list of links with one more
pub record AddsLink (tick unit : ℕ) (link : DesignLink) (old new : List LinkEntry) : Type 0 where
  pub entry : LinkEntry
  pub added : new ≡ old ++ entry ∷ []
  pub rounded : IsLinkOf tick unit link entry
  pub number : link_number entry.shape.link ≡ length old
  pub few : length old < 32

-- a hop is over the link of this name, and has its bounds and its propagation
pub record IsHopOver (links : List LinkEntry) (name : List ℕ) (hop : Hop) : Type 0 where
  pub entry : LinkEntry
  pub found : slice_get links (link_number hop.link) ≡ Some entry
  pub named : entry.name ≡ name
  pub bounds : hop.bounds ≡ entry.shape.bounds
  pub prop : hop.prop ≡ entry.shape.prop

-- a route is over the links that a stream names, or the least one between its nodes, as a reader of scenarios finds it; and its hops have the
-- bounds and the propagations of their links
abbrev pub IsOnWay : List LinkEntry → Way → List Hop → Type 0
IsOnWay links (Over names) route = AllZip (IsHopOver links) names.items route
IsOnWay links (Between from to) route = route_between links from to ≡ Some route

pub record IsWay (links : List LinkEntry) (way : Way) (route : List Hop) : Type 0 where
  pub on : IsOnWay links way route
  pub follows : Each (FollowsLink links) route

-- a plan's request is a design's stream, rounded, over its way
pub record IsRequestOf (tick unit : ℕ) (links : List LinkEntry) (stream : DesignStream) (entry : RequestEntry) : Type 0 where
  pub name : entry.name ≡ stream.name
  pub contract : entry.request.contract ≡ traffic_of tick unit stream.source
  pub delay : entry.request.delay ≡ delay_in tick stream.within.picoseconds
  pub control : entry.request.control ≡ control_in tick stream.jitter
  pub way : IsWay links stream.way entry.request.route
  pub caller : actor_number entry.caller ≡ stream.group

-- requests have the channels of their places
unfoldable pub AreInOrder : List RequestEntry → Type 0
AreInOrder requests = (n : ℕ) (entry : RequestEntry) → slice_get requests n ≡ Some entry → channel_number entry.request.chan ≡ n

-- the requests of a plan are the streams of a design, rounded, in their order
pub record AreRequestsOf (tick unit : ℕ) (links : List LinkEntry) (streams : List DesignStream) (entries : List RequestEntry) : Type 0 where
  pub each : AllZip (IsRequestOf tick unit links) streams entries
  pub numbered : AreInOrder entries

-- a list of requests with that of one more stream
pub record AddsRequest (tick unit : ℕ) (links : List LinkEntry) (stream : DesignStream) (old new : List RequestEntry) : Type 0 where
  pub entry : RequestEntry
  pub added : new ≡ old ++ entry ∷ []
  pub rounded : IsRequestOf tick unit links stream entry
  pub number : channel_number entry.request.chan ≡ length old

-- a plan is a design's at this tick and unit: its links and its requests are the design's links and streams, rounded, in their order, and its groups
-- are the design's
pub record IsPlanOf (tick unit : ℕ) (design : Design) (plan : PlanParts) : Type 0 where
  pub links : AllZip (IsLinkOf tick unit) design.links.items plan.links
  pub requests : AllZip (IsRequestOf tick unit plan.links) design.streams.items plan.requests
  pub groups : plan.groups ≡ design.groups.items
