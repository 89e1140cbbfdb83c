-- The hops of a channel in a run: its packets at the links of its route, and what is asked there for it.
use Rattle.std.specs.Prelude.{◌≡◌, ℕ, suc, ◌+◌, ◌<◌, ◌≤◌, nat_eq, Some, List, option_map}
use Rattle.net_units.specs.LevelBounds.{bound_at}
use Rattle.std.specs.List.{slice_get}
use Rattle.net_units.specs.Numbers.{link_number, channel_number}
use Rattle.hop_reservation.specs.declared.route.Hop.{Hop}
use Rattle.link_steps.specs.Scan.{scan_of}
use Rattle.link_steps.specs.Service.{Arrival}
use Rattle.link_steps.specs.Split.{Link}
use Rattle.setup_protocol.specs.Requests.{kind_of}
use Rattle.setup_protocol.specs.Setup.{hop_link}
use Rattle.setup_protocol.specs.declared.request.Request.{Request}
use Rattle.channel_laws.specs.Channels.{HopTerms, AllOfferTerms, offers_to}
use Rattle.link_steps.specs.Lists.{Among}
use Rattle.call_script.specs.Tasks.{Network}
use Rattle.tick_plane.specs.declared.flight.Flight.{Flight}
use Rattle.run_record.specs.Runs.{part_of}
use Rattle.run_record.specs.declared.done.Done.{Done}

-- the packets that the link of this number has taken
abbrev pub packets_on : Link → ℕ → List Done → List Arrival
packets_on link n run = (scan_of link.shape (part_of n run)).packets

-- what the reserve at the hop of this index names
abbrev pub terms_at : Request → ℕ → HopTerms
terms_at request i = record { contract = request.contract; kind = kind_of request.control; first = nat_eq i 0; next = option_map hop_link (slice_get request.route (suc i)) }

-- a hop of the route is over the link of this number
pub record OnRoute (request : Request) (n : ℕ) : Type 0 where
  pub index : ℕ
  pub hop : Hop
  pub stands : slice_get request.route index ≡ Some hop
  pub number : link_number hop.link ≡ n

-- what a run asks for a channel: each reserve names the hop's terms; no link offers to it twice; and only those of its
-- route do
pub record ChannelAsked (request : Request) (run : List Done) : Type 0 where
  pub names : (i : ℕ) (hop : Hop) → slice_get request.route i ≡ Some hop → AllOfferTerms (terms_at request i) (channel_number request.chan) (part_of (link_number hop.link) run)
  pub once : (n : ℕ) → offers_to (channel_number request.chan) (part_of n run) ≤ 1
  pub on : (n : ℕ) → 1 ≤ offers_to (channel_number request.chan) (part_of n run) → OnRoute request n

-- a flight is of a packet that a link has taken and that left it within its bound
pub record ComesFrom (network : Network) (run : List Done) (flight : Flight) : Type 0 where
  pub n : ℕ
  pub link : Link
  pub linked : slice_get network.links n ≡ Some link
  pub taken : Arrival
  pub among : Among taken (packets_on link n run)
  pub chan : flight.packet.chan ≡ taken.chan
  pub number : flight.packet.number ≡ taken.number
  pub numbered : 1 ≤ taken.number
  pub size : flight.packet.size ≡ taken.size
  pub due : flight.packet.due ≡ taken.eligible + bound_at link.shape.bounds taken.level + link.shape.prop
  pub in_time : flight.round ≤ flight.packet.due
  pub passed : taken.eligible + link.shape.prop < flight.round
  pub next : taken.next ≡ Some flight.to
