-- What a network guarantees at any moment of a run, in whatever order its actors make their steps. On every link the rows that are
-- held pass the admission test, and each packet of a channel leaves within the bound of its level. Past the first hop each packet
-- that arrives is taken, whatever its source does. No packet of a source that keeps its contract is dropped. Only accepted channels
-- have packets, and at each hop they are numbered from 1 and have the level with which the channel was accepted there. A packet of an accepted channel is
-- eligible at each hop within the delays of the hops before, has departed once the hop's clock has reached its bound, and reaches its
-- destination within the delay that was asked for. Under delay-jitter control the delays of any two packets of a channel whose source
-- keeps its contract differ by less than the bound of the last hop, which is within the jitter that was asked for.
use Rattle.std.specs.Prelude.{◌≡◌, ℕ, suc, ◌+◌, ◌<◌, ◌≤◌, true, IsTrue, Some, List, length, get_or}
use Rattle.std.specs.List.{slice_get}
use Rattle.net_units.specs.Numbers.{link_number, channel_number}
use Rattle.net_units.specs.declared.Kind.TheVariants.{Jitter}
use Rattle.hop_reservation.specs.Offers.{delay_over}
use Rattle.link_steps.specs.declared.asks.Ask.{Ask}
use Rattle.link_steps.specs.declared.asks.Ask.TheVariants.{Arrive}
use Rattle.link_steps.specs.declared.replies.Entry.{Entry}
use Rattle.link_steps.specs.declared.replies.Reply.{Reply}
use Rattle.link_steps.specs.declared.replies.Reply.TheVariants.{Taken}
use Rattle.link_steps.specs.declared.shape.LinkShape.{LinkShape}
use Rattle.link_steps.specs.HopGuarantee.{HeldRowsPass, deadline_of}
use Rattle.link_steps.specs.Lists.{Each, Among}
use Rattle.link_steps.specs.Scan.{clock_of, starts_of}
use Rattle.link_steps.specs.Service.{Arrival, Start, leaves_at, has_departed}
use Rattle.link_steps.specs.SourceGuarantee.{SourceGuarantee}
use Rattle.link_steps.specs.Split.{Link}
use Rattle.setup_protocol.specs.Hops.{RequestFits}
use Rattle.setup_protocol.specs.Laws.{KeepsRequest}
use Rattle.setup_protocol.specs.Requests.{kind_of}
use Rattle.setup_protocol.specs.Setup.{Accepts}
use Rattle.setup_protocol.specs.declared.request.Request.{Request}
use Rattle.channel_laws.specs.Channels.{is_of_channel, AreNumberedAfter}
use Rattle.channel_laws.specs.Sources.{SourceIsKept}
use Rattle.call_script.specs.Owners.{OwnedFully}
use Rattle.call_script.specs.Scripts.{Standing, standing, outcome_in}
use Rattle.call_script.specs.Tasks.{Network}
use Rattle.call_script.specs.declared.tasks.Task.{Task}
use Rattle.run_record.specs.Runs.{part_of, replies_to}
use Rattle.run_record.specs.declared.done.Done.{Done}
use Rattle.run_engine.specs.channels.Hops.{packets_on}
use Rattle.run_engine.specs.channels.Paths.{HopAt, clock_at, scan_at, starts_at, departs_at, reaches_at, bound_of, packets_at, count_at, eligible_at, arrived_at, delay_of, delay_before, PathKept}

-- ---- one link

-- A packet that the link has taken is of one of its levels. Where it has departed by the clock, it did so after its eligible tick, and at
-- most the bound of its level later. Once the clock has reached that bound, it has departed
pub record LeavesWithinBound (shape : LinkShape) (h : List Entry) (p : Arrival) : Type 0 where
  pub level_least : 1 ≤ p.level
  pub level_most : p.level ≤ length shape.bounds
  pub after : (start : Start) → Among start (starts_of shape h) → start.packet ≡ p → leaves_at shape.rate start ≤ clock_of h
      → p.eligible < leaves_at shape.rate start
  pub within : (start : Start) → Among start (starts_of shape h) → start.packet ≡ p → leaves_at shape.rate start ≤ clock_of h
      → leaves_at shape.rate start ≤ deadline_of shape p
  pub gone : deadline_of shape p ≤ clock_of h → IsTrue (has_departed shape.rate (starts_of shape h) (clock_of h) p)

-- an arrival is taken
abbrev pub TakesArrive : Ask → Reply → Type 0
TakesArrive (Arrive packet) reply = (clock : ℕ) × (eligible : ℕ) × (reply ≡ Taken clock eligible)
TakesArrive _ reply = Unit {0}

-- ---- channels with packets

-- the caller that stands there knows the request to be accepted
pub record IsAccepted (request : Request) (at : Standing) : Type 0 where
  pub levels : List ℕ
  pub delay : ℕ
  pub is : outcome_in request.chan at.outcomes ≡ Some (Accepts levels delay)

-- its owner knows the request to be accepted
abbrev pub AcceptedIn : Network → Request → ℕ → List Done → Type 0
AcceptedIn network request owner run =
    (tasks : List Task) → slice_get network.scripts owner ≡ Some tasks → IsAccepted request (standing tasks (replies_to owner run))

-- the packet is of an accepted channel, and the link of this number is a hop of its route
pub record IsOfAccepted (network : Network) (run : List Done) (n : ℕ) (p : Arrival) : Type 0 where
  pub request : Request
  pub owner : ℕ
  pub sound : RequestFits network.links request
  pub full : OwnedFully network request owner
  pub chan : channel_number request.chan ≡ channel_number p.chan
  pub index : ℕ
  pub hop : HopAt network request index
  pub on : link_number hop.hop.link ≡ n
  pub accepted : AcceptedIn network request owner run

-- what holds of each link. A packet of a channel is one with a number: best-effort packets have none
pub record LinkGuaranteed (network : Network) (run : List Done) (n : ℕ) (link : Link) : Type 0 where
  -- the held rows pass the admission test
  pub rows_pass : HeldRowsPass link.shape (part_of n run)
  -- each packet of a channel leaves in time
  pub leaves_in_time : Each (λ p. 1 ≤ p.number → LeavesWithinBound link.shape (part_of n run) p) (packets_on link n run)
  -- a source that keeps its contract finds buffer: none of its packets is dropped
  pub finds_buffer : SourceGuarantee link.shape (part_of n run)
  -- each packet of a channel is of an accepted one
  pub accepted : Each (λ p. 1 ≤ p.number → IsOfAccepted network run n p) (packets_on link n run)

-- ---- one accepted channel

-- its source has kept its contract so far
abbrev pub SourceKept : (network : Network) (request : Request) → HopAt network request 0 → List Done → Type 0
SourceKept network request first run = SourceIsKept (channel_number request.chan) (clock_at first run) (scan_at first run)

-- the packet with index k has left the hop, and this is its start
pub record HasLeft (network : Network) (request : Request) (i : ℕ) (at : HopAt network request i) (run : List Done) (k : ℕ) (start : Start) : Type 0 where
  pub among : Among start (starts_at at run)
  pub own : is_of_channel (channel_number request.chan) start.packet ≡ true
  pub number : start.packet.number ≡ suc k
  pub left : departs_at at start ≤ clock_at at run

-- the hop has taken the packet with index k, and the packet has departed from it
pub record DepartedAt (network : Network) (request : Request) (i : ℕ) (at : HopAt network request i) (run : List Done) (k : ℕ) : Type 0 where
  pub there : k < count_at network request i at run
  pub departed : (p : Arrival) → slice_get (packets_at network request i at run) k ≡ Some p
      → has_departed at.link.shape.rate (starts_at at run) (clock_at at run) p ≡ true

-- What holds of an accepted channel with these levels and this delay. The first hop is named, since the delays count from it
pub record ChannelGuaranteed (network : Network) (request : Request) (levels : List ℕ) (delay : ℕ) (first : HopAt network request 0) (run : List Done) : Type 0 where
  -- the delay is the sum of the bounds of its levels and of the propagations; it and the bound of the last hop are within what was asked for
  pub sum : delay ≡ delay_over request.route levels
  pub keeps : KeepsRequest request levels delay
  -- the packets that a hop has taken are numbered from 1 in their order, so that the one with index k has the number k + 1
  pub numbered : (i : ℕ) (at : HopAt network request i) → AreNumberedAfter 0 (packets_at network request i at run)
  -- at each hop its packets have the accepted level, so that they leave within the bound that the sum counts
  pub has_levels : (i : ℕ) (at : HopAt network request i) → Each (λ p. p.level ≡ get_or levels i 0) (packets_at network request i at run)
  -- path: at each hop its packets are eligible, and leave, within the delay so far
  pub path : PathKept network request levels run
  -- a packet has departed from a hop once the hop's clock has reached its bound there, less the propagation
  pub departs : (i : ℕ) (at : HopAt network request i) (k : ℕ) → k < count_at network request 0 first run
      → eligible_at first run k + delay_before request levels (suc i) ≤ clock_at at run + at.link.shape.prop → DepartedAt network request i at run k
  -- delay: a packet that has left the last hop is at the destination by its eligible tick at the first hop and the delay
  pub arrives : (i : ℕ) (at : HopAt network request i) (k : ℕ) (start : Start) → suc i ≡ length request.route → HasLeft network request i at run k start
      → reaches_at at start ≤ eligible_at first run k + delay
  -- where the source keeps its contract, that tick is the one in which the packet arrived, so that its delay is at most this one
  pub at_once : SourceKept network request first run → (k : ℕ) → eligible_at first run k ≡ arrived_at first run k
  pub in_time : SourceKept network request first run → (i : ℕ) (at : HopAt network request i) (k : ℕ) (start : Start) → suc i ≡ length request.route
      → HasLeft network request i at run k start → delay_of first at run k start ≤ delay
  -- jitter: then, under delay-jitter control, the delays of two packets up to a hop differ by less than the hop's bound
  pub close : kind_of request.control ≡ Jitter → SourceKept network request first run → (i : ℕ) (at : HopAt network request i) (j k : ℕ) (one other : Start)
      → HasLeft network request i at run j one → HasLeft network request i at run k other
      → delay_of first at run j one < delay_of first at run k other + bound_of at levels

-- ---- the whole guarantee

pub record Guaranteed (network : Network) (run : List Done) : Type 0 where
  -- each link
  pub links : (n : ℕ) (link : Link) → slice_get network.links n ≡ Some link → LinkGuaranteed network run n link
  -- each packet that arrives from another link is taken
  pub arrives : Each (λ done. TakesArrive done.ask done.reply) run
  -- each channel whose owner knows it to be accepted
  pub channels : (request : Request) (owner : ℕ) (tasks : List Task) (levels : List ℕ) (delay : ℕ) (first : HopAt network request 0)
      → RequestFits network.links request → OwnedFully network request owner → slice_get network.scripts owner ≡ Some tasks
      → outcome_in request.chan (standing tasks (replies_to owner run)).outcomes ≡ Some (Accepts levels delay)
      → ChannelGuaranteed network request levels delay first run
