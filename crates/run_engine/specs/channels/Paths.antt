-- The path of a channel over the links of a network: the hops of its route, what their links have done so far, its packets there, and
-- how far these are behind the first hop. Packets are counted from 0 here: the one with index k has the number k + 1.
use Rattle.std.specs.Prelude.{◌≡◌, ℕ, suc, ◌+◌, ◌-◌, ◌<◌, ◌≤◌, true, Some, List, length, map, get_or, take}
use Rattle.std.specs.List.{slice_get}
use Rattle.net_units.specs.LevelBounds.{bound_at}
use Rattle.net_units.specs.Numbers.{link_number, channel_number}
use Rattle.net_units.specs.declared.Kind.TheVariants.{Jitter}
use Rattle.hop_reservation.specs.Offers.{delay_over}
use Rattle.hop_reservation.specs.declared.route.Hop.{Hop}
use Rattle.link_steps.specs.declared.replies.Entry.{Entry}
use Rattle.link_steps.specs.Scan.{Scan, clock_of, scan_of, starts_of}
use Rattle.link_steps.specs.Service.{Arrival, Start, leaves_at}
use Rattle.link_steps.specs.SourceGuarantee.{arrival_of}
use Rattle.link_steps.specs.Split.{Link}
use Rattle.link_steps.specs.Lists.{Among}
use Rattle.setup_protocol.specs.Requests.{kind_of}
use Rattle.setup_protocol.specs.declared.request.Request.{Request}
use Rattle.channel_laws.specs.Channels.{is_of_channel, channel_packets, ticks_at}
use Rattle.call_script.specs.Tasks.{Network}
use Rattle.run_record.specs.Runs.{part_of}
use Rattle.run_record.specs.declared.done.Done.{Done}
use Rattle.run_engine.specs.channels.Hops.{packets_on}

-- the hop of a route over a link of the network
pub record HopAt (network : Network) (request : Request) (i : ℕ) : Type 0 where
  pub hop : Hop
  pub stands : slice_get request.route i ≡ Some hop
  pub link : Link
  pub linked : slice_get network.links (link_number hop.link) ≡ Some link
  pub bounds : hop.bounds ≡ link.shape.bounds
  pub prop : hop.prop ≡ link.shape.prop

-- ---- what the link of a hop has done so far

-- what it was asked, and what it answered
abbrev pub history_at : {network : Network} {request : Request} {i : ℕ} → HopAt network request i → List Done → List Entry
history_at at run = part_of (link_number at.hop.link) run

-- how many ticks it has made
abbrev pub clock_at : {network : Network} {request : Request} {i : ℕ} → HopAt network request i → List Done → ℕ
clock_at at run = clock_of (history_at at run)

-- its rows and the packets that it has taken
abbrev pub scan_at : {network : Network} {request : Request} {i : ℕ} → HopAt network request i → List Done → Scan
scan_at at run = scan_of at.link.shape (history_at at run)

-- the packets that it has started
abbrev pub starts_at : {network : Network} {request : Request} {i : ℕ} → HopAt network request i → List Done → List Start
starts_at at run = starts_of at.link.shape (history_at at run)

-- the tick at which a packet that has started departs
abbrev pub departs_at : {network : Network} {request : Request} {i : ℕ} → HopAt network request i → Start → ℕ
departs_at at start = leaves_at at.link.shape.rate start

-- and the one at which it is at the far end of the link
abbrev pub reaches_at : {network : Network} {request : Request} {i : ℕ} → HopAt network request i → Start → ℕ
reaches_at at start = departs_at at start + at.link.shape.prop

-- the bound of the level that the hop has among these
abbrev pub bound_of : {network : Network} {request : Request} {i : ℕ} → HopAt network request i → List ℕ → ℕ
bound_of {i = i} at levels = bound_at at.link.shape.bounds (get_or levels i 0)

-- ---- the packets of the channel at a hop

abbrev pub packets_at : (network : Network) (request : Request) (i : ℕ) → HopAt network request i → List Done → List Arrival
packets_at network request i at run = channel_packets (channel_number request.chan) (packets_on at.link (link_number at.hop.link) run)

-- how many the hop has taken
abbrev pub count_at : (network : Network) (request : Request) (i : ℕ) → HopAt network request i → List Done → ℕ
count_at network request i at run = length (packets_at network request i at run)

-- the ticks in which they are eligible, in their order
abbrev pub hop_ticks : (network : Network) (request : Request) (i : ℕ) → HopAt network request i → List Done → List ℕ
hop_ticks network request i at run = ticks_at (channel_number request.chan) (packets_on at.link (link_number at.hop.link) run)

-- and those in which they arrived at the first hop
abbrev pub arrival_ticks : (network : Network) (request : Request) → HopAt network request 0 → List Done → List ℕ
arrival_ticks network request first run = map arrival_of (packets_at network request 0 first run)

-- when the packet with index k is eligible at a hop
abbrev pub eligible_at : {network : Network} {request : Request} {i : ℕ} → HopAt network request i → List Done → ℕ → ℕ
eligible_at {network = network} {request = request} {i = i} at run k = get_or (hop_ticks network request i at run) k 0

-- and when it arrived at the first hop
abbrev pub arrived_at : {network : Network} {request : Request} → HopAt network request 0 → List Done → ℕ → ℕ
arrived_at {network = network} {request = request} first run k = get_or (arrival_ticks network request first run) k 0

-- the delay of the packet with index k, which has started at a hop: from its arrival at the first hop to the far end of this one
abbrev pub delay_of : {network : Network} {request : Request} {i : ℕ} → HopAt network request 0 → HopAt network request i → List Done → ℕ → Start → ℕ
delay_of first at run k start = reaches_at at start - arrived_at first run k

-- ---- how far a hop is behind the first one

-- the ticks of a hop, each at most this much behind that of the hop before
pub record IsBehind (shift : ℕ) (before ticks : List ℕ) : Type 0 where
  pub fewer : length ticks ≤ length before
  pub after : (k : ℕ) → k < length ticks → get_or ticks k 0 ≤ get_or before k 0 + shift

-- the delay over the first hops
abbrev pub delay_before : Request → List ℕ → ℕ → ℕ
delay_before request levels i = delay_over request.route (take i levels)

-- a packet of the channel that has left a hop: its index, and when it was eligible at the first hop
pub record Passed (network : Network) (request : Request) (levels : List ℕ) (run : List Done) (first : HopAt network request 0)
    (i : ℕ) (at : HopAt network request i) (start : Start) : Type 0 where
  pub index : ℕ
  pub number : start.packet.number ≡ suc index
  pub within : index < count_at network request 0 first run
  pub in_time : reaches_at at start ≤ eligible_at first run index + delay_before request levels (suc i)
  pub later : kind_of request.control ≡ Jitter → eligible_at first run index + delay_before request levels i < departs_at at start

-- what an accepted channel gets: at each hop its packets are eligible at most the delay over the hops before behind the first hop,
-- and under delay-jitter control exactly so much; and one that has left a hop is at its far end within the delay so far
pub record PathKept (network : Network) (request : Request) (levels : List ℕ) (run : List Done) : Type 0 where
  pub in_time : (first : HopAt network request 0) (i : ℕ) (at : HopAt network request i)
      → IsBehind (delay_before request levels i) (hop_ticks network request 0 first run) (hop_ticks network request i at run)
  pub exact : kind_of request.control ≡ Jitter → (first : HopAt network request 0) (i : ℕ) (at : HopAt network request i) (k : ℕ)
      → k < count_at network request i at run → eligible_at first run k + delay_before request levels i ≤ eligible_at at run k
  pub passed_on : (first : HopAt network request 0) (i : ℕ) (at : HopAt network request i) (start : Start)
      → Among start (starts_at at run) → departs_at at start ≤ clock_at at run
      → is_of_channel (channel_number request.chan) start.packet ≡ true → Passed network request levels run first i at start
