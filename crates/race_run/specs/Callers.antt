-- Where a caller stands between two operations of its script, by the own entries of its pass. These are what its tasks so far have
-- asked, each after the replies before it. A channel that no task so far names has no entry. One that was accepted, and neither
-- closed nor left by a move yet, is established. And what it has learnt of the packets that were planned last on a channel is what
-- its entries say.
use Rattle.std.specs.Prelude.{◌≡◌, ◌≢◌, ℕ, true, Some, List, ◌++◌, map, reverse, take, drop, length, ◌<◌, ◌≤◌}
use Rattle.std.specs.List.{slice_get}
use Rattle.net_units.specs.Numbers.{actor_number, channel_number}
use Rattle.net_units.specs.declared.numbers.ActorNo.{ActorNo}
use Rattle.net_units.specs.declared.numbers.ChanNo.{ChanNo}
use Rattle.link_steps.specs.Legal.{SubmitFits}
use Rattle.link_steps.specs.Lists.{Each}
use Rattle.link_steps.specs.Split.{Link}
use Rattle.step_stamp.specs.Lists.{Has}
use Rattle.setup_protocol.specs.declared.request.Request.{Request}
use Rattle.link_ledger.specs.Tokens.{Token}
use Rattle.link_ledger.specs.declared.entries.OwnEntry.{OwnEntry}
use Rattle.shared_network.specs.Calls.{HasNone, IsEstablished, reply_in}
use Rattle.shared_network.specs.Shifts.{NoneSubmitted, WerePlanned}
use Rattle.call_script.specs.Owners.{PacketsOff, TaskOff}
use Rattle.call_script.specs.Parts.{PlanParts}
use Rattle.call_script.specs.Scripts.{Learnt, begun, is_established, last_packets, standing}
use Rattle.call_script.specs.Standing.{requests_of}
use Rattle.call_script.specs.Tasks.{Network, network_of, tasks_of}
use Rattle.call_script.specs.declared.entries.CallerEntry.{CallerEntry}
use Rattle.call_script.specs.declared.entries.RequestEntry.{RequestEntry}
use Rattle.call_script.specs.declared.operations.Op.{Op}
use Rattle.call_script.specs.declared.tasks.Task.{Task}
use Rattle.call_script.specs.declared.tasks.Task.TheVariants.{Opens, Sends, Closes, Moves}
use Rattle.run_engine.specs.runs.Parts.{IsAsked}
use Rattle.call_script.specs.Channels.{AreTold}
use Rattle.race_run.specs.Whole.{own_done}
use Rattle.call_script.specs.declared.channels.Channel.{Channel}

-- the task doesn't close the channel of this number
abbrev pub LeavesOpen : ℕ → Task → Type 0
LeavesOpen c (Opens request) = Unit {0}
LeavesOpen c (Sends link chan count gap size) = Unit {0}
LeavesOpen c (Closes request) = channel_number request.chan ≢ c
LeavesOpen c (Moves old new gap size) = Unit {0}

-- it neither sends nor moves packets to it
abbrev pub LeavesUnsent : ℕ → Task → Type 0
LeavesUnsent c (Opens request) = Unit {0}
LeavesUnsent c (Sends link chan count gap size) = PacketsOff c chan
LeavesUnsent c (Closes request) = Unit {0}
LeavesUnsent c (Moves old new gap size) = channel_number new.chan ≢ c

-- what was learnt of the packets that were planned last: they are the last ones that the own entries tell, each within its limits
-- and within the contract of its request. Nothing was submitted on a channel to which no task so far sends or moves packets
pub record PacketsStand (requests : List Request) (front : List Task) (own : List OwnEntry) (outcomes : List Learnt) : Type 0 where
  pub last : (chan : ChanNo) → WerePlanned chan (last_packets chan outcomes).gap (last_packets chan outcomes).size own
  pub range : (chan : ChanNo) → SubmitFits 1 (last_packets chan outcomes).gap (last_packets chan outcomes).size
  pub small : (c : ℕ) (request : Request) → slice_get requests c ≡ Some request → (last_packets request.chan outcomes).size ≤ request.contract.smax
  pub unsent : (chan : ChanNo) → Each (LeavesUnsent (channel_number chan)) front → NoneSubmitted chan own

-- of the tasks, those of `front` are done. `channels` is what was learnt of each channel
pub record StandsBetween (network : Network) (front rest : List Task) (pass : Token) (channels : List Channel) : Type 0 where
  pub outcomes : List Learnt
  pub asked : IsAsked network (actor_number pass.actor) (reverse (map (own_done pass.actor) pass.own))
  pub stands : standing (front ++ rest) (reverse (map reply_in pass.own)) ≡ begun outcomes rest
  pub known : AreTold channels outcomes
  pub fresh : (chan : ChanNo) → Each (TaskOff (channel_number chan)) front → HasNone chan pass.own
  pub live : (request : Request) → Has (Opens request) front → Each (LeavesOpen (channel_number request.chan)) front → is_established request.chan outcomes ≡ true → IsEstablished request pass.own
  pub packets : PacketsStand network.requests front pass.own outcomes

-- the caller of this number has done its first operations, as many as `place`
pub record CallerIsAt (parts : PlanParts) (caller place : ℕ) (pass : Token) (channels : List Channel) : Type 0 where
  pub entry : CallerEntry
  pub found : slice_get parts.callers caller ≡ Some entry
  pub is : actor_number pass.actor ≡ caller
  pub all : length channels ≡ length parts.requests
  pub between : StandsBetween (network_of parts) (tasks_of (requests_of parts) (take place entry.ops)) (tasks_of (requests_of parts) (drop place entry.ops)) pass channels

-- it has an operation left, and it is this one
pub record HasLeft (parts : PlanParts) (caller place : ℕ) : Type 0 where
  pub entry : CallerEntry
  pub found : slice_get parts.callers caller ≡ Some entry
  pub inside : place < length entry.ops

-- it has `count` operations in all
pub record HasOps (parts : PlanParts) (caller count : ℕ) : Type 0 where
  pub entry : CallerEntry
  pub found : slice_get parts.callers caller ≡ Some entry
  pub all : length entry.ops ≡ count

pub record HasOp (parts : PlanParts) (caller place : ℕ) (op : Op) : Type 0 where
  pub entry : CallerEntry
  pub found : slice_get parts.callers caller ≡ Some entry
  pub here : slice_get entry.ops place ≡ Some op

-- ---- the network that a race is over

abbrev pub caller_of : RequestEntry → ActorNo
caller_of entry = entry.caller

-- its links are the plan's, and its owners the callers of the plan's requests
pub record IsNetworkOf (parts : PlanParts) (links : List Link) (owners : List ActorNo) : Type 0 where
  pub links_are : links ≡ (network_of parts).links
  pub owners_are : owners ≡ map caller_of parts.requests
