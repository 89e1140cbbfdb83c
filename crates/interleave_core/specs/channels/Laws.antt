-- Laws of the channels of every run of a network whose parts fit: what accepted ones keep, and the whole guarantee.
use Rattle.std.specs.Prelude.{◌≡◌, ℕ, Some, List}
use Rattle.std.specs.List.{slice_get}
use Rattle.setup_protocol.specs.Hops.{RequestFits}
use Rattle.setup_protocol.specs.Setup.{Accepts}
use Rattle.setup_protocol.specs.declared.request.Request.{Request}
use Rattle.call_script.specs.Fits.{NetworkFits}
use Rattle.call_script.specs.Owners.{OwnedFully, AllOwned}
use Rattle.call_script.specs.Parts.{PlanParts}
use Rattle.call_script.specs.Plans.{IsPlan}
use Rattle.call_script.specs.Scripts.{standing, outcome_in}
use Rattle.call_script.specs.Tasks.{Network, network_of}
use Rattle.call_script.specs.declared.tasks.Task.{Task}
use Rattle.interleave_core.specs.channels.Guarantee.{Guaranteed}
use Rattle.interleave_core.specs.channels.Kept.{VerdictSums}
use Rattle.run_engine.specs.channels.Hops.{ChannelAsked}
use Rattle.run_engine.specs.channels.Paths.{PathKept}
use Rattle.run_engine.specs.runs.Laws.{AfterEachEntry}
use Rattle.run_engine.specs.runs.Runs.{IsRun}
use Rattle.run_record.specs.Runs.{replies_to}
use Rattle.run_record.specs.declared.done.Done.{Done}

-- where a channel has one owner, its reserves name the terms of their hops, and each link of its route offers to it at most once
abbrev pub EveryChannelIsAskedOnce : Type 0
EveryChannelIsAskedOnce = (network : Network) (request : Request) (owner : ℕ) (run : List Done) → NetworkFits network → RequestFits network.links request → OwnedFully network request owner → IsRun network run → ChannelAsked request run

-- ---- accepted channels

-- where the caller of a request knows it accepted, its levels and its delay keep what it asks for
abbrev pub AcceptedRequestsAreKept : Type 0
AcceptedRequestsAreKept = (network : Network) (request : Request) (owner : ℕ) (run : List Done) (tasks : List Task) (levels : List ℕ) (delay : ℕ) → NetworkFits network → RequestFits network.links request → OwnedFully network request owner → IsRun network run → slice_get network.scripts owner ≡ Some tasks
    → outcome_in request.chan (standing tasks (replies_to owner run)).outcomes ≡ Some (Accepts levels delay) → VerdictSums request levels delay

-- where the caller of a request knows it accepted, its packets keep to the delays of the levels that it was accepted with
abbrev pub AcceptedChannelsKeepTheirDelays : Type 0
AcceptedChannelsKeepTheirDelays = (network : Network) (request : Request) (owner : ℕ) (run : List Done) (tasks : List Task) (levels : List ℕ) (delay : ℕ) → NetworkFits network → RequestFits network.links request → OwnedFully network request owner → IsRun network run → slice_get network.scripts owner ≡ Some tasks
    → outcome_in request.chan (standing tasks (replies_to owner run)).outcomes ≡ Some (Accepts levels delay) → PathKept network request levels run

-- ---- the whole guarantee

-- every run is guaranteed, at its beginning and after each of its entries
abbrev pub EveryRunIsGuaranteed : Type 0
EveryRunIsGuaranteed = (network : Network) (run : List Done) → NetworkFits network → AllOwned network → IsRun network run → AfterEachEntry (Guaranteed network) run

-- the run is one of the plan, with the whole guarantee at its beginning and after each of its entries
pub record IsGuaranteedRun (parts : PlanParts) (run : List Done) : Type 0 where
  pub run_is : IsRun (network_of parts) run
  pub guaranteed : AfterEachEntry (Guaranteed (network_of parts)) run

-- so every run of a plan is guaranteed
abbrev pub EveryRunOfAPlanIsGuaranteed : Type 0
EveryRunOfAPlanIsGuaranteed = (parts : PlanParts) (run : List Done) → IsPlan parts → IsRun (network_of parts) run → IsGuaranteedRun parts run
