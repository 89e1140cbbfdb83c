-- A caller as it is kept: the task under way, the next operation, and what its requests came to. It stands for the replies that by
-- the rules bring a caller to this point. Something is kept of each request.
use Rattle.std.specs.Prelude.{◌≡◌, ◌≤◌, ℕ, if◌then◌else◌, Option, Some, None, IsSome, List, length, map, drop}
use Rattle.std.specs.List.{slice_get}
use Rattle.net_units.specs.Numbers.{actor_number}
use Rattle.link_steps.specs.declared.replies.Reply.{Reply}
use Rattle.setup_protocol.specs.declared.request.Request.{Request}
use Rattle.call_script.specs.Channels.{AreTold}
use Rattle.call_script.specs.Parts.{PlanParts}
use Rattle.call_script.specs.Scripts.{Learnt, Standing, ask_at, standing, standing_of, takes_step, ready}
use Rattle.call_script.specs.Tasks.{request_of, script_of, network_of, tasks_of}
use Rattle.call_script.specs.Work.{WorkStands}
use Rattle.call_script.specs.declared.actor.Actor.{Actor}
use Rattle.call_script.specs.declared.entries.CallerEntry.{CallerEntry}
use Rattle.call_script.specs.declared.operations.Op.{Op}
use Rattle.call_script.specs.declared.tasks.Task.{Task}

-- the requests of a plan
abbrev pub requests_of : PlanParts → List Request
requests_of parts = map request_of parts.requests

-- the actor, over these operations, is where a caller stands
pub record StandsAt (requests : List Request) (ops : List Op) (actor : Actor) (at : Standing) : Type 0 where
  pub under_way : WorkStands actor.work at.tasks at.replies
  pub rest : drop 1 at.tasks ≡ tasks_of requests (drop actor.next ops)
  pub within : actor.next ≤ length ops
  pub outcomes : AreTold actor.channels.by_number.items at.outcomes
  pub channels : length actor.channels.by_number.items ≡ length requests

-- the actor stands for the replies that its caller has got, newest first
pub record CallerStands (parts : PlanParts) (actor : Actor) (replies : List Reply) : Type 0 where
  pub caller : CallerEntry
  pub found : slice_get parts.callers (actor_number actor.caller) ≡ Some caller
  pub at : StandsAt (requests_of parts) caller.ops actor (standing (script_of (requests_of parts) caller) replies)

-- where a caller of a plan stands after its replies, newest first
abbrev pub standing_in : PlanParts → ℕ → List Reply → Standing
standing_in parts caller replies = standing_of (slice_get (network_of parts).scripts caller) replies

-- it stands so, and an ask is left
pub record HasAskLeft (parts : PlanParts) (actor : Actor) (replies : List Reply) : Type 0 where
  pub stands : CallerStands parts actor replies
  pub left : IsSome (ask_at (standing_in parts (actor_number actor.caller) replies))

-- ---- the next task that takes a step

-- the task, if it takes a step
abbrev pub if_step : List Learnt → Option Task → Option Task
if_step outcomes None = None
if_step outcomes (Some task) = if takes_step outcomes task then Some (ready outcomes task) else None
