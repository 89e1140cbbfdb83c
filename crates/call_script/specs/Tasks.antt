-- What a run goes over: the links as the rules see them, the requests, each caller's tasks in their order, and the rounds
-- of the plane, those after the callers included. A task is an operation with what it needs of the request of its
-- channel. (An operation whose request isn't there would be no task; a plan has none.)
use Rattle.std.specs.Prelude.{ℕ, ◌+◌, Option, Some, None, List, [], ◌∷◌, map, option_map}
use Rattle.std.specs.List.{slice_get}
use Rattle.net_units.specs.Numbers.{channel_number}
use Rattle.hop_reservation.specs.declared.route.Hop.{Hop}
use Rattle.link_steps.specs.Split.{Link}
use Rattle.setup_protocol.specs.declared.request.Request.{Request}
use Rattle.call_script.specs.Parts.{PlanParts}
use Rattle.call_script.specs.Splits.{entry_link, groups_in}
use Rattle.call_script.specs.declared.entries.RequestEntry.{RequestEntry}
use Rattle.call_script.specs.declared.entries.CallerEntry.{CallerEntry}
use Rattle.call_script.specs.declared.operations.Op.{Op}
use Rattle.call_script.specs.declared.operations.Op.TheVariants.{Open, Send, Close, Pour, Move}
use Rattle.call_script.specs.declared.tasks.Task.{Task}
use Rattle.call_script.specs.declared.tasks.Task.TheVariants.{Opens, Sends, Closes, Moves}

pub record Network : Type 0 where
  pub links : List Link
  pub requests : List Request
  pub scripts : List (List Task)
  pub rounds : ℕ

abbrev pub request_of : RequestEntry → Request
request_of entry = entry.request

-- the task for a request, if it is there
abbrev pub task_for : (Request → Option Task) → Option Request → Option Task
task_for own None = None
task_for own (Some request) = own request

-- packets of a request's channel are asked for at the first hop of its route
abbrev pub send_on : ℕ → ℕ → ℕ → Request → Option Task
send_on count gap size request = option_map (λ (hop : Hop). Sends hop.link (Some request.chan) count gap size) (slice_get request.route 0)

-- a move between two requests, if they are there; the gap and the size of its packets are told where it begins
abbrev pub move_for : Option Request → Option Request → Option Task
move_for None new = None
move_for (Some old) None = None
move_for (Some old) (Some new) = Some (Moves old new 1 1)

-- the task of an operation
abbrev pub task_of : List Request → Op → Option Task
task_of requests (Open chan) = option_map (λ request. Opens request) (slice_get requests (channel_number chan))
task_of requests (Send chan count gap size) = task_for (send_on count gap size) (slice_get requests (channel_number chan))
task_of requests (Close chan) = option_map (λ request. Closes request) (slice_get requests (channel_number chan))
task_of requests (Pour link count gap size) = Some (Sends link None count gap size)
task_of requests (Move old new) = move_for (slice_get requests (channel_number old)) (slice_get requests (channel_number new))

abbrev pub with_task : Option Task → List Task → List Task
with_task None tasks = tasks
with_task (Some task) tasks = task ∷ tasks

unfoldable pub tasks_of : List Request → List Op → List Task
tasks_of requests [] = []
tasks_of requests (op ∷ ops) = with_task (task_of requests op) (tasks_of requests ops)

abbrev pub script_of : List Request → CallerEntry → List Task
script_of requests caller = tasks_of requests caller.ops

-- what a plan's run goes over
unfoldable pub network_of : PlanParts → Network
network_of parts = record {
  links = map (entry_link (groups_in parts)) parts.links;
  requests = map request_of parts.requests;
  scripts = map (script_of (map request_of parts.requests)) parts.callers;
  rounds = parts.rounds + parts.tail;
}
