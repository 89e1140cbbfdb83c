-- A caller of a plan learns of its requests' channels alone: their numbers are below the count of the requests.
use Rattle.std.proofs.Common.{◌≡◌, ℕ, ◌<◌, List, [], ◌∷◌, ◌++◌, length, Option, Some, None, refl, sym, ◌∙◌, subst, inl, inr, option_map}
use Rattle.std.proofs.lemmas.Bool.{cases_Bool}
use Rattle.std.proofs.lemmas.Option.{slice_get_within, slice_get-map}
use Rattle.std.specs.List.{slice_get}
use Rattle.net_units.specs.Numbers.{channel_number}
use Rattle.net_units.specs.declared.numbers.ChanNo.{ChanNo}
use Rattle.net_units.specs.declared.numbers.LinkNo.{LinkNo}
use Rattle.channel_move.specs.Moving.{first_told}
use Rattle.channel_move.specs.declared.shifted.Shifted.{Shifted}
use Rattle.link_steps.specs.Lists.{Each}
use Rattle.link_steps.specs.declared.asks.Ask.{Ask}
use Rattle.link_steps.specs.declared.replies.Reply.{Reply}
use Rattle.link_steps.specs.declared.replies.Reply.TheVariants as Is
use Rattle.setup_protocol.specs.Setup.{Outcome, verdict_of}
use Rattle.setup_protocol.specs.declared.request.Request.{Request}
use Rattle.call_script.specs.Channels.{IsOfChannelsBelow}
use Rattle.call_script.specs.Parts.{PlanParts, ArePlanned}
use Rattle.call_script.specs.Scripts.{Learnt, Standing, takes_step, ready, from_step, settled_as, planned_as, moved_as, outcome_by, continued, resumed, standing, task_ask}
use Rattle.call_script.specs.Standing.{requests_of}
use Rattle.call_script.specs.Tasks.{request_of, tasks_of}
use Rattle.call_script.specs.Work.{IsFinished}
use Rattle.call_script.specs.declared.entries.RequestEntry.{RequestEntry}
use Rattle.call_script.specs.declared.operations.Op.{Op}
use Rattle.call_script.specs.declared.tasks.Task.{Task}
use Rattle.call_script.specs.declared.tasks.Task.TheVariants.{Opens, Sends, Closes, Moves}
use Rattle.call_script.proofs.OperationTable.{tasks-hold}
use Rattle.call_script.proofs.TaskBegins.{ready-keeps}

-- the channels that a task names
abbrev PacketsWithin : ℕ → Option ChanNo → Type 0
PacketsWithin count None = Unit {0}
PacketsWithin count (Some chan) = channel_number chan < count

abbrev pub TaskWithin : ℕ → Task → Type 0
TaskWithin count (Opens request) = channel_number request.chan < count
TaskWithin count (Sends link chan gap size step) = PacketsWithin count chan
TaskWithin count (Closes request) = channel_number request.chan < count
TaskWithin count (Moves old new gap size) = (channel_number old.chan < count) × (channel_number new.chan < count)

-- ---- the tasks of a script

-- each request has the number of its place
abbrev pub RequestsAreNumbered : List Request → Type 0
RequestsAreNumbered requests = (n : ℕ) (request : Request) → slice_get requests n ≡ Some request → channel_number request.chan ≡ n

found-within : (requests : List Request) (n : ℕ) (request : Request) → RequestsAreNumbered requests → slice_get requests n ≡ Some request → channel_number request.chan < length requests
found-within requests n request numbered found = subst (λ k. k < length requests) (sym (numbered n request found)) (slice_get_within requests n request found)

tasks-within : (requests : List Request) (ops : List Op) → RequestsAreNumbered requests → Each (TaskWithin (length requests)) (tasks_of requests ops)
tasks-within requests ops numbered = tasks-hold (TaskWithin (length requests)) requests (record {
  opens = λ n request such found. found-within requests n request numbered found;
  sends = λ n request link count gap size such found. found-within requests n request numbered found;
  closes = λ n request such found. found-within requests n request numbered found;
  pours = λ link count gap size. tt;
  moves = λ o n old new such also leaves joins. (found-within requests o old numbered leaves, found-within requests n new numbered joins);
}) ops

-- ---- where a caller stands

ready-within : (count : ℕ) (outcomes : List Learnt) (task : Task) → TaskWithin count task → TaskWithin count (ready outcomes task)
ready-within count outcomes task within = ready-keeps (TaskWithin count) (λ old new gap size other_gap other_size is. is) outcomes task within

from-within : (count : ℕ) (outcomes : List Learnt) (tasks : List Task) → Each (TaskWithin count) tasks → Each (TaskWithin count) (from_step outcomes tasks)
unfolding from_step
from-within count outcomes [] each = tt
from-within count outcomes (task ∷ tasks) each =
    elim (cases_Bool (takes_step outcomes task)) [
      | inl takes ↦ rw takes (ready-within count outcomes task each.0, each.1)
      | inr passes ↦ rw passes (from-within count outcomes tasks each.1)
    ]

resumed-within : (count : ℕ) (outcomes : List Learnt) (tasks : List Task) (replies : List Reply) → Each (TaskWithin count) tasks → Each (TaskWithin count) (resumed outcomes tasks replies).tasks
unfolding resumed
resumed-within count outcomes [] replies each = tt
resumed-within count outcomes (task ∷ tasks) replies each = by (task_ask task replies) where
  by : (next : Option (LinkNo × Ask)) → Each (TaskWithin count) (continued outcomes task tasks replies next).tasks
  by None = from-within count (outcome_by task replies ++ outcomes) tasks each.1
  by (Some to) = each

standing-within : (count : ℕ) (tasks : List Task) (replies : List Reply) → Each (TaskWithin count) tasks → Each (TaskWithin count) (standing tasks replies).tasks
unfolding standing
standing-within count tasks [] each = from-within count [] tasks each
standing-within count tasks (reply ∷ before) each =
    let at : Standing = standing tasks before in
    resumed-within count at.outcomes at.tasks (at.replies ++ reply ∷ []) (standing-within count tasks before each)

-- the requests of a plan are numbered
planned-numbers : (parts : PlanParts) → ArePlanned parts → RequestsAreNumbered (requests_of parts)
planned-numbers parts planned n request found = by (slice_get parts.requests n) refl (sym (slice_get-map request_of parts.requests n) ∙ found) where
  by : (entry : Option RequestEntry) → slice_get parts.requests n ≡ entry → option_map request_of entry ≡ Some request → channel_number request.chan ≡ n
  by None is none = cc
  by (Some entry) is some = (let same : entry.request ≡ request = cc in subst (λ (r : Request). channel_number r.chan ≡ n) same (planned.requests n entry is))

pub script-within : (parts : PlanParts) (ops : List Op) (replies : List Reply) → ArePlanned parts → Each (TaskWithin (length (requests_of parts))) (standing (tasks_of (requests_of parts) ops) replies).tasks
script-within parts ops replies planned =
    standing-within (length (requests_of parts)) (tasks_of (requests_of parts) ops) replies (tasks-within (requests_of parts) ops (planned-numbers parts planned))

-- ---- what a task tells

abbrev AllWithin : ℕ → List Learnt → Type 0
AllWithin count outcomes = Each (IsOfChannelsBelow count) outcomes

settled-within : (count : ℕ) (request : Request) (outcome : Option Outcome) → channel_number request.chan < count → AllWithin count (settled_as request outcome)
settled-within count request None within = tt
settled-within count request (Some outcome) within = (within, tt)

plan-within : (count : ℕ) (chan : ChanNo) (gap size : ℕ) (replies : List Reply) → channel_number chan < count → AllWithin count (planned_as (Some chan) gap size replies)
plan-within count chan gap size [] within = tt
plan-within count chan gap size (Is.Planned clock ∷ replies) within = (within, tt)
plan-within count chan gap size (_ ∷ replies) within = tt

moved-within : (count : ℕ) (old new : Request) (gap size : ℕ) (told : Option Shifted) → channel_number old.chan < count → channel_number new.chan < count → AllWithin count (moved_as old new gap size told)
moved-within count old new gap size None leaves joins = tt
moved-within count old new gap size (Some told) leaves joins = ((leaves, joins), tt)

outcomes-within : (count : ℕ) (task : Task) (replies : List Reply) → TaskWithin count task → AllWithin count (outcome_by task replies)
outcomes-within count (Opens request) replies within = settled-within count request (verdict_of request replies) within
outcomes-within count (Sends link None number gap size) replies within = tt
outcomes-within count (Sends link (Some chan) number gap size) replies within = plan-within count chan gap size replies within
outcomes-within count (Closes request) replies within = tt
outcomes-within count (Moves old new gap size) replies within = moved-within count old new gap size (first_told replies) within.0 within.1

pub told-within : (count : ℕ) (task : Task) (replies : List Reply) (note : Learnt) → TaskWithin count task → IsFinished task replies (note ∷ []) → IsOfChannelsBelow count note
told-within count task replies note within over = (subst (AllWithin count) over.tells (outcomes-within count task replies within)).0
