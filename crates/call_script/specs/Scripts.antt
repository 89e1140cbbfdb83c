-- What a caller asks next follows from its own replies alone. It goes through its tasks in order. The one under way has the replies
-- since it began; with its last reply, the next task that takes any step begins.
use Rattle.std.specs.Prelude.{ℕ, Bool, true, false, not, ◌&&◌, nat_eq, if◌then◌else◌, Option, Some, None, List, [], ◌∷◌, ◌++◌}
use Rattle.net_units.specs.Numbers.{channel_number}
use Rattle.net_units.specs.declared.numbers.LinkNo.{LinkNo}
use Rattle.net_units.specs.declared.numbers.ChanNo.{ChanNo}
use Rattle.channel_move.specs.Moving.{Move, first_told, next_of_move, move_expects}
use Rattle.channel_move.specs.declared.shifted.Shifted.{Shifted}
use Rattle.link_steps.specs.declared.asks.Ask.{Ask}
use Rattle.link_steps.specs.declared.asks.Ask.TheVariants.{Submit, Pour}
use Rattle.link_steps.specs.declared.replies.Reply.{Reply}
use Rattle.link_steps.specs.declared.replies.Reply.TheVariants.{Planned, Refused}
use Rattle.link_steps.specs.declared.replies.Refusal.{Refusal}
use Rattle.link_steps.specs.declared.replies.Refusal.TheVariants.{Busy, TooBig}
use Rattle.setup_protocol.specs.Laws.{is_accepted}
use Rattle.setup_protocol.specs.Setup.{Outcome, next_ask, progress_of, verdict_of, is_expected}
use Rattle.setup_protocol.specs.Teardown.{next_release, is_closing}
use Rattle.setup_protocol.specs.declared.request.Request.{Request}
use Rattle.call_script.specs.declared.tasks.Task.{Task}
use Rattle.call_script.specs.declared.tasks.Task.TheVariants.{Opens, Sends, Closes, Moves}

-- what a caller has learnt: what a request has come to; that packets were planned on a channel, one every gap, of this size; or
-- that a move was made from one channel to another, whose packets have this gap and size
pub data Learnt : Type 0 where
  Settles : ChanNo → Outcome → Learnt
  PlannedOn : ChanNo → ℕ → ℕ → Learnt
  MovedTo : ChanNo → ChanNo → Shifted → ℕ → ℕ → Learnt

-- the newest of these that tells something
abbrev pub or_before : {X : Type 0} → Option X → Option X → Option X
or_before (Some told) before = Some told
or_before None before = before

unfoldable pub newest : {X : Type 0} → (Learnt → Option X) → List Learnt → Option X
newest tell [] = None
newest tell (note ∷ notes) = or_before (tell note) (newest tell notes)

-- the tasks from the one under way on, the replies to that one, in order, and what the requests came to
pub record Standing : Type 0 where
  pub tasks : List Task
  pub replies : List Reply
  pub outcomes : List Learnt

-- ---- the task under way

-- the ask for packets: a submit of a channel's, or one for best-effort packets
abbrev pub packets_ask : Option ChanNo → ℕ → ℕ → ℕ → Ask
packets_ask None count gap size = Pour count gap size
packets_ask (Some chan) count gap size = Submit chan count gap size

-- the one ask of a link
abbrev pub once_next : LinkNo → Ask → List Reply → Option (LinkNo × Ask)
once_next link ask [] = Some (link, ask)
once_next link ask (reply ∷ replies) = None

-- the move between two requests' channels
abbrev pub move_between : Request → Request → ℕ → ℕ → Move
move_between old new gap size = record {
  leaving = old.chan;
  leaving_route = old.route;
  joining = new.chan;
  joining_route = new.route;
  gap = gap;
  size = size;
}

-- what a task asks after these replies
abbrev pub task_ask : Task → List Reply → Option (LinkNo × Ask)
task_ask (Opens request) replies = next_ask request replies
task_ask (Sends link chan count gap size) replies = once_next link (packets_ask chan count gap size) replies
task_ask (Closes request) replies = next_release request.chan request.route replies
task_ask (Moves old new gap size) replies = next_of_move (move_between old new gap size) replies

-- ---- the tasks that take a step

-- whether this is that channel
abbrev pub is_that : ChanNo → ChanNo → Bool
is_that chan other = nat_eq (channel_number other) (channel_number chan)

-- what one note tells of a channel: what its request has come to
abbrev pub settled_by : ChanNo → Learnt → Option Outcome
settled_by chan (Settles own outcome) = if is_that chan own then Some outcome else None
settled_by chan (PlannedOn own gap size) = None
settled_by chan (MovedTo old new told gap size) = None

-- whether it is established: accepted, and not left by a move
abbrev pub established_by : ChanNo → Learnt → Option Bool
established_by chan (Settles own outcome) = if is_that chan own then Some (is_accepted outcome) else None
established_by chan (PlannedOn own gap size) = None
established_by chan (MovedTo old new told gap size) = if is_that chan old then Some false else None

-- the gap and the size of its last packets that were planned
pub record Packets : Type 0 where
  pub gap : ℕ
  pub size : ℕ

abbrev pub packets_by : ChanNo → Learnt → Option Packets
packets_by chan (Settles own outcome) = None
packets_by chan (PlannedOn own gap size) = if is_that chan own then Some (record { gap = gap; size = size }) else None
packets_by chan (MovedTo old new told gap size) = if is_that chan new && not (nat_eq told.shifted 0) then Some (record { gap = gap; size = size }) else None

abbrev pub holds_in : Option Bool → Bool
holds_in None = false
holds_in (Some holds) = holds

abbrev pub packets_in : Option Packets → Packets
packets_in None = record { gap = 1; size = 1 }
packets_in (Some packets) = packets

-- whether a request's channel is established
unfoldable pub is_established : ChanNo → List Learnt → Bool
is_established chan outcomes = holds_in (newest (established_by chan) outcomes)

-- the gap and the size of the last packets that were planned on a channel, or 1 and 1 where none were
unfoldable pub last_packets : ChanNo → List Learnt → Packets
last_packets chan outcomes = packets_in (newest (packets_by chan) outcomes)

-- whether the packets of a channel may be sent; best-effort ones, which have none, always may
abbrev pub is_ready : Option ChanNo → List Learnt → Bool
is_ready None outcomes = true
is_ready (Some chan) outcomes = is_established chan outcomes

abbrev pub takes_step : List Learnt → Task → Bool
takes_step outcomes (Opens request) = true
takes_step outcomes (Sends link chan count gap size) = is_ready chan outcomes
takes_step outcomes (Closes request) = is_established request.chan outcomes
takes_step outcomes (Moves old new gap size) = is_established old.chan outcomes && is_established new.chan outcomes

-- a task as it begins: a move is of packets like the last ones that were planned
abbrev pub with_packets : Request → Request → Packets → Task
with_packets old new packets = Moves old new packets.gap packets.size

abbrev pub ready : List Learnt → Task → Task
ready outcomes (Opens request) = Opens request
ready outcomes (Sends link chan count gap size) = Sends link chan count gap size
ready outcomes (Closes request) = Closes request
ready outcomes (Moves old new gap size) = with_packets old new (last_packets old.chan outcomes)

-- the tasks from the first one on that takes a step
unfoldable pub from_step : List Learnt → List Task → List Task
from_step outcomes [] = []
from_step outcomes (task ∷ tasks) = if takes_step outcomes task then ready outcomes task ∷ tasks else from_step outcomes tasks

-- ---- where a caller stands

abbrev pub begun : List Learnt → List Task → Standing
begun outcomes tasks = record { tasks = from_step outcomes tasks; replies = []; outcomes = outcomes }

abbrev pub settled_as : Request → Option Outcome → List Learnt
settled_as request None = []
settled_as request (Some outcome) = Settles request.chan outcome ∷ []

-- what a send tells, whose submit got these replies; best-effort packets tell nothing
abbrev pub planned_as : Option ChanNo → ℕ → ℕ → List Reply → List Learnt
planned_as None gap size replies = []
planned_as (Some chan) gap size (Planned clock ∷ replies) = PlannedOn chan gap size ∷ []
planned_as (Some chan) gap size _ = []

-- and a move, whose first hop has told this
abbrev pub moved_as : Request → Request → ℕ → ℕ → Option Shifted → List Learnt
moved_as old new gap size None = []
moved_as old new gap size (Some told) = MovedTo old.chan new.chan told gap size ∷ []

-- what a task adds to the outcomes, once it is over
abbrev pub outcome_by : Task → List Reply → List Learnt
outcome_by (Opens request) replies = settled_as request (verdict_of request replies)
outcome_by (Sends link chan count gap size) replies = planned_as chan gap size replies
outcome_by (Closes request) replies = []
outcome_by (Moves old new gap size) replies = moved_as old new gap size (first_told replies)

-- the task goes on where it asks once more
abbrev pub continued : List Learnt → Task → List Task → List Reply → Option (LinkNo × Ask) → Standing
continued outcomes task tasks replies (Some to) = record { tasks = task ∷ tasks; replies = replies; outcomes = outcomes }
continued outcomes task tasks replies None = begun (outcome_by task replies ++ outcomes) tasks

unfoldable pub resumed : List Learnt → List Task → List Reply → Standing
resumed outcomes [] replies = record { tasks = []; replies = []; outcomes = outcomes }
resumed outcomes (task ∷ tasks) replies = continued outcomes task tasks replies (task_ask task replies)

-- with one more reply
abbrev pub replied : Standing → Reply → Standing
replied at reply = resumed at.outcomes at.tasks (at.replies ++ reply ∷ [])

-- where a caller with these tasks stands after its replies, newest first
unfoldable pub standing : List Task → List Reply → Standing
standing tasks [] = begun [] tasks
standing tasks (reply ∷ before) = replied (standing tasks before) reply

-- what it asks next
abbrev pub first_ask : List Task → List Reply → Option (LinkNo × Ask)
first_ask [] replies = None
first_ask (task ∷ tasks) replies = task_ask task replies

abbrev pub ask_at : Standing → Option (LinkNo × Ask)
ask_at at = first_ask at.tasks at.replies

abbrev pub caller_ask : List Task → List Reply → Option (LinkNo × Ask)
caller_ask tasks replies = ask_at (standing tasks replies)

-- where the caller with this script stands, if there is one
abbrev pub standing_of : Option (List Task) → List Reply → Standing
standing_of None replies = record { tasks = []; replies = []; outcomes = [] }
standing_of (Some tasks) replies = standing tasks replies

-- what it asks next
abbrev pub script_ask : Option (List Task) → List Reply → Option (LinkNo × Ask)
script_ask script replies = ask_at (standing_of script replies)

-- ---- verdicts, and what moves have told

-- what a request has come to, where nothing of its setup is left to ask
unfoldable pub outcome_in : ChanNo → List Learnt → Option Outcome
outcome_in chan outcomes = newest (settled_by chan) outcomes

-- what a move from a channel has told, if one was made
abbrev pub moved_by : ChanNo → Learnt → Option Shifted
moved_by chan (Settles own outcome) = None
moved_by chan (PlannedOn own gap size) = None
moved_by chan (MovedTo old new told gap size) = if is_that chan old then Some told else None

unfoldable pub moved_off : ChanNo → List Learnt → Option Shifted
moved_off chan outcomes = newest (moved_by chan) outcomes

-- ---- the replies of a task

abbrev pub refuses_submit : Refusal → Bool
refuses_submit (Busy left) = true
refuses_submit (TooBig size smax) = true
refuses_submit _ = false

-- packets are planned, or refused where planned ones are left or they are too large
abbrev pub answers_submit : Reply → Bool
answers_submit (Planned clock) = true
answers_submit (Refused refusal) = refuses_submit refusal
answers_submit _ = false

-- whether this is a reply to what the task asks after these replies
abbrev pub task_expects : Task → List Reply → Reply → Bool
task_expects (Opens request) replies reply = is_expected request (progress_of request replies) reply
task_expects (Sends link chan count gap size) replies reply = answers_submit reply
task_expects (Closes request) replies reply = is_closing reply
task_expects (Moves old new gap size) replies reply = move_expects (move_between old new gap size) replies reply

abbrev pub first_expects : List Task → List Reply → Reply → Bool
first_expects [] replies reply = false
first_expects (task ∷ tasks) replies reply = task_expects task replies reply

-- whether this is a reply to what the caller asks next
abbrev pub expects : Standing → Reply → Bool
expects at reply = first_expects at.tasks at.replies reply
