-- The task under way, as it is kept. An opening has its setup, which has an ask left; a send has its one ask;
-- a closing has its teardown, with a hop left. Once the last reply to a task is taken, an opening says what its request has
-- come to.
use Rattle.std.specs.Prelude.{◌≡◌, ◌<◌, ℕ, Bool, true, false, Option, Some, None, List, [], ◌∷◌, length}
use Rattle.net_units.specs.declared.numbers.ChanNo.{ChanNo}
use Rattle.net_units.specs.declared.numbers.LinkNo.{LinkNo}
use Rattle.link_steps.specs.declared.asks.Ask.{Ask}
use Rattle.link_steps.specs.declared.asks.Ask.TheVariants.{Submit}
use Rattle.link_steps.specs.declared.replies.Reply.{Reply}
use Rattle.link_steps.specs.declared.replies.Reply.TheVariants.{Planned}
use Rattle.hop_reservation.specs.Routes.{IsRoute}
use Rattle.channel_move.specs.Stages.{released_in}
use Rattle.channel_move.specs.Standing.{Moves as Stands, move_of}
use Rattle.channel_move.specs.declared.mover.Mover.{Mover}
use Rattle.setup_protocol.specs.Releases.{Releases}
use Rattle.setup_protocol.specs.Setup.{settled_in}
use Rattle.setup_protocol.specs.Standing.{progress_in, SetupStands}
use Rattle.setup_protocol.specs.State.{outcome_of}
use Rattle.setup_protocol.specs.declared.request.Request.{Request}
use Rattle.setup_protocol.specs.declared.setup.Setup.{Setup}
use Rattle.setup_protocol.specs.declared.teardown.Teardown.{Teardown}
use Rattle.call_script.specs.Scripts.{Learnt, Settles, PlannedOn, MovedTo, packets_ask, once_next, move_between, task_ask, outcome_by}
use Rattle.call_script.specs.declared.tasks.Task.{Task}
use Rattle.call_script.specs.declared.tasks.Task.TheVariants.{Opens, Sends, Closes, Moves}
use Rattle.call_script.specs.declared.work.Known.{Known}
use Rattle.call_script.specs.declared.work.Note.{Note}
use Rattle.call_script.specs.declared.work.Note.TheVariants as note
use Rattle.call_script.specs.declared.work.Turn.{Turn}
use Rattle.call_script.specs.declared.work.Turn.TheVariants.{On, Over, Settled}
use Rattle.call_script.specs.declared.work.Work.{Work}
use Rattle.call_script.specs.declared.work.Work.TheVariants as work

-- a setup of this request, with an ask left
pub record IsOpening (chan : ChanNo) (setup : Setup) (request : Request) (replies : List Reply) : Type 0 where
  pub channel : chan ≡ request.chan
  pub same : setup.request ≡ request
  pub stands : SetupStands setup replies
  pub left : settled_in (progress_in setup) ≡ None

-- one ask that has no reply yet
pub record IsOnce (next : Option (LinkNo × Ask)) (to : LinkNo) (ask : Ask) (replies : List Reply) : Type 0 where
  pub fresh : replies ≡ []
  pub asks : next ≡ Some (to, ask)

-- a teardown of this request's channel, with a hop left
pub record IsClosing (teardown : Teardown) (request : Request) (replies : List Reply) : Type 0 where
  pub channel : teardown.chan ≡ request.chan
  pub route : teardown.route ≡ request.route
  pub stands : Releases teardown replies
  pub left : teardown.made < length teardown.route

-- a move between these requests, with an ask left
pub record IsMoving (from to : ChanNo) (gap size : ℕ) (mover : Mover) (old new : Request) (own_gap own_size : ℕ) (replies : List Reply) : Type 0 where
  pub leaves : from ≡ old.chan
  pub joins : to ≡ new.chan
  pub gaps : gap ≡ own_gap
  pub sizes : size ≡ own_size
  pub move : move_of mover ≡ move_between old new own_gap own_size
  pub stands : Stands mover replies
  pub left : released_in mover.stage < length mover.leaving_route

-- the work is that of the first of these tasks, after these replies to it
abbrev pub WorkStands : Work → List Task → List Reply → Type 0
WorkStands (work.Opening chan setup) (Opens request ∷ tasks) replies = IsOpening chan setup request replies
WorkStands (work.Once to ask) (Sends link chan count gap size ∷ tasks) replies = IsOnce (once_next link (packets_ask chan count gap size) []) to ask replies
WorkStands (work.Closing teardown) (Closes request ∷ tasks) replies = IsClosing teardown request replies
WorkStands (work.Moving from to gap size mover) (Moves old new own_gap own_size ∷ tasks) replies = IsMoving from to gap size mover old new own_gap own_size replies
WorkStands work.Idle [] replies = Unit {0}
WorkStands _ _ replies = ⊥

-- whether a task is under way
abbrev pub is_under_way : Work → Bool
is_under_way (work.Opening chan setup) = true
is_under_way (work.Once to ask) = true
is_under_way (work.Closing teardown) = true
is_under_way (work.Moving from to gap size mover) = true
is_under_way work.Idle = false

-- ---- what requests came to

abbrev pub learnt_in : Note → Learnt
learnt_in (note.Settled chan verdict) = Settles chan (outcome_of verdict)
learnt_in (note.Planned chan gap size) = PlannedOn chan gap size
learnt_in (note.Moved old new told gap size) = MovedTo old new told gap size

abbrev pub learnt_of : Known → Learnt
learnt_of known = learnt_in known.note

-- what one ask and its reply tell
abbrev pub once_tells : Ask → Reply → List Learnt
once_tells (Submit chan count gap size) (Planned clock) = PlannedOn chan gap size ∷ []
once_tells _ _ = []

-- what a turn adds to what is known
abbrev pub turn_tells : Turn → List Learnt
turn_tells On = []
turn_tells Over = []
turn_tells (Settled one) = learnt_of one ∷ []

abbrev pub is_over : Turn → Bool
is_over On = false
is_over _ = true

-- ---- one more reply

-- the task goes on: it has an ask left
pub record TaskGoesOn (work : Work) (task : Task) (tasks : List Task) (replies : List Reply) : Type 0 where
  pub to : LinkNo
  pub ask : Ask
  pub asks : task_ask task replies ≡ Some (to, ask)
  pub stands : WorkStands work (task ∷ tasks) replies

-- it is over, with these outcomes
pub record IsFinished (task : Task) (replies : List Reply) (outcomes : List Learnt) : Type 0 where
  pub asks : task_ask task replies ≡ None
  pub tells : outcome_by task replies ≡ outcomes

abbrev pub TurnStands : Turn → Work → List Task → List Reply → Type 0
TurnStands turn work [] replies = ⊥
TurnStands On work (task ∷ tasks) replies = TaskGoesOn work task tasks replies
TurnStands Over work (task ∷ tasks) replies = IsFinished task replies []
TurnStands (Settled known) work (task ∷ tasks) replies = IsFinished task replies (learnt_of known ∷ [])

-- ---- tasks that can begin

-- the request of an opening or a closing has a route, and so has the one that a move leaves
abbrev pub HasRoute : Task → Type 0
HasRoute (Opens request) = IsRoute request.route
HasRoute (Sends link chan count gap size) = Unit {0}
HasRoute (Closes request) = IsRoute request.route
HasRoute (Moves old new gap size) = IsRoute old.route
