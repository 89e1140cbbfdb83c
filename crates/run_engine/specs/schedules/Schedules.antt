-- How a schedule is played. A written one lists items: an actor, and how many steps it makes in a row. Spelled out, these are
-- turns. The schedule is played where each turn finds a step of its actor left, and its run has a step for each turn. It asks
-- too much at the first turn that finds none left. Where none is written, the callers in their order, and then the plane, each
-- make their steps until none is left.
use Rattle.std.specs.Prelude.{◌≡◌, ℕ, zero, suc, ◌≤◌, Bool, true, false, None, IsSome, List, [], ◌∷◌, ◌++◌, length, map}
use Rattle.net_units.specs.Numbers.{actor_number, actor_at}
use Rattle.net_units.specs.declared.numbers.ActorNo.{ActorNo}
use Rattle.call_script.specs.Fits.{NetworkFits}
use Rattle.call_script.specs.Parts.{PlanParts}
use Rattle.call_script.specs.Tasks.{Network}
use Rattle.call_script.specs.declared.schedule.Do.{Do}
use Rattle.call_script.specs.declared.schedule.Schedule.{Schedule}
use Rattle.run_engine.specs.runs.Runs.{plane_no, next_for, IsRun, step, run_from}
use Rattle.run_engine.specs.declared.playing.PlayFault.{PlayFault}
use Rattle.run_engine.specs.declared.playing.PlayFault.TheVariants.{Memory, Step}
use Rattle.run_record.specs.Runs.{replies_to}
use Rattle.run_record.specs.declared.done.Done.{Done}

-- ---- the turns of a schedule

-- one step of an actor, and the line that asks for it
pub record Turn : Type 0 where
  pub actor : ActorNo
  pub line : ℕ

abbrev pub actor_in : Turn → ActorNo
actor_in turn = turn.actor

abbrev pub turn_of : Do → Turn
turn_of item = record { actor = item.actor; line = item.line }

-- a number of the same
unfoldable pub repeated : {X : Type 0} → ℕ → X → List X
repeated zero x = []
repeated (suc n) x = x ∷ repeated n x

-- the items spelled out
unfoldable pub lined_turns : List Do → List Turn
lined_turns [] = []
lined_turns (item ∷ items) = repeated item.count (turn_of item) ++ lined_turns items

-- whose turns they are
abbrev pub turns_of : List Do → List ActorNo
turns_of items = map actor_in (lined_turns items)

-- ---- turns that go on with a run

-- each turn finds a step of its actor left
unfoldable pub HaveSteps : Network → List Done → List ActorNo → Type 0
HaveSteps network past [] = Unit {0}
HaveSteps network past (actor ∷ actors) = IsSome (next_for network (actor_number actor) past) × HaveSteps network (step network actor past) actors

-- the run goes on by a step for each turn
pub record FollowsTurns (network : Network) (past : List Done) (actors : List ActorNo) (run : List Done) : Type 0 where
  pub served : HaveSteps network past actors
  pub is : run ≡ run_from network past actors

-- the first turn that finds no step left: the line that asks for it, and how many steps its actor has made
pub record Stops (network : Network) (past : List Done) (turns : List Turn) (line made : ℕ) : Type 0 where
  pub before : List Turn
  pub turn : Turn
  pub after : List Turn
  pub are : turns ≡ before ++ turn ∷ after
  pub served : HaveSteps network past (map actor_in before)
  pub over : next_for network (actor_number turn.actor) (run_from network past (map actor_in before)) ≡ None
  pub asks : line ≡ turn.line
  pub has_made : made ≡ length (replies_to (actor_number turn.actor) (run_from network past (map actor_in before)))

-- ---- each actor to its end

-- the actor makes its steps until it has none left
pub record StepsOut (network : Network) (past : List Done) (actor : ActorNo) (run : List Done) : Type 0 where
  pub count : ℕ
  pub steps : FollowsTurns network past (repeated count actor) run
  pub over : next_for network (actor_number actor) run ≡ None

-- the first n actors have done so one after the other
unfoldable pub PlayedOut : Network → ℕ → List Done → Type 0
PlayedOut network zero run = run ≡ []
PlayedOut network (suc n) run = (past : List Done) × PlayedOut network n past × StepsOut network past (actor_at n) run

-- ---- a schedule

-- the actor of an item is a caller of the plan or the plane
abbrev pub IsActorOf : PlanParts → Do → Type 0
IsActorOf parts item = actor_number item.actor ≤ length parts.callers

abbrev pub PlayedBy : Network → Bool → List Do → List Done → Type 0
PlayedBy network true items run = FollowsTurns network [] (turns_of items) run
PlayedBy network false items run = PlayedOut network (suc (plane_no network)) run

-- the run of a schedule
abbrev pub IsPlayed : Network → Schedule → List Done → Type 0
IsPlayed network schedule run = PlayedBy network schedule.written schedule.items run

abbrev pub StopsBy : Network → Bool → List Do → ℕ → ℕ → Type 0
StopsBy network true items line made = Stops network [] (lined_turns items) line made
StopsBy network false items line made = ⊥

-- the first line of a written schedule that asks for a step that isn't left, and how many its actor has made
abbrev pub AsksTooMuch : Network → Schedule → ℕ → ℕ → Type 0
AsksTooMuch network schedule line made = StopsBy network schedule.written schedule.items line made

-- ---- what playing answers

-- a fault is right: a step is missing where the schedule asks too much; nothing is said of want of memory
abbrev pub IsFaultOf : Network → Schedule → PlayFault → Type 0
IsFaultOf network schedule Memory = Unit {0}
IsFaultOf network schedule (Step line made) = AsksTooMuch network schedule line made

-- the same, for turns that go on with a run
abbrev pub IsStop : Network → List Done → List Turn → PlayFault → Type 0
IsStop network past turns Memory = Unit {0}
IsStop network past turns (Step line made) = Stops network past turns line made

-- for one turn
abbrev pub IsMissing : Network → List Done → Turn → PlayFault → Type 0
IsMissing network past turn Memory = Unit {0}
IsMissing network past turn (Step line made) = (next_for network (actor_number turn.actor) past ≡ None) × (line ≡ turn.line) × (made ≡ length (replies_to (actor_number turn.actor) past))

-- memory ran out
abbrev pub IsWanted : PlayFault → Type 0
IsWanted Memory = Unit {0}
IsWanted (Step line made) = ⊥

-- ---- laws

-- a schedule comes to a run, or asks too much
pub data ComesTo (network : Network) (schedule : Schedule) : Type 0 where
  ARun : (run : List Done) → IsPlayed network schedule run → ComesTo network schedule
  TooMuch : (line made : ℕ) → AsksTooMuch network schedule line made → ComesTo network schedule

-- to exactly one of these, and only one of each
pub record SchedulesComeToOneEnd : Type 0 where
  pub either : (network : Network) (schedule : Schedule) → NetworkFits network → ComesTo network schedule
  pub not_both : (network : Network) (schedule : Schedule) (run : List Done) (line made : ℕ) → IsPlayed network schedule run → AsksTooMuch network schedule line made → ⊥
  pub one_run : (network : Network) (schedule : Schedule) (run other : List Done) → IsPlayed network schedule run → IsPlayed network schedule other → run ≡ other
  pub one_line : (network : Network) (schedule : Schedule) (line made line_other made_other : ℕ) → AsksTooMuch network schedule line made → AsksTooMuch network schedule line_other made_other → (line ≡ line_other) × (made ≡ made_other)
  pub runs : (network : Network) (schedule : Schedule) (run : List Done) → IsPlayed network schedule run → IsRun network run
