-- A watcher of a run sees the steps of a window as they are put in order. Between two windows, and within one, links, plane and
-- watcher stand for one run. `saw` says which runs of a plan the watcher has seen.
use Rattle.std.specs.Prelude.{ℕ, ◌≤◌, List}
use Rattle.net_units.specs.declared.numbers.ActorNo.{ActorNo}
use Rattle.link_steps.specs.Split.{Link}
use Rattle.link_steps.specs.declared.replies.Entry.{Entry}
use Rattle.link_steps.specs.declared.replies.Reply.{Reply}
use Rattle.call_script.specs.Parts.{PlanParts}
use Rattle.call_script.specs.Tasks.{Network}
use Rattle.tick_plane.specs.PlaneAccount.{PlaneAccount}
use Rattle.run_record.specs.declared.done.Done.{Done}
use Rattle.run_engine.specs.schedules.Schedules.{repeated}
use Rattle.run_engine.specs.schedules.Watching.{PlaysOn}
use Rattle.run_engine.specs.declared.engine.Engine.{Engine}
use Rattle.plane_workers.specs.Windows.{GoesOnBy, IsBetween, IsInWindow}

-- the run goes on by steps of one actor to one of which this holds
pub record GoesTo (network : Network) (actor : ActorNo) (past : List Done) (holds : List Done → Type 0) : Type 0 where
  pub run : List Done
  pub goes : GoesOnBy network actor past run
  pub comes : holds run

-- within a window, and the run was seen
pub record SeenWithin {X W : Type 0} (rules : X → Link) (stands : X → List Entry → Type 0) (left : X → List Reply) (saw : W → PlanParts → List Done → Type 0) (parts : PlanParts) (from until : ℕ) (links : List X) (plane : PlaneAccount) (watch : W) (run : List Done) : Type 0 where
  pub within : IsInWindow rules stands left parts from until links plane run
  pub seen : saw watch parts run

-- between two windows, and the run was seen
pub record SeenBetween {X W : Type 0} (rules : X → Link) (stands : X → List Entry → Type 0) (saw : W → PlanParts → List Done → Type 0) (parts : PlanParts) (gap : ℕ) (links : List X) (plane : PlaneAccount) (watch : W) (run : List Done) : Type 0 where
  pub between : IsBetween rules stands parts gap links plane run
  pub seen : saw watch parts run

-- ---- steps of one actor

-- it has made some steps more, at least so many, and the engine and the watcher stand for the run with them
pub record PlaysMore {W : Type 0} (saw : W → PlanParts → List Done → Type 0) (parts : PlanParts) (engine : Engine) (watch : W) (past : List Done) (actor : ActorNo) (least : ℕ) : Type 0 where
  pub count : ℕ
  pub many : least ≤ count
  pub plays : PlaysOn saw parts engine watch past (repeated count actor)
