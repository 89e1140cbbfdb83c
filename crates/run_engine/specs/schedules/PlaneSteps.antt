-- The plane's steps without the entries that they stand for. Most steps of a run are the plane's. Each asks a link to let a packet
-- arrive or to make a tick; the link replies, the plane gets the reply, and a watcher sees it. The entry that such a step stands for
-- is named here, so that nobody needs to write it down.
use Rattle.std.specs.Prelude.{◌≡◌, None, List, ◌∷◌, length}
use Rattle.net_units.specs.Numbers.{actor_number}
use Rattle.net_units.specs.declared.numbers.ActorNo.{ActorNo}
use Rattle.net_units.specs.declared.numbers.LinkNo.{LinkNo}
use Rattle.link_steps.specs.declared.asks.Ask.{Ask}
use Rattle.link_steps.specs.declared.replies.Reply.{Reply}
use Rattle.call_script.specs.Parts.{PlanParts}
use Rattle.call_script.specs.Tasks.{Network, network_of}
use Rattle.run_engine.specs.runs.Runs.{next_for}
use Rattle.run_engine.specs.schedules.Quiet.{the_plane}
use Rattle.run_engine.specs.schedules.Standing.{IsDueStep, LinksStand}
use Rattle.run_engine.specs.schedules.Watching.{WatchStands}
use Rattle.run_engine.specs.declared.actors.Actors.{Actors}
use Rattle.run_engine.specs.declared.engine.Engine.{Engine}
use Rattle.run_record.specs.declared.done.Done.{Done}

-- the entry of the plane's step that asks a link this and gets this reply
abbrev pub plane_step : Network → LinkNo → Ask → Reply → Done
plane_step network link ask reply = record { actor = the_plane network; link = link; ask = ask; reply = reply }

-- the link has made the step, and its actor hasn't got the reply
pub record IsAnswered (parts : PlanParts) (engine : Engine) (past : List Done) (done : Done) : Type 0 where
  pub due : IsDueStep parts engine.actors past done
  pub links : LinksStand (network_of parts).links engine.links.items (done ∷ past)

-- the step is the plane's, and gets this reply
pub record IsPlaneStep (parts : PlanParts) (actors : Actors) (past : List Done) (done : Done) (reply : Reply) : Type 0 where
  pub due : IsDueStep parts actors past done
  pub by : actor_number done.actor ≡ length parts.callers
  pub gets : done.reply ≡ reply

-- an engine and its watcher stand for the run, in which the actor has no step left
pub record IsOver {W : Type 0} (saw : W → PlanParts → List Done → Type 0) (parts : PlanParts) (engine : Engine) (watch : W) (past : List Done) (actor : ActorNo) : Type 0 where
  pub none : next_for (network_of parts) (actor_number actor) past ≡ None
  pub stand : WatchStands saw parts engine watch past
