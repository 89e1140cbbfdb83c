-- What an engine keeps stands for a run: each link for its part of the run, each caller and the plane for the replies that they have
-- got. The run is one of the plan's network.
use Rattle.std.specs.Prelude.{◌≡◌, ℕ, ◌-◌, ◌≤◌, Some, List, ◌∷◌, length}
use Rattle.std.specs.List.{slice_get}
use Rattle.net_units.specs.Numbers.{actor_number}
use Rattle.net_units.specs.declared.numbers.ActorNo.{ActorNo}
use Rattle.link_quota.specs.Any.{any_rules, AnyStands}
use Rattle.link_quota.specs.declared.any_link.AnyLink.{AnyLink}
use Rattle.link_steps.specs.Split.{Link}
use Rattle.link_steps.specs.declared.replies.Reply.{Reply}
use Rattle.call_script.specs.Parts.{PlanParts}
use Rattle.call_script.specs.Plans.{IsPlan}
use Rattle.call_script.specs.Standing.{CallerStands}
use Rattle.call_script.specs.Tasks.{Network, network_of}
use Rattle.call_script.specs.declared.actor.Actor.{Actor}
use Rattle.run_engine.specs.runs.Runs.{plane_at, next_for, IsNext, IsRun, step}
use Rattle.run_engine.specs.declared.actors.Actors.{Actors}
use Rattle.run_engine.specs.declared.callers.Callers.{Callers}
use Rattle.run_engine.specs.declared.engine.Engine.{Engine}
use Rattle.net_units.specs.declared.numbers.LinkNo.{LinkNo}
use Rattle.link_steps.specs.declared.asks.Ask.{Ask}
use Rattle.run_record.specs.Runs.{replies_to, part_of}
use Rattle.run_record.specs.declared.done.Done.{Done}
use Rattle.tick_plane.specs.PlaneAccount.{PlaneAccount}

-- ---- the parts of an engine

-- each link has its shape, and stands for its part of the run
pub record LinksStand (network : List Link) (links : List AnyLink) (run : List Done) : Type 0 where
  pub same : length links ≡ length network
  pub linked : (n : ℕ) (link : AnyLink) → slice_get links n ≡ Some link → slice_get network n ≡ Some (any_rules link)
  pub parts : (n : ℕ) (link : AnyLink) → slice_get links n ≡ Some link → AnyStands link (part_of n run)

-- each caller has its number, and stands for its replies
pub record AreCallers (parts : PlanParts) (callers : List Actor) (run : List Done) : Type 0 where
  pub same : length callers ≡ length parts.callers
  pub numbers : (n : ℕ) (caller : Actor) → slice_get callers n ≡ Some caller → actor_number caller.caller ≡ n
  pub stand : (n : ℕ) (caller : Actor) → slice_get callers n ≡ Some caller → CallerStands parts caller (replies_to n run)

abbrev pub CallersStand : PlanParts → Callers → List Done → Type 0
CallersStand parts callers run = AreCallers parts callers.by_number.items run

pub record PlaneStands (network : Network) (plane : PlaneAccount) (run : List Done) : Type 0 where
  pub links : plane.links ≡ length network.links
  pub rounds : plane.rounds ≡ network.rounds
  pub at : plane.at ≡ plane_at network run

pub record ActorsStand (parts : PlanParts) (actors : Actors) (run : List Done) : Type 0 where
  pub callers : CallersStand parts actors.callers run
  pub plane : PlaneStands (network_of parts) actors.plane run

-- ---- an engine: the links and the actors, without a record

-- it stands for a run of the plan: its links for their parts of it, and its actors for their replies
pub record EngineStands (parts : PlanParts) (engine : Engine) (past : List Done) : Type 0 where
  pub plan : IsPlan parts
  pub run : IsRun (network_of parts) past
  pub links : LinksStand (network_of parts).links engine.links.items past
  pub actors : ActorsStand parts engine.actors past

-- the entry is the next step of the actor, and the engine stands for the run with it
pub record MakesStep (parts : PlanParts) (engine : Engine) (run : List Done) (actor : ActorNo) (done : Done) : Type 0 where
  pub next : IsNext (network_of parts) run done
  pub by : done.actor ≡ actor
  pub stands : EngineStands parts engine (done ∷ run)

-- it stands for a run in which this is what the actor asks next
pub record IsAboutTo (parts : PlanParts) (engine : Engine) (run : List Done) (actor : ActorNo) (to : LinkNo) (ask : Ask) : Type 0 where
  pub stands : EngineStands parts engine run
  pub asks : next_for (network_of parts) (actor_number actor) run ≡ Some (to, ask)

-- ---- steps

-- the callers stand for a run, and this is its next step
pub record IsNextStep (parts : PlanParts) (callers : Callers) (past : List Done) (done : Done) : Type 0 where
  pub plan : IsPlan parts
  pub run : IsRun (network_of parts) past
  pub next : IsNext (network_of parts) past done
  pub stand : CallersStand parts callers past

-- the actors stand for a run, are ready for its next step, and this is that step
pub record IsDueStep (parts : PlanParts) (actors : Actors) (past : List Done) (done : Done) : Type 0 where
  pub plan : IsPlan parts
  pub run : IsRun (network_of parts) past
  pub next : IsNext (network_of parts) past done
  pub stand : ActorsStand parts actors past
  pub room : actors.plane.links - actors.plane.at.ticked ≤ actors.plane.spare

-- the run goes on with the actor's next step, which gets this reply
pub record StepsTo (network : Network) (actor : ActorNo) (past : List Done) (reply : Reply) (run : List Done) : Type 0 where
  pub done : Done
  pub next : IsNext network past done
  pub by : done.actor ≡ actor
  pub gets : done.reply ≡ reply
  pub is : run ≡ done ∷ past
  pub goes : run ≡ step network actor past
