-- The plane's next step: what it asks, and what is known where the link has replied and where the plane has the reply.
use Rattle.std.proofs.Common.{◌≡◌, ℕ, Bool, true, false, if◌then◌else◌, nat_lt, Option, Some, None, IfSome, List, [], ◌∷◌, length, refl, sym, ap, subst, ◌∙◌, arith}
use Rattle.run_engine.proofs.Words.{actor_number, LinkNo, Ask, Tick, Reply, quiet_reply, PlanParts, IsPlan, network_of, next_for, Done, Plane, next_due, plane_after, plane_ask, plane_expects, plane_with, tick_made, Flight}
use Rattle.link_server.specs.Asks.{IsArriveOrTick}
use Rattle.tick_plane.specs.Planes.{ask_due}
use Rattle.run_engine.specs.schedules.PlaneSteps.{IsAnswered, IsPlaneStep, plane_step}
use Rattle.run_engine.specs.schedules.Quiet.{the_plane}
use Rattle.run_engine.specs.schedules.Standing.{ActorsStand, LinksStand, MakesStep}
use Rattle.run_engine.specs.declared.actors.Actors.{Actors}
use Rattle.run_engine.specs.declared.engine.Engine.{Engine}
use Rattle.run_engine.proofs.Keeping.KeptActors.{plane-asks, plane-expected, plane-number}
use Rattle.run_engine.proofs.Keeping.NextStep.{callers-few}
use Rattle.run_engine.proofs.Watched.QuietRounds.{plane-is}
use Rattle.run_engine.proofs.Runs.RunFronts.{run-more}

-- the plane's number is that after the callers'
pub own-number : (parts : PlanParts) → IsPlan parts → actor_number (the_plane (network_of parts)) ≡ length parts.callers
own-number parts plan =
    let place = plane-number parts in
    let few = callers-few parts plan in
    plane-is (network_of parts) (omega (arith, place, few)) ∙ place

pub by-plane : (parts : PlanParts) (actors : Actors) (past : List Done) (done : Done) (reply : Reply) → IsPlaneStep parts actors past done reply → actor_number done.actor ≡ length actors.callers.by_number.items
by-plane parts actors past done reply step = step.by ∙ sym step.due.stand.callers.same

-- what it asks next
pub plane-asked : (parts : PlanParts) (actors : Actors) (run : List Done) (next : Option (LinkNo × Ask)) → IsPlan parts → ActorsStand parts actors run → next ≡ plane_ask actors.plane.rounds actors.plane.at
    → next_for (network_of parts) (actor_number (the_plane (network_of parts))) run ≡ next
plane-asked parts actors run next plan stand is =
    sym (plane-asks parts actors (actor_number (the_plane (network_of parts))) run stand (own-number parts plan ∙ sym stand.callers.same)) ∙ sym is

-- it asks for a tick next
pub tick-asked : (parts : PlanParts) (actors : Actors) (run : List Done) (next : Option LinkNo) (link : LinkNo) → IsPlan parts → ActorsStand parts actors run → IfSome next (λ to. plane_ask actors.plane.rounds actors.plane.at ≡ Some (to, Tick)) → next ≡ Some link
    → next_for (network_of parts) (actor_number (the_plane (network_of parts))) run ≡ Some (link, Tick)
tick-asked parts actors run next link plan stand asked is =
    plane-asked parts actors run (Some (link, Tick)) plan stand (sym (subst (λ (found : Option LinkNo). IfSome found (λ to. plane_ask actors.plane.rounds actors.plane.at ≡ Some (to, Tick))) is asked))

-- it asks for an arrive or a tick
abbrev AsksSurely : Option (LinkNo × Ask) → Type 0
AsksSurely None = Unit {0}
AsksSurely (Some next) = IsArriveOrTick next.1

due-surely : (ticked : ℕ) (due : Option Flight) → IsArriveOrTick (ask_due ticked due).1
due-surely ticked None = tt
due-surely ticked (Some flight) = tt

either-surely : (left : Bool) (next : LinkNo × Ask) → IsArriveOrTick next.1 → AsksSurely (if left then Some next else None)
either-surely true next sure = sure
either-surely false next sure = tt

pub asked-surely : (rounds : ℕ) (plane : Plane) (link : LinkNo) (ask : Ask) → Some (link, ask) ≡ plane_ask rounds plane → IsArriveOrTick ask
asked-surely rounds plane link ask is =
    subst AsksSurely (sym is) (either-surely (nat_lt plane.round rounds) (ask_due plane.ticked (next_due plane)) (due-surely plane.ticked (next_due plane)))

-- ---- a tick in which nothing happens

-- where one is expected, no flight is due
tick-expected : (due : Option Flight) (clock : ℕ) → plane_expects due (quiet_reply clock) ≡ true → due ≡ None
tick-expected None clock expects = refl
tick-expected (Some flight) clock expects = cc

pub quiet-due : (parts : PlanParts) (actors : Actors) (past : List Done) (done : Done) (clock : ℕ) → IsPlaneStep parts actors past done (quiet_reply clock) → next_due actors.plane.at ≡ None
quiet-due parts actors past done clock step =
    tick-expected (next_due actors.plane.at) clock
    (ap (plane_expects (next_due actors.plane.at)) (sym step.gets) ∙ plane-expected parts actors past done step.due (by-plane parts actors past done (quiet_reply clock) step))

-- and no flight begins with it
pub quiet-made : (links : ℕ) (plane : Plane) (clock : ℕ) → next_due plane ≡ None → plane_after links (quiet_reply clock) plane ≡ tick_made links plane []
quiet-made links plane clock none = ap (λ due. plane_with links plane due (quiet_reply clock)) none

-- ---- the plane's step

-- the plane gets the reply of its link
pub plane-gets : (parts : PlanParts) (engine : Engine) (past : List Done) (to : LinkNo) (ask : Ask) (reply : Reply) → IsAnswered parts engine past (plane_step (network_of parts) to ask reply)
    → IsPlaneStep parts engine.actors past (plane_step (network_of parts) to ask reply) reply
plane-gets parts engine past to ask reply answered = record { due = answered.due; by = own-number parts answered.due.plan; gets = refl }

-- an actor that gets its reply has made its step
pub makes-step : (parts : PlanParts) (mid new : Engine) (past : List Done) (done : Done) → IsAnswered parts mid past done → new.links.items ≡ mid.links.items → ActorsStand parts new.actors (done ∷ past) → MakesStep parts new past done.actor done
makes-step parts mid new past done answered links actors = record {
  next = answered.due.next;
  by = refl;
  stands = record {
    plan = answered.due.plan;
    run = run-more (network_of parts) past done answered.due.run answered.due.next;
    links = subst (λ ls. LinksStand (network_of parts).links ls (done ∷ past)) (sym links) answered.links;
    actors = actors;
  };
}
