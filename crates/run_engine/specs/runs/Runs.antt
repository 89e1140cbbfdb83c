-- A run of a network lists what was done, newest first. Each entry is the next step of its actor, which follows from the actor's own
-- replies so far, and has the reply that the rules of the link give after the link's history so far. The actors are the callers, by
-- their numbers from 0 on, and then the plane. A run follows from the list of its actors.
use Rattle.std.specs.Prelude.{◌≡◌, ℕ, nat_eq, if◌then◌else◌, Option, Some, None, List, [], ◌∷◌, length}
use Rattle.std.specs.List.{slice_get}
use Rattle.net_units.specs.Numbers.{link_number, actor_number}
use Rattle.net_units.specs.declared.numbers.LinkNo.{LinkNo}
use Rattle.net_units.specs.declared.numbers.ActorNo.{ActorNo}
use Rattle.link_steps.specs.declared.asks.Ask.{Ask}
use Rattle.link_steps.specs.Replies.{reply_to}
use Rattle.link_steps.specs.Split.{Link}
use Rattle.call_script.specs.Scripts.{script_ask}
use Rattle.call_script.specs.Tasks.{Network}
use Rattle.run_record.specs.Runs.{replies_to, part_of}
use Rattle.run_record.specs.declared.done.Done.{Done}
use Rattle.tick_plane.specs.Planes.{Plane, plane_of, plane_ask}

-- ---- what an actor asks next

-- the plane's number among the actors
abbrev pub plane_no : Network → ℕ
plane_no network = length network.scripts

-- where the plane stands after a run
abbrev pub plane_at : Network → List Done → Plane
plane_at network run = plane_of (length network.links) (replies_to (plane_no network) run)

-- what the actor of this number asks after a run, and of which link, if it has a step left
unfoldable pub next_for : Network → ℕ → List Done → Option (LinkNo × Ask)
next_for network actor run =
    if nat_eq actor (plane_no network) then plane_ask network.rounds (plane_at network run) else script_ask (slice_get network.scripts actor) (replies_to actor run)

-- ---- runs

-- the entry is the next step of its actor, with the reply that the rules of its link give
pub record IsNext (network : Network) (past : List Done) (done : Done) : Type 0 where
  pub link : Link
  pub linked : slice_get network.links (link_number done.link) ≡ Some link
  pub asked : next_for network (actor_number done.actor) past ≡ Some (done.link, done.ask)
  pub answered : done.reply ≡ reply_to link (part_of (link_number done.link) past) done.ask

unfoldable pub IsRun : Network → List Done → Type 0
IsRun network [] = Unit {0}
IsRun network (done ∷ past) = IsRun network past × IsNext network past done

-- ---- the run of a list of actors

abbrev pub done_at : ActorNo → List Done → LinkNo × Ask → Option Link → List Done
done_at actor past to None = past
done_at actor past to (Some link) = record { actor = actor; link = to.0; ask = to.1; reply = reply_to link (part_of (link_number to.0) past) to.1 } ∷ past

abbrev pub stepped : Network → ActorNo → List Done → Option (LinkNo × Ask) → List Done
stepped network actor past None = past
stepped network actor past (Some to) = done_at actor past to (slice_get network.links (link_number to.0))

-- the run with the next step of this actor, if it has one left
abbrev pub step : Network → ActorNo → List Done → List Done
step network actor past = stepped network actor past (next_for network (actor_number actor) past)

-- the run goes on with a step of each of these actors, in their order
unfoldable pub run_from : Network → List Done → List ActorNo → List Done
run_from network past [] = past
run_from network past (actor ∷ actors) = run_from network (step network actor past) actors
