-- The schedule of a run that has happened is its list of actors, in the order of time, in maximal runs: each item says how many
-- entries in a row are one actor's, and the next item is of another actor.
use Rattle.std.specs.Prelude.{◌≡◌, ◌≢◌, ℕ, ◌≤◌, Bool, false, nat_eq, List, [], ◌∷◌, map}
use Rattle.net_units.specs.Limits.{most_steps}
use Rattle.net_units.specs.Numbers.{actor_number}
use Rattle.net_units.specs.declared.numbers.ActorNo.{ActorNo}
use Rattle.link_steps.specs.Lists.{Each}
use Rattle.call_script.specs.declared.schedule.Do.{Do}
use Rattle.run_record.specs.declared.done.Done.{Done}
use Rattle.run_engine.specs.runs.Laws.{actor_of}
use Rattle.run_engine.specs.schedules.Schedules.{turns_of}

-- the first item is of another actor
abbrev pub BeginsOtherThan : ActorNo → List Do → Type 0
BeginsOtherThan actor [] = Unit {0}
BeginsOtherThan actor (item ∷ items) = item.actor ≢ actor

-- no two neighbours are of one actor
abbrev pub Alternate : List Do → Type 0
Alternate [] = Unit {0}
Alternate (item ∷ items) = BeginsOtherThan item.actor items × Alternate items

-- an item has a step, and stands on no line
pub record IsUnwritten (item : Do) : Type 0 where
  pub line : item.line ≡ 0
  pub some : 1 ≤ item.count

-- the scenario's language can write it, where there are this many callers: its actor is one of them or the plane, and its steps are
-- within the limit
pub record IsWritable (callers : ℕ) (item : Do) : Type 0 where
  pub actor : actor_number item.actor ≤ callers
  pub least : 1 ≤ item.count
  pub most : item.count ≤ most_steps

-- the items are the maximal runs of these actors
pub record AreMaximalRuns (actors : List ActorNo) (items : List Do) : Type 0 where
  pub spelled : turns_of items ≡ actors
  pub each : Each IsUnwritten items
  pub maximal : Alternate items

-- whether the last item is of the actor
abbrev pub ends_with : ActorNo → List Do → Bool
ends_with actor [] = false
ends_with actor (item ∷ []) = nat_eq (actor_number item.actor) (actor_number actor)
ends_with actor (item ∷ next ∷ items) = ends_with actor (next ∷ items)

-- whose entries these are, in their order
abbrev pub actors_of : List Done → List ActorNo
actors_of entries = map actor_of entries
