-- Steps of one actor, some at a time.
use Rattle.std.proofs.Common.{◌≡◌, ℕ, ◌+◌, ◌*◌, ◌<◌, ◌≤◌, None, List, ◌^◌, sym, subst, arith}
use Rattle.std.proofs.Math.Nat.{mul-pos}
use Rattle.net_units.specs.Numbers.{actor_number}
use Rattle.net_units.specs.declared.numbers.ActorNo.{ActorNo}
use Rattle.call_script.specs.Parts.{PlanParts}
use Rattle.call_script.specs.Tasks.{network_of}
use Rattle.run_record.specs.declared.done.Done.{Done}
use Rattle.run_engine.specs.runs.Runs.{next_for}
use Rattle.run_engine.specs.schedules.Schedules.{repeated, FollowsTurns}
use Rattle.run_engine.specs.schedules.Watching.{GoesOn, PlaysOn, PlaysOut, WatchStands}
use Rattle.run_engine.specs.declared.engine.Engine.{Engine}
use Rattle.run_engine.proofs.Schedules.ScheduleOutcome.{follows-more}
use Rattle.run_engine.proofs.Watched.WatchedStrides.{plays-once}
use Rattle.run_engine.proofs.Watched.WatchedSteps.{never-ending, plays-none, plays-one, plays-out}
use Rattle.plane_workers.specs.Seen.{PlaysMore}
use Rattle.plane_workers.proofs.NextWindowStep.{repeated-both}

module _ {W : Type 0} (saw : W → PlanParts → List Done → Type 0) (parts : PlanParts) where
  pub none-more : (engine : Engine) (watch : W) (past : List Done) (actor : ActorNo) → WatchStands saw parts engine watch past → PlaysMore saw parts engine watch past actor 0
  none-more engine watch past actor stand = record { count = 0; many = omega arith; plays = plays-none saw parts engine watch past actor stand }

  pub step-more : (engine : Engine) (watch : W) (past : List Done) (actor : ActorNo) → GoesOn saw parts engine watch past actor → PlaysMore saw parts engine watch past actor 1
  step-more engine watch past actor goes = record { count = 1; many = omega arith; plays = plays-once saw parts engine watch past actor (plays-one saw parts engine watch past actor goes) }

  -- a stride
  pub stride-more : (engine : Engine) (watch : W) (past : List Done) (actor by : ActorNo) (rounds links : ℕ) → actor ≡ by → 1 ≤ rounds → 1 ≤ links → PlaysOn saw parts engine watch past (repeated (rounds * links) by) → PlaysMore saw parts engine watch past actor 1
  stride-more engine watch past actor by rounds links is some linked plays = record {
    count = rounds * links;
    many = mul-pos some linked;
    plays = subst (λ a. PlaysOn saw parts engine watch past (repeated (rounds * links) a)) (sym is) plays;
  }

  pub more-again : (mid engine : Engine) (seen watch : W) (past : List Done) (actor : ActorNo) (m n : ℕ) → PlaysMore saw parts mid seen past actor m → ((run : List Done) → WatchStands saw parts mid seen run → PlaysMore saw parts engine watch run actor n) → PlaysMore saw parts engine watch past actor (m + n)
  more-again mid engine seen watch past actor m n before more =
      let after = more before.plays.run before.plays.stand in
      record {
        count = before.count + after.count;
        many = (let one = before.many in let two = after.many in omega (arith, one, two));
        plays = record {
          run = after.plays.run;
          follows = subst (λ actors. FollowsTurns (network_of parts) past actors after.plays.run) (repeated-both before.count after.count actor)
              (follows-more (network_of parts) past before.plays.run after.plays.run (repeated before.count actor) (repeated after.count actor) before.plays.follows after.plays.follows);
          stand = after.plays.stand;
        };
      }

  -- fewer at least
  pub more-least : (engine : Engine) (watch : W) (past : List Done) (actor : ActorNo) (m n : ℕ) → n ≤ m → PlaysMore saw parts engine watch past actor m → PlaysMore saw parts engine watch past actor n
  more-least engine watch past actor m n less more = record { count = more.count; many = (let many = more.many in omega (arith, many, less)); plays = more.plays }

  -- a run has fewer than 2^60 steps
  pub more-few : (old engine : Engine) (first watch : W) (past : List Done) (actor : ActorNo) (n : ℕ) → WatchStands saw parts old first past → PlaysMore saw parts engine watch past actor n → n < 2 ^ 60
  more-few old engine first watch past actor n stand more = (let few = never-ending saw parts old engine first watch past actor more.count stand more.plays in let many = more.many in omega (arith, few, many))

  -- none is left
  pub more-out : (engine : Engine) (watch : W) (past : List Done) (actor by : ActorNo) → actor ≡ by → ((run : List Done) → WatchStands saw parts engine watch run → next_for (network_of parts) (actor_number actor) run ≡ None) → PlaysMore saw parts engine watch past actor 0 → PlaysOut saw parts engine watch past by
  more-out engine watch past actor by is over more = subst (PlaysOut saw parts engine watch past) is (plays-out saw parts engine watch past actor more.count more.plays (over more.plays.run more.plays.stand))
