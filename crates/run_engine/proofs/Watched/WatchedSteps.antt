-- What an engine's steps make of a schedule while a watcher sees them.
use Rattle.std.proofs.Common.{◌≡◌, ℕ, ◌+◌, ◌^◌, ◌<◌, true, false, None, List, [], ◌∷◌, length, take, get_or, refl, sym, ap, ◌∙◌, subst}
use Rattle.run_engine.proofs.Words.{actor_number, actor_at, ActorNo, LinkNo, Ask, PlanParts, network_of, Do, next_for, step, Done}
use Rattle.call_script.specs.declared.schedule.Schedule.{Schedule}
use Rattle.run_engine.specs.schedules.Schedules.{repeated, turns_of}
use Rattle.run_engine.specs.schedules.Standing.{CallersStand, IsAboutTo, MakesStep, StepsTo}
use Rattle.run_engine.specs.schedules.Watching.{WatchStands, IsAsked, GoesOn, PlaysOn, PlaysOut, HavePlayedOut, IsNextSeen, IsPlayedSeen}
use Rattle.run_engine.specs.declared.callers.Callers.{Callers}
use Rattle.run_engine.specs.declared.engine.Engine.{Engine}
use Rattle.run_engine.proofs.Schedules.PlayedTurns.{step-follows, follows-start, follows-again, items-again, none-played, none-out, out-again, played-written, played-out}
use Rattle.run_engine.proofs.Runs.RunLength.{never-so-many}
use Rattle.run_engine.proofs.Runs.RunOf.{step-is}

module _ {W : Type 0} (saw : W → PlanParts → List Done → Type 0) (parts : PlanParts) where
  -- ---- one step

  pub about : (engine : Engine) (watch : W) (past : List Done) (actor : ActorNo) (to : LinkNo) (ask : Ask) → IsAsked saw parts engine watch past actor to ask → IsAboutTo parts engine past actor to ask
  about engine watch past actor to ask asked = record { stands = asked.stand.stands; asks = asked.asks }

  -- the step that was made is the next that is seen
  pub next-seen : (old new : Engine) (watch : W) (past : List Done) (actor : ActorNo) (to : LinkNo) (ask : Ask) (done : Done) → IsAsked saw parts old watch past actor to ask → MakesStep parts new past actor done → IsNextSeen saw parts watch past done
  next-seen old new watch past actor to ask done asked made = record { plan = asked.stand.stands.plan; run = asked.stand.stands.run; next = made.next; seen = asked.stand.seen }

  pub goes-on : (engine : Engine) (watch : W) (past : List Done) (actor : ActorNo) (done : Done) → MakesStep parts engine past actor done → saw watch parts (done ∷ past) → GoesOn saw parts engine watch past actor
  goes-on engine watch past actor done made seen = record { done = done; next = made.next; by = made.by; stand = record { stands = made.stands; seen = seen } }

  pub goes-steps : (engine : Engine) (watch : W) (past : List Done) (actor : ActorNo) → (goes : GoesOn saw parts engine watch past actor) → StepsTo (network_of parts) actor past goes.done.reply (goes.done ∷ past)
  goes-steps engine watch past actor goes =
      let network = network_of parts in
      record { done = goes.done; next = goes.next; by = goes.by; gets = refl; is = refl; goes = sym (step-is network past goes.done goes.next) ∙ ap (λ a. step network a past) goes.by }

  pub plays-one : (engine : Engine) (watch : W) (past : List Done) (actor : ActorNo) → GoesOn saw parts engine watch past actor → PlaysOn saw parts engine watch past (actor ∷ [])
  plays-one engine watch past actor goes =
      record {
        run = goes.done ∷ past;
        follows = step-follows (network_of parts) actor past goes.done.reply (goes.done ∷ past) (goes-steps engine watch past actor goes);
        stand = goes.stand;
      }

  -- ---- turns of one actor

  pub plays-none : (engine : Engine) (watch : W) (past : List Done) (actor : ActorNo) → WatchStands saw parts engine watch past → PlaysOn saw parts engine watch past (repeated 0 actor)
  plays-none engine watch past actor stand = record { run = past; follows = follows-start (network_of parts) past actor; stand = stand }

  pub plays-again : (mid engine : Engine) (seen watch : W) (past : List Done) (actor : ActorNo) (n : ℕ) → PlaysOn saw parts mid seen past (repeated n actor) → ((run : List Done) → WatchStands saw parts mid seen run → PlaysOn saw parts engine watch run (actor ∷ []))
      → PlaysOn saw parts engine watch past (repeated (n + 1) actor)
  plays-again mid engine seen watch past actor n before one =
      let after = one before.run before.stand in
      record { run = after.run; follows = follows-again (network_of parts) past before.run after.run actor n before.follows after.follows; stand = after.stand }

  pub plays-out : (engine : Engine) (watch : W) (past : List Done) (actor : ActorNo) (n : ℕ) → (plays : PlaysOn saw parts engine watch past (repeated n actor)) → next_for (network_of parts) (actor_number actor) plays.run ≡ None → PlaysOut saw parts engine watch past actor
  plays-out engine watch past actor n plays over = record { run = plays.run; out = record { count = n; steps = plays.follows; over = over }; stand = plays.stand }

  -- an actor has no step left before so many
  pub never-ending : (old engine : Engine) (first watch : W) (past : List Done) (actor : ActorNo) (n : ℕ) → WatchStands saw parts old first past → PlaysOn saw parts engine watch past (repeated n actor) → n < 2 ^ 60
  never-ending old engine first watch past actor n before plays = never-so-many parts past plays.run actor n before.stands.plan before.stands.run plays.stand.stands.run plays.follows

  -- ---- the items of a schedule, and each actor to its end

  pub items-begin : (engine : Engine) (watch : W) → WatchStands saw parts engine watch [] → PlaysOn saw parts engine watch [] (turns_of (take 0 []))
  items-begin engine watch stand = record { run = []; follows = none-played (network_of parts) [] refl; stand = stand }

  pub items-on : (mid engine : Engine) (seen watch : W) (items : List Do) (i : ℕ) (item : Do) → i < length items → item ≡ get_or items i item → PlaysOn saw parts mid seen [] (turns_of (take i items))
      → ((run : List Done) → WatchStands saw parts mid seen run → PlaysOn saw parts engine watch run (repeated item.count item.actor)) → PlaysOn saw parts engine watch [] (turns_of (take (i + 1) items))
  items-on mid engine seen watch items i item inside is before one =
      let after = one before.run before.stand in
      record { run = after.run; follows = items-again (network_of parts) before.run after.run items i item inside is before.follows after.follows; stand = after.stand }

  pub none-yet : (engine : Engine) (watch : W) → WatchStands saw parts engine watch [] → HavePlayedOut saw parts engine watch 0
  none-yet engine watch stand = record { run = []; played = none-out parts [] refl; stand = stand }

  pub one-out : (mid engine : Engine) (seen watch : W) (n : ℕ) (actor : ActorNo) → actor ≡ actor_at n → HavePlayedOut saw parts mid seen n → ((run : List Done) → WatchStands saw parts mid seen run → PlaysOut saw parts engine watch run actor) → HavePlayedOut saw parts engine watch (n + 1)
  one-out mid engine seen watch n actor is before out =
      let after = out before.run before.stand in
      record { run = after.run; played = out-again parts before.run after.run n actor is before.played after.out; stand = after.stand }

  -- ---- a schedule

  pub played-items : (schedule : Schedule) (items : List Do) (engine : Engine) (watch : W) (callers : Callers) → schedule.written ≡ true → items ≡ schedule.items → callers ≡ engine.actors.callers → PlaysOn saw parts engine watch [] (turns_of items) → IsPlayedSeen saw parts schedule callers watch
  played-items schedule items engine watch callers written same is plays = record {
    run = plays.run;
    plan = plays.stand.stands.plan;
    played = played-written parts schedule items plays.run plays.run written same plays.follows refl;
    run_is = plays.stand.stands.run;
    seen = record { stand = subst (λ cs. CallersStand parts cs plays.run) (sym is) plays.stand.stands.actors.callers; seen = plays.stand.seen };
  }

  pub played-all : (schedule : Schedule) (engine : Engine) (watch : W) (callers : Callers) → schedule.written ≡ false → callers ≡ engine.actors.callers → HavePlayedOut saw parts engine watch (length parts.callers + 1) → IsPlayedSeen saw parts schedule callers watch
  played-all schedule engine watch callers written is plays = record {
    run = plays.run;
    plan = plays.stand.stands.plan;
    played = played-out parts schedule plays.run plays.run written plays.played refl;
    run_is = plays.stand.stands.run;
    seen = record { stand = subst (λ cs. CallersStand parts cs plays.run) (sym is) plays.stand.stands.actors.callers; seen = plays.stand.seen };
  }
