-- What strides make of a run that is watched, and of the turns of one actor.
use Rattle.std.proofs.Common.{◌≡◌, ℕ, zero, suc, ◌+◌, ◌*◌, ◌≤◌, None, List, [], ◌∷◌, ◌++◌, length, refl, sym, ap, ◌∙◌, subst, arith}
use Rattle.run_engine.proofs.Words.{actor_number, ActorNo, PlanParts, IsPlan, Network, network_of, Plane, next_for, plane_at, run_from, Done}
use Rattle.call_script.proofs.PlansFit.{plan-fits, links-are}
use Rattle.run_engine.specs.schedules.Quiet.{quiet_round, quiet_rounds, quiet_step, rested, the_plane}
use Rattle.run_engine.specs.schedules.Resting.{MakesStride}
use Rattle.run_engine.specs.schedules.Schedules.{repeated, FollowsTurns}
use Rattle.run_engine.specs.schedules.Watching.{WatchStands, IsRestSeen, PlaysOn, PlaysOut}
use Rattle.run_engine.specs.declared.engine.Engine.{Engine}
use Rattle.run_engine.proofs.Schedules.ScheduleOutcome.{follows-more}
use Rattle.run_engine.proofs.Watched.WatchedSteps.{plays-none, plays-out}

-- ---- turns of one actor

pub repeated-sum : {X : Type 0} (m n : ℕ) (x : X) → repeated (m + n) x ≡ repeated m x ++ repeated n x
unfolding repeated
repeated-sum zero n x = (let same : 0 + n ≡ n = omega arith in ap (λ k. repeated k x) same)
repeated-sum (suc m) n x = (let more : suc m + n ≡ suc (m + n) = omega arith in ap (λ k. repeated k x) more ∙ ap (λ xs. x ∷ xs) (repeated-sum m n x))

repeated-one : {X : Type 0} (x : X) → repeated 1 x ≡ x ∷ []
unfolding repeated
repeated-one x = refl

module _ {W : Type 0} (saw : W → PlanParts → List Done → Type 0) (parts : PlanParts) where
  pub plays-more : (mid engine : Engine) (seen watch : W) (past : List Done) (actor : ActorNo) (m n : ℕ) → PlaysOn saw parts mid seen past (repeated m actor) → ((run : List Done) → WatchStands saw parts mid seen run → PlaysOn saw parts engine watch run (repeated n actor))
      → PlaysOn saw parts engine watch past (repeated (m + n) actor)
  plays-more mid engine seen watch past actor m n before more =
      let after = more before.run before.stand in
      record {
        run = after.run;
        follows = subst (λ actors. FollowsTurns (network_of parts) past actors after.run) (sym (repeated-sum m n actor)) (follows-more (network_of parts) past before.run after.run (repeated m actor) (repeated n actor) before.follows after.follows);
        stand = after.stand;
      }

  -- ---- a stride

  pub rest-seen : (old new : Engine) (watch : W) (past : List Done) (first n : ℕ) → WatchStands saw parts old watch past → MakesStride parts new past n → first ≡ old.actors.plane.at.round → IsRestSeen saw parts watch past first n
  rest-seen old new watch past first n stand stride is = record {
    plan = stand.stands.plan;
    run = stand.stands.run;
    rests = stride.rests;
    at = ap (λ (p : Plane). p.round) (sym stand.stands.actors.plane.at) ∙ sym is;
    seen = stand.seen;
  }

  pub plays-rest : (engine : Engine) (watch : W) (past : List Done) (n : ℕ) → MakesStride parts engine past n → saw watch parts (rested (network_of parts) n past) → PlaysOn saw parts engine watch past (repeated (n * length parts.links) (the_plane (network_of parts)))
  plays-rest engine watch past n stride seen = record {
    run = rested (network_of parts) n past;
    follows = subst (λ links. FollowsTurns (network_of parts) past (repeated (n * links) (the_plane (network_of parts))) (rested (network_of parts) n past)) (links-are parts) stride.goes.follows;
    stand = record { stands = stride.stands; seen = seen };
  }

-- ---- rounds that are spelled out

one-more : (plane : ActorNo) (t n : ℕ) (run : List Done) → quiet_step plane t n ∷ quiet_round plane t n run ≡ quiet_round plane t (suc n) run
unfolding quiet_round
one-more plane t n run = refl

pub round-more : (plane : ActorNo) (t n : ℕ) (run : List Done) → quiet_step plane t n ∷ quiet_round plane t n run ≡ quiet_round plane t (n + 1) run
round-more plane t n run = (let next : suc n ≡ n + 1 = omega arith in one-more plane t n run ∙ ap (λ m. quiet_round plane t m run) next)

next-round : (plane : ActorNo) (links t n : ℕ) (run : List Done) → quiet_round plane (t + n) links (quiet_rounds plane links t n run) ≡ quiet_rounds plane links t (suc n) run
unfolding quiet_rounds
next-round plane links t n run = refl

pub rounds-more : (plane : ActorNo) (links t n : ℕ) (run : List Done) → quiet_round plane (t + n) links (quiet_rounds plane links t n run) ≡ quiet_rounds plane links t (n + 1) run
rounds-more plane links t n run = (let next : suc n ≡ n + 1 = omega arith in next-round plane links t n run ∙ ap (λ m. quiet_rounds plane links t m run) next)

pub none-more : (plane : ActorNo) (t : ℕ) (run more : List Done) → more ≡ run → more ≡ quiet_round plane t 0 run
unfolding quiet_round
none-more plane t run more same = same

pub no-rounds : (plane : ActorNo) (links t : ℕ) (run more : List Done) → more ≡ run → more ≡ quiet_rounds plane links t 0 run
unfolding quiet_rounds
no-rounds plane links t run more same = same

pub rested-is : (network : Network) (past run new : List Done) (plane : ActorNo) (links first n : ℕ) → new ≡ quiet_rounds plane links first n run → plane ≡ the_plane network → links ≡ length network.links → (plane_at network past).round ≡ first → run ≡ past → new ≡ rested network n past
rested-is network past run new plane links first n is actor all at same =
    is ∙ ap (λ a. quiet_rounds a links first n run) actor
    ∙ ap (λ l. quiet_rounds (the_plane network) l first n run) all
    ∙ ap (λ t. quiet_rounds (the_plane network) (length network.links) t n run) (sym at)
    ∙ ap (quiet_rounds (the_plane network) (length network.links) (plane_at network past).round n) same

no-turn : (network : Network) (past : List Done) (actor : ActorNo) → run_from network past (repeated 0 actor) ≡ past
unfolding repeated run_from
no-turn network past actor = refl

-- ---- turns that are made some at a time

module _ {W : Type 0} (saw : W → PlanParts → List Done → Type 0) (parts : PlanParts) where
  -- where no turn was made, it is the same run
  pub none-made : (engine : Engine) (watch : W) (past : List Done) (actor : ActorNo) (n : ℕ) → n ≡ 0 → PlaysOn saw parts engine watch past (repeated n actor) → WatchStands saw parts engine watch past
  none-made engine watch past actor n none plays = subst (WatchStands saw parts engine watch) (plays.follows.is ∙ ap (λ k. run_from (network_of parts) past (repeated k actor)) none ∙ no-turn (network_of parts) past actor) plays.stand

  -- the actor has made so many turns at least
  pub record PlaysAtLeast (engine : Engine) (watch : W) (past : List Done) (actor : ActorNo) (least : ℕ) : Type 0 where
    pub count : ℕ
    pub many : least ≤ count
    pub plays : PlaysOn saw parts engine watch past (repeated count actor)

  pub least-none : (engine : Engine) (watch : W) (past : List Done) (actor : ActorNo) → WatchStands saw parts engine watch past → PlaysAtLeast engine watch past actor 0
  least-none engine watch past actor stand = record { count = 0; many = omega arith; plays = plays-none saw parts engine watch past actor stand }

  pub least-more : (mid engine : Engine) (seen watch : W) (past : List Done) (actor : ActorNo) (least n : ℕ) → PlaysAtLeast mid seen past actor least → 1 ≤ n → ((run : List Done) → WatchStands saw parts mid seen run → PlaysOn saw parts engine watch run (repeated n actor)) → PlaysAtLeast engine watch past actor (least + 1)
  least-more mid engine seen watch past actor least n before some more = record {
    count = before.count + n;
    many = (let many = before.many in omega (arith, many, some));
    plays = plays-more saw parts mid engine seen watch past actor before.count n before.plays more;
  }

  -- one turn
  pub plays-once : (engine : Engine) (watch : W) (past : List Done) (actor : ActorNo) → PlaysOn saw parts engine watch past (actor ∷ []) → PlaysOn saw parts engine watch past (repeated 1 actor)
  plays-once engine watch past actor plays = subst (PlaysOn saw parts engine watch past) (sym (repeated-one actor)) plays

  -- the same number of them
  pub plays-same : (engine : Engine) (watch : W) (past : List Done) (actor : ActorNo) (m n : ℕ) → m ≡ n → PlaysOn saw parts engine watch past (repeated m actor) → PlaysOn saw parts engine watch past (repeated n actor)
  plays-same engine watch past actor m n same plays = subst (λ k. PlaysOn saw parts engine watch past (repeated k actor)) same plays

  -- none more is left
  pub out-now : (mid engine : Engine) (seen watch : W) (past : List Done) (actor : ActorNo) (least n : ℕ) → (before : PlaysAtLeast mid seen past actor least) → n ≡ 0 → ((run : List Done) → WatchStands saw parts mid seen run → PlaysOn saw parts engine watch run (repeated n actor))
      → ((run : List Done) → WatchStands saw parts mid seen run → next_for (network_of parts) (actor_number actor) run ≡ None) → PlaysOut saw parts engine watch past actor
  out-now mid engine seen watch past actor least n before none more over =
      let stand = none-made engine watch before.plays.run actor n none (more before.plays.run before.plays.stand) in
      let plays : PlaysOn saw parts engine watch past (repeated before.count actor) = record { run = before.plays.run; follows = before.plays.follows; stand = stand } in
      plays-out saw parts engine watch past actor before.count plays (over before.plays.run before.plays.stand)

pub links-some : (parts : PlanParts) → IsPlan parts → 1 ≤ length parts.links
links-some parts plan = (let some = (plan-fits parts plan).some in let same = links-are parts in omega (arith, some, same))
