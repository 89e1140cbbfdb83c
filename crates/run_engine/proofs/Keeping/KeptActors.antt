-- The actors of a run, as they are kept: before any step, what they ask next, and with one more step.
use Rattle.std.proofs.Common.{◌≡◌, ◌≢◌, ℕ, ◌+◌, ◌<◌, true, Option, Some, None, IsSome, List, [], ◌∷◌, ◌++◌, length, set, refl, sym, ap, ◌∙◌, subst, inl, inr, arith}
use Rattle.run_engine.proofs.Words.{cases_Bool, eqb-true, eqb-false, length-map, length-set, slice_get_within, slice_get_past, slice_get, nat_eq, actor_number, LinkNo, Ask, Reply, PlanParts, ask_at, expects, script_ask, standing_of, entry_link, groups_in, network_of, plane_no, next_for, replies_to, Done, Plane, next_due, plane_after, plane_ask, plane_expects, plane_of, plane_start, IsDueLater}
use Rattle.call_script.proofs.PlansFit.{plan-fits}
use Rattle.call_script.proofs.OneOwner.{all-owned}
use Rattle.call_script.specs.Standing.{CallerStands, HasAskLeft, standing_in}
use Rattle.call_script.specs.declared.actor.Actor.{Actor}
use Rattle.run_engine.specs.schedules.Standing.{AreCallers, CallersStand, PlaneStands, ActorsStand, IsDueStep, IsNextStep}
use Rattle.run_engine.specs.declared.actors.Actors.{Actors}
use Rattle.run_engine.specs.declared.callers.Callers.{Callers}
use Rattle.run_engine.proofs.Keeping.Lookups.{get-push, get-set-same, get-set-other}
use Rattle.run_engine.proofs.Flights.Punctual.{reply-later}
use Rattle.run_engine.proofs.Replies.Replying.{replies-expected}
use Rattle.run_engine.proofs.Runs.RunLegal.{AsksOf, asked-plane, asked-caller, caller-next, plane-next, plane-by, plane-off, replies-by, replies-off}
use Rattle.tick_plane.specs.PlaneAccount.{PlaneAccount}

-- the plane's number is the number of callers
pub plane-number : (parts : PlanParts) → plane_no (network_of parts) ≡ length parts.callers
unfolding network_of
plane-number parts = length-map parts.callers _

plane-place : (parts : PlanParts) (callers : List Actor) (run : List Done) → AreCallers parts callers run → plane_no (network_of parts) ≡ length callers
plane-place parts callers run stand = plane-number parts ∙ sym stand.same

-- ---- before any step

-- so many callers are made
pub record CallersMade (parts : PlanParts) (callers : List Actor) : Type 0 where
  pub numbers : (n : ℕ) (caller : Actor) → slice_get callers n ≡ Some caller → actor_number caller.caller ≡ n
  pub fresh : (n : ℕ) (caller : Actor) → slice_get callers n ≡ Some caller → CallerStands parts caller []

pub one-made : (parts : PlanParts) (callers : List Actor) (caller : Actor) → CallersMade parts callers → actor_number caller.caller ≡ length callers → CallerStands parts caller [] → CallersMade parts (callers ++ caller ∷ [])
one-made parts callers caller made number stands = record {
  numbers = λ n at is.
      elim (get-push callers caller n at is) [
        | inl before ↦ made.numbers n at before
        | inr last ↦ ap (λ (c : Actor). actor_number c.caller) last.1 ∙ number ∙ sym last.0
      ];
  fresh = λ n at is.
      elim (get-push callers caller n at is) [
        | inl before ↦ made.fresh n at before
        | inr last ↦ subst (λ (c : Actor). CallerStands parts c []) (sym last.1) stands
      ];
}

pub all-made : (parts : PlanParts) (callers : List Actor) → length callers ≡ length parts.callers → CallersMade parts callers → AreCallers parts callers []
unfolding replies_to
all-made parts callers long made = record { same = long; numbers = made.numbers; stand = made.fresh }

pub plane-made : (parts : PlanParts) (plane : PlaneAccount) → plane.links ≡ length parts.links → plane.rounds ≡ parts.rounds + parts.tail → plane.at ≡ plane_start → PlaneStands (network_of parts) plane []
unfolding network_of plane_of replies_to
plane-made parts plane links rounds at = record { links = links ∙ sym (length-map parts.links (entry_link (groups_in parts))); rounds = rounds; at = at }

-- ---- what is asked next

pub plane-asks : (parts : PlanParts) (actors : Actors) (actor : ℕ) (run : List Done) → ActorsStand parts actors run → actor ≡ length actors.callers.by_number.items → plane_ask actors.plane.rounds actors.plane.at ≡ next_for (network_of parts) actor run
plane-asks parts actors actor run stand same =
    ap (λ rounds. plane_ask rounds actors.plane.at) stand.plane.rounds ∙ ap (plane_ask (network_of parts).rounds) stand.plane.at
    ∙ sym (asked-plane (network_of parts) actor run (same ∙ sym (plane-place parts actors.callers.by_number.items run stand.callers)))

pub caller-asks : (parts : PlanParts) (callers : List Actor) (actor : ℕ) (caller : Actor) (run : List Done) → AreCallers parts callers run → slice_get callers actor ≡ Some caller
    → ask_at (standing_in parts (actor_number caller.caller) (replies_to actor run)) ≡ next_for (network_of parts) actor run
caller-asks parts callers actor caller run stand found =
    let within = slice_get_within callers actor caller found in
    let place = plane-place parts callers run stand in
    ap (λ n. ask_at (standing_in parts n (replies_to actor run))) (stand.numbers actor caller found)
    ∙ sym (asked-caller (network_of parts) actor run (λ same. absurd (omega (arith, same, place, within))))

pub none-asks : (parts : PlanParts) (callers : List Actor) (actor : ℕ) (run : List Done) → AreCallers parts callers run → length callers < actor → None ≡ next_for (network_of parts) actor run
unfolding network_of
none-asks parts callers actor run stand past =
    let place = plane-place parts callers run stand in
    sym (asked-caller (network_of parts) actor run (λ same. absurd (omega (arith, same, place, past)))
    ∙ ap (λ found. script_ask found (replies_to actor run)) (slice_get_past (network_of parts).scripts actor (omega (arith, place, past))))

module _ (parts : PlanParts) (actors : Actors) (past : List Done) (done : Done) where
  -- ---- the plane's step

  pub plane-left : IsDueStep parts actors past done → actor_number done.actor ≡ length actors.callers.by_number.items → actors.plane.at.round < actors.plane.rounds
  plane-left due same =
      let asks = plane-next (network_of parts) past done due.next (same ∙ sym (plane-place parts actors.callers.by_number.items past due.stand.callers)) in
      let at = ap (λ (p : Plane). p.round) due.stand.plane.at in
      omega (arith, asks.early, at, due.stand.plane.rounds)

  pub plane-expected : IsDueStep parts actors past done → actor_number done.actor ≡ length actors.callers.by_number.items → plane_expects (next_due actors.plane.at) done.reply ≡ true
  plane-expected due same =
      ap (λ (p : Plane). plane_expects (next_due p) done.reply) due.stand.plane.at
      ∙ replies-expected.plane (network_of parts) past done due.next (same ∙ sym (plane-place parts actors.callers.by_number.items past due.stand.callers))

  pub plane-later : IsDueStep parts actors past done → actor_number done.actor ≡ length actors.callers.by_number.items → IsDueLater actors.plane.at.round done.reply
  plane-later due same =
      subst (λ (p : Plane). IsDueLater p.round done.reply) (sym due.stand.plane.at)
      (reply-later (network_of parts) past done (plan-fits parts due.plan) due.run due.next (same ∙ sym (plane-place parts actors.callers.by_number.items past due.stand.callers)))

-- the callers' replies stay the same
pub callers-same : (parts : PlanParts) (callers : List Actor) (past : List Done) (done : Done) → AreCallers parts callers past → actor_number done.actor ≡ length callers → AreCallers parts callers (done ∷ past)
callers-same parts callers past done stand same = record {
  same = stand.same;
  numbers = stand.numbers;
  stand = λ n caller found.
      let within = slice_get_within callers n caller found in
      subst (CallerStands parts caller) (sym (replies-off n done past (λ is. absurd (omega (arith, is, same, within))))) (stand.stand n caller found);
}

pub plane-taken : (parts : PlanParts) (old new : Actors) (past : List Done) (done : Done) → IsDueStep parts old past done → actor_number done.actor ≡ length old.callers.by_number.items → new.callers.by_number.items ≡ old.callers.by_number.items
    → new.plane.at ≡ plane_after old.plane.links done.reply old.plane.at → new.plane.links ≡ old.plane.links → new.plane.rounds ≡ old.plane.rounds → ActorsStand parts new (done ∷ past)
plane-taken parts old new past done due same callers at links rounds =
    let place = plane-place parts old.callers.by_number.items past due.stand.callers in
    record {
      callers = subst (λ cs. AreCallers parts cs (done ∷ past)) (sym callers) (callers-same parts old.callers.by_number.items past done due.stand.callers same);
      plane = record {
        links = links ∙ due.stand.plane.links;
        rounds = rounds ∙ due.stand.plane.rounds;
        at = at ∙ ap (λ n. plane_after n done.reply old.plane.at) due.stand.plane.links ∙ ap (plane_after (length (network_of parts).links) done.reply) due.stand.plane.at
            ∙ sym (plane-by (network_of parts) done past (same ∙ sym place));
      };
    }

module _ (parts : PlanParts) (callers : Callers) (past : List Done) (done : Done) where
  -- ---- a caller's step

  -- the step is of a caller, and its script is there
  caller-of : IsNextStep parts callers past done → actor_number done.actor ≢ length callers.by_number.items → AsksOf (network_of parts) past (actor_number done.actor) done.link done.ask
  caller-of due other =
      let place = plane-place parts callers.by_number.items past due.stand in
      caller-next (network_of parts) past done due.next (λ same. other (same ∙ place))

  pub caller-within : IsNextStep parts callers past done → actor_number done.actor ≢ length callers.by_number.items → actor_number done.actor < length callers.by_number.items
  caller-within due other =
      let place = plane-place parts callers.by_number.items past due.stand in
      let asks = caller-of due other in
      let within = slice_get_within (network_of parts).scripts (actor_number done.actor) asks.tasks asks.found in
      omega (arith, within, place)

  pub caller-left : (caller : Actor) → IsNextStep parts callers past done → slice_get callers.by_number.items (actor_number done.actor) ≡ Some caller → HasAskLeft parts caller (replies_to (actor_number done.actor) past)
  caller-left caller due found =
      let asks = caller-asks parts callers.by_number.items (actor_number done.actor) caller past due.stand found ∙ due.next.asked in
      record { stands = due.stand.stand (actor_number done.actor) caller found; left = subst (λ (next : Option (LinkNo × Ask)). IsSome next) (sym asks) refl }

  pub caller-expected : (caller : Actor) → IsNextStep parts callers past done → slice_get callers.by_number.items (actor_number done.actor) ≡ Some caller
      → expects (standing_in parts (actor_number caller.caller) (replies_to (actor_number done.actor) past)) done.reply ≡ true
  caller-expected caller due found =
      let within = slice_get_within callers.by_number.items (actor_number done.actor) caller found in
      let place = plane-place parts callers.by_number.items past due.stand in
      let asks = caller-of due (λ same. absurd (omega (arith, same, within))) in
      ap (λ n. expects (standing_in parts n (replies_to (actor_number done.actor) past)) done.reply) (due.stand.numbers (actor_number done.actor) caller found)
      ∙ ap (λ script. expects (standing_of script (replies_to (actor_number done.actor) past)) done.reply) asks.found
      ∙ replies-expected.callers (network_of parts) past done asks.tasks (plan-fits parts due.plan) (all-owned parts due.plan) due.run due.next (λ same. absurd (omega (arith, same, place, within))) asks.found

callers-with : (parts : PlanParts) (callers : List Actor) (past : List Done) (done : Done) (new : Actor) → AreCallers parts callers past → actor_number new.caller ≡ actor_number done.actor → CallerStands parts new (done.reply ∷ replies_to (actor_number done.actor) past)
    → AreCallers parts (set callers (actor_number done.actor) new) (done ∷ past)
callers-with parts callers past done new stand number stands =
    let at = actor_number done.actor in
    record {
      same = length-set callers at new ∙ stand.same;
      numbers = λ n caller found.
          elim (cases_Bool (nat_eq n at)) [
            | inl on ↦
                (let same : n ≡ at = eqb-true n at on in
                ap (λ (c : Actor). actor_number c.caller) (get-set-same callers at new caller (ap (slice_get (set callers at new)) (sym same) ∙ found)) ∙ number ∙ sym same)
            | inr off ↦ stand.numbers n caller (sym (get-set-other callers at n new (eqb-false n at off)) ∙ found)
          ];
      stand = λ n caller found.
          elim (cases_Bool (nat_eq n at)) [
            | inl on ↦
                (let same : n ≡ at = eqb-true n at on in
                let is = get-set-same callers at new caller (ap (slice_get (set callers at new)) (sym same) ∙ found) in
                let mine : CallerStands parts caller (done.reply ∷ replies_to at past) = subst (λ (c : Actor). CallerStands parts c (done.reply ∷ replies_to at past)) (sym is) stands in
                subst (CallerStands parts caller) (ap (λ m. done.reply ∷ replies_to m past) (sym same) ∙ sym (replies-by n done past (sym same))) mine)
            | inr off ↦
                (let other = eqb-false n at off in
                subst (CallerStands parts caller) (sym (replies-off n done past (λ same. other (sym same)))) (stand.stand n caller (sym (get-set-other callers at n new other) ∙ found)))
          ];
    }

pub caller-taken : (parts : PlanParts) (old new : Callers) (past : List Done) (done : Done) (caller next : Actor) → IsNextStep parts old past done → slice_get old.by_number.items (actor_number done.actor) ≡ Some caller
    → new.by_number.items ≡ set old.by_number.items (actor_number done.actor) next → next.caller ≡ caller.caller → ((replies : List Reply) → CallerStands parts caller replies → CallerStands parts next (done.reply ∷ replies)) → CallersStand parts new (done ∷ past)
caller-taken parts old new past done caller next due found is same taken =
    let at = actor_number done.actor in
    let was = due.stand.stand at caller found in
    subst (λ cs. AreCallers parts cs (done ∷ past)) (sym is) (callers-with parts old.by_number.items past done next due.stand (ap actor_number same ∙ due.stand.numbers at caller found) (taken (replies_to at past) was))

-- ---- a step of an actor

-- it is the next step of the callers, too
pub calls-next : (parts : PlanParts) (actors : Actors) (past : List Done) (done : Done) → IsDueStep parts actors past done → IsNextStep parts actors.callers past done
calls-next parts actors past done due = record { plan = due.plan; run = due.run; next = due.next; stand = due.stand.callers }

-- one of a caller leaves the plane as it is
pub calls-taken : (parts : PlanParts) (old new : Actors) (past : List Done) (done : Done) → IsDueStep parts old past done → actor_number done.actor ≢ length old.callers.by_number.items → CallersStand parts new.callers (done ∷ past) → new.plane ≡ old.plane
    → ActorsStand parts new (done ∷ past)
calls-taken parts old new past done due other callers plane =
    let place = plane-place parts old.callers.by_number.items past due.stand.callers in
    record {
      callers = callers;
      plane = subst (λ (p : PlaneAccount). PlaneStands (network_of parts) p (done ∷ past)) (sym plane)
          (record {
            links = due.stand.plane.links;
            rounds = due.stand.plane.rounds;
            at = due.stand.plane.at ∙ sym (plane-off (network_of parts) done past (λ is. other (is ∙ place)));
          });
    }
