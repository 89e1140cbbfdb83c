-- Where no caller has a step left, the turns that are left are the plane's.
use Rattle.std.proofs.Common.{◌≡◌, ◌≢◌, ℕ, zero, suc, ◌+◌, ◌%◌, ◌<◌, ◌≤◌, None, IsSome, List, ◌∷◌, length, sym, ap, ◌∙◌, subst, inl, inr, arith}
use Rattle.std.proofs.Math.Nat.{add-mod_left, mod-eq_of_lt}
use Rattle.std.proofs.lemmas.Bool.{cases_eq, cases_order}
use Rattle.std.specs.List.{slice_get}
use Rattle.net_units.specs.Numbers.{actor_number}
use Rattle.net_units.specs.declared.numbers.ActorNo.{ActorNo}
use Rattle.call_script.proofs.PlansFit.{plan-fits}
use Rattle.call_script.specs.Fits.{NetworkFits}
use Rattle.call_script.specs.Parts.{PlanParts}
use Rattle.call_script.specs.Scripts.{script_ask}
use Rattle.call_script.specs.Tasks.{Network, network_of}
use Rattle.run_engine.specs.runs.Runs.{plane_no, next_for, IsRun, run_from, step}
use Rattle.run_engine.specs.schedules.Quiet.{the_plane}
use Rattle.run_engine.specs.schedules.Schedules.{repeated, HaveSteps}
use Rattle.run_engine.specs.schedules.Watching.{PlaysOut}
use Rattle.run_engine.specs.declared.engine.Engine.{Engine}
use Rattle.run_engine.proofs.Keeping.KeptActors.{plane-number}
use Rattle.run_engine.proofs.Keeping.NextStep.{callers-few}
use Rattle.run_engine.proofs.Runs.RunLegal.{asked-caller, replies-off}
use Rattle.run_engine.proofs.Runs.RunOf.{step-run}
use Rattle.run_engine.proofs.Tasks.StepsRunOut.{steps-end}
use Rattle.run_engine.proofs.Watched.QuietRounds.{plane-is}
use Rattle.load_maker.proofs.WatchedTurns.{TurnsSoFar}
use Rattle.load_maker.proofs.TurnLaws.{beyond, goes-on-within}
use Rattle.load_maker.specs.SeenTurns.{HaveTurned}
use Rattle.load_maker.specs.TurnRuns.{goes_on_at, GoesByTurns, IsItsTurn}
use Rattle.run_record.specs.declared.done.Done.{Done}

-- no caller has a step left
abbrev pub AreOver : Network → List Done → Type 0
AreOver network run = (actor : ℕ) → actor ≢ plane_no network → next_for network actor run ≡ None

-- the circle goes on at the first caller
abbrev pub IsFirst : Network → List Done → Type 0
IsFirst network run = goes_on_at run % suc (plane_no network) ≡ 0

-- ---- the circle

-- from its start the numbers are the places
from-start : (from n count : ℕ) → from ≤ count → from % count ≡ 0 → n < count → (from + n) % count ≡ n
from-start from n count start first within =
    elim (cases_eq from count) [
      | inl whole ↦ ap (λ m. (m + n) % count) whole ∙ add-mod_left count n ∙ mod-eq_of_lt within
      | inr apart ↦
          (let less : from < count = omega (arith, start, apart) in
          let own : from % count ≡ from = mod-eq_of_lt less in
          let none : from ≡ 0 = sym own ∙ first in
          let same : from + n ≡ n = omega (arith, none) in
          ap (λ m. m % count) same ∙ mod-eq_of_lt within)
    ]

module _ (network : Network) (past : List Done) (run : IsRun network past) (first : IsFirst network past) where
  place-is : (n : ℕ) → n < suc (plane_no network) → (goes_on_at past + n) % suc (plane_no network) ≡ n
  place-is n within = from-start (goes_on_at past) n (suc (plane_no network)) (goes-on-within network past run) first within

  -- where the plane has the turn, all callers were passed over
  pub passed-over : IsItsTurn network past (plane_no network) → AreOver network past
  passed-over turn actor other =
      let within = turn.within in
      let all : plane_no network ≡ turn.passed = turn.stands ∙ place-is turn.passed (omega (arith, within)) in
      elim (cases_order actor (plane_no network)) [
        | inl same ↦ absurd (other same)
        | inr (inl less) ↦ subst (λ n. next_for network n past ≡ None) (place-is actor (omega (arith, less))) (turn.none actor (omega (arith, all, less)))
        | inr (inr more) ↦ beyond network actor past more
      ]

  -- and where they have no step left, it has the turn
  plane-turn : AreOver network past → IsSome (next_for network (plane_no network) past) → IsItsTurn network past (plane_no network)
  plane-turn over left = record {
    passed = plane_no network;
    within = omega arith;
    stands = sym (place-is (plane_no network) (omega arith));
    left = left;
    none = λ n less. subst (λ m. next_for network m past ≡ None) (sym (place-is n (omega (arith, less)))) (over n (λ same. absurd (omega (arith, same, less))));
  }

-- ---- the plane's steps

-- they leave the callers none
over-more : (network : Network) (past : List Done) (done : Done) → actor_number done.actor ≡ plane_no network → AreOver network past → AreOver network (done ∷ past)
over-more network past done same over actor other =
    asked-caller network actor (done ∷ past) other
    ∙ ap (script_ask (slice_get network.scripts actor)) (replies-off actor done past (λ is. other (sym is ∙ same)))
    ∙ sym (asked-caller network actor past other)
    ∙ over actor other

-- and after each the circle goes on at the first caller
first-more : (network : Network) (past : List Done) (done : Done) → actor_number done.actor ≡ plane_no network → IsFirst network (done ∷ past)
first-more network past done same =
    let none : 0 < suc (plane_no network) = omega arith in
    let whole : suc (actor_number done.actor) ≡ suc (plane_no network) + 0 = omega (arith, same) in
    ap (λ m. m % suc (plane_no network)) whole ∙ add-mod_left (suc (plane_no network)) 0 ∙ mod-eq_of_lt none

-- the run by turns goes on with them
pub record TurnsOn (network : Network) (run : List Done) : Type 0 where
  pub turns : GoesByTurns network run
  pub over : AreOver network run

turns-on : (network : Network) (n : ℕ) (past : List Done) → NetworkFits network → plane_no network ≤ 64 → IsRun network past → IsFirst network past → TurnsOn network past → HaveSteps network past (repeated n (the_plane network)) → TurnsOn network (run_from network past (repeated n (the_plane network)))
unfolding repeated HaveSteps run_from GoesByTurns
turns-on network zero past fits few run first on steps = on
turns-on network (suc n) past fits few run first on steps =
    let who : actor_number (the_plane network) ≡ plane_no network = plane-is network few in
    let makes = steps-end.makes network past (the_plane network) fits run steps.0 in
    let by : actor_number makes.done.actor ≡ plane_no network = ap (λ (a : ActorNo). actor_number a) makes.by ∙ who in
    let turn = plane-turn network past run first on.over (subst (λ m. IsSome (next_for network m past)) who steps.0) in
    let own : IsItsTurn network past (actor_number makes.done.actor) = subst (IsItsTurn network past) (sym by) turn in
    let goes : GoesByTurns network (makes.done ∷ past) = (on.turns, own) in
    let more : TurnsOn network (makes.done ∷ past) = record { turns = goes; over = over-more network past makes.done by on.over } in
    turns-on network n (step network (the_plane network) past) fits few (step-run network past (the_plane network) run)
    (subst (IsFirst network) (sym makes.is) (first-more network past makes.done by)) (subst (TurnsOn network) (sym makes.is) more) steps.1

-- ---- all of them

-- where the plane alone has steps left, and makes them, nobody has any
pub plane-alone : {W : Type 0} (saw : W → PlanParts → List Done → Type 0) (parts : PlanParts) (old new : Engine) (seen watch : W) (next made number : ℕ) → (turns : TurnsSoFar saw parts old seen next made) → next % (length parts.callers + 1) ≡ 0 → number ≡ length parts.callers → IsItsTurn (network_of parts) turns.run number
    → PlaysOut saw parts new watch turns.run (the_plane (network_of parts)) → HaveTurned saw parts new watch
plane-alone saw parts old new seen watch next made number turns first is turn out =
    let network = network_of parts in
    let plan = turns.stand.stands.plan in
    let run = turns.stand.stands.run in
    let place : plane_no network ≡ length parts.callers = plane-number parts in
    let callers = callers-few parts plan in
    let few : plane_no network ≤ 64 = omega (arith, place, callers) in
    let size : length parts.callers + 1 ≡ suc (plane_no network) = omega (arith, place) in
    let starts : IsFirst network turns.run = ap (λ n. n % suc (plane_no network)) (sym turns.goes_on) ∙ ap (λ n. next % n) (sym size) ∙ first in
    let own : IsItsTurn network turns.run (plane_no network) = subst (IsItsTurn network turns.run) (is ∙ sym place) turn in
    let on : TurnsOn network turns.run = record { turns = turns.turns; over = passed-over network turns.run run starts own } in
    let all = turns-on network out.out.count turns.run (plan-fits parts plan) few run starts on out.out.steps.served in
    let after : TurnsOn network out.run = subst (TurnsOn network) (sym out.out.steps.is) all in
    record {
      run = out.run;
      turns = after.turns;
      over = λ actor. elim (cases_eq actor (plane_no network)) [
        | inl same ↦ subst (λ n. next_for network n out.run ≡ None) (plane-is network few ∙ sym same) out.out.over
        | inr other ↦ after.over actor other
      ];
      stand = out.stand;
    }
