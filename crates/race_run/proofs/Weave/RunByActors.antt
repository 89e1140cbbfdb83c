-- A run is played by its list of actors in maximal runs, and all of these are actors of its plan.
use Rattle.std.proofs.Common.{◌≡◌, ℕ, zero, suc, ◌≤◌, List, [], ◌∷◌, ◌++◌, map, reverse, length, Option, Some, None, refl, sym, ap, ◌∙◌, subst, arith}
use Rattle.std.proofs.lemmas.List.{reverse-append, reverse-reverse}
use Rattle.std.specs.Prelude.{IsSome}
use Rattle.net_units.specs.Numbers.{actor_number}
use Rattle.net_units.specs.declared.numbers.ActorNo.{ActorNo}
use Rattle.net_units.proofs.ListPlaces.{map-reverse}
use Rattle.link_steps.specs.Lists.{Each}
use Rattle.link_steps.proofs.SearchAndFilter.{Each-map}
use Rattle.call_script.specs.Parts.{PlanParts}
use Rattle.call_script.specs.Tasks.{Network, network_of}
use Rattle.call_script.specs.declared.schedule.Do.{Do}
use Rattle.run_record.specs.declared.done.Done.{Done}
use Rattle.run_engine.specs.runs.Laws.{actor_of}
use Rattle.run_engine.specs.runs.Runs.{plane_no, next_for, IsRun}
use Rattle.run_engine.specs.schedules.Schedules.{FollowsTurns, IsActorOf, turns_of, repeated}
use Rattle.run_engine.proofs.Runs.RunLength.{asked-below}
use Rattle.run_engine.proofs.Runs.RunOf.{step-is}
use Rattle.run_engine.proofs.Schedules.ScheduleOutcome.{follows-none, follows-more, follows-one, turns-append, turns-one}
use Rattle.race_run.specs.Turns.{AreMaximalRuns, IsUnwritten, actors_of}
use Rattle.link_steps.proofs.ListParts.{Each-reverse}
use Rattle.run_engine.proofs.Keeping.KeptActors.{plane-number}

-- ---- played

pub some-of : {X : Type 0} (found : Option X) (x : X) → found ≡ Some x → IsSome found
some-of (Some y) x is = refl
some-of None x is = absurd (let clash : None ≡ Some x = is in cc)

-- a run is that of its own actors
follows-itself : (network : Network) (run : List Done) → IsRun network run → FollowsTurns network [] (reverse (map actor_of run)) run
unfolding IsRun
follows-itself network [] is = follows-none network []
follows-itself network (done ∷ past) is =
    subst (λ actors. FollowsTurns network [] actors (done ∷ past)) (sym (reverse-append (done.actor ∷ []) (map actor_of past)))
    (follows-more network [] past (done ∷ past) (reverse (map actor_of past)) (done.actor ∷ []) (follows-itself network past is.0)
    (follows-one network past (done ∷ past) done.actor (some-of (next_for network (actor_number done.actor) past) (done.link, done.ask) is.1.asked) (sym (step-is network past done is.1))))

pub turned-actors : (entries : List Done) → reverse (map actor_of (reverse entries)) ≡ actors_of entries
turned-actors entries = ap reverse (map-reverse actor_of entries) ∙ reverse-reverse (map actor_of entries)

pub run-follows : (network : Network) (entries : List Done) (items : List Do) → AreMaximalRuns (actors_of entries) items → IsRun network (reverse entries) → FollowsTurns network [] (turns_of items) (reverse entries)
run-follows network entries items runs is = subst (λ actors. FollowsTurns network [] actors (reverse entries)) (turned-actors entries ∙ sym runs.spelled) (follows-itself network (reverse entries) is)

-- ---- the actors

run-actors : (network : Network) (run : List Done) → IsRun network run → Each (λ (done : Done). actor_number done.actor ≤ plane_no network) run
unfolding IsRun
run-actors network [] is = tt
run-actors network (done ∷ past) is = (asked-below network past (actor_number done.actor) done.link done.ask is.1.asked, run-actors network past is.0)

front-has : (P : ActorNo → Type 0) (count : ℕ) (x : ActorNo) (rest : List ActorNo) → 1 ≤ count → Each P (repeated count x ++ rest) → P x
unfolding repeated
front-has P zero x rest some each = absurd (omega (arith, some))
front-has P (suc n) x rest some each = each.0

back-each : (P : ActorNo → Type 0) (xs ys : List ActorNo) → Each P (xs ++ ys) → Each P ys
back-each P [] ys each = each
back-each P (x ∷ xs) ys each = back-each P xs ys each.1

turns-each : (P : ActorNo → Type 0) (items : List Do) → Each IsUnwritten items → Each P (turns_of items) → Each (λ (item : Do). P item.actor) items
turns-each P [] unwritten each = tt
turns-each P (item ∷ items) unwritten each =
    let first : turns_of (item ∷ items) ≡ repeated item.count item.actor ++ turns_of items = turns-append (item ∷ []) items ∙ ap (λ ts. ts ++ turns_of items) (turns-one item) in
    let parted = subst (Each P) first each in
    (front-has P item.count item.actor (turns_of items) unwritten.0.some parted, turns-each P items unwritten.1 (back-each P (repeated item.count item.actor) (turns_of items) parted))

pub run-items : (parts : PlanParts) (entries : List Done) (items : List Do) → AreMaximalRuns (actors_of entries) items → IsRun (network_of parts) (reverse entries) → Each (IsActorOf parts) items
run-items parts entries items runs is =
    let below = run-actors (network_of parts) (reverse entries) is in
    let most = subst (λ n. Each (λ (done : Done). actor_number done.actor ≤ n) (reverse entries)) (plane-number parts) below in
    let P : ActorNo → Type 0 = λ actor. actor_number actor ≤ length parts.callers in
    let all : Each P (reverse (map actor_of (reverse entries))) = Each-reverse P (map actor_of (reverse entries)) (Each-map P actor_of (reverse entries) most) in
    turns-each P items runs.each (subst (Each P) (turned-actors entries ∙ sym runs.spelled) all)
