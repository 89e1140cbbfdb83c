-- No item of a schedule that is written of a run asks for more steps than an actor of a plan makes in all.
use Rattle.std.proofs.Common.{◌≡◌, ℕ, zero, suc, eqb, ◌+◌, ◌≤◌, List, [], ◌∷◌, ◌++◌, length, map, refl, sym, ap, ◌∙◌, inl, inr, arith}
use Rattle.std.proofs.lemmas.Bool.{cases_Bool, eq-eqb}
use Rattle.std.proofs.lemmas.List.{length-append, reverse-append}
use Rattle.std.proofs.lemmas.List.Elements.{filter-append}
use Rattle.std.specs.Prelude.{filter, reverse}
use Rattle.net_units.specs.Limits.{most_steps}
use Rattle.net_units.specs.Numbers.{actor_number}
use Rattle.net_units.specs.declared.numbers.ActorNo.{ActorNo}
use Rattle.link_steps.specs.Lists.{Each}
use Rattle.link_steps.proofs.SearchAndFilter.{Each-if, Each-both}
use Rattle.call_script.proofs.PlansFit.{plan-fits}
use Rattle.call_script.specs.Parts.{PlanParts}
use Rattle.call_script.specs.Plans.{IsPlan}
use Rattle.call_script.specs.Tasks.{network_of}
use Rattle.call_script.specs.declared.schedule.Do.{Do}
use Rattle.run_engine.specs.runs.Runs.{IsRun}
use Rattle.run_engine.specs.runs.Laws.{actor_of}
use Rattle.run_engine.specs.schedules.Schedules.{IsActorOf, repeated, turns_of}
use Rattle.run_engine.proofs.Schedules.ScheduleOutcome.{turns-append, turns-one}
use Rattle.run_engine.proofs.Tasks.StepCounts.{first-most, steps-most}
use Rattle.run_record.specs.Runs.{is_by, replies_to}
use Rattle.run_record.specs.declared.done.Done.{Done}
use Rattle.race_run.specs.Turns.{AreMaximalRuns, IsUnwritten, IsWritable, actors_of}
use Rattle.race_run.proofs.Weave.RunByActors.{turned-actors}

-- ---- in a schedule

-- how often an actor's turn comes
abbrev turns_for : ℕ → List ActorNo → ℕ
turns_for a actors = length (filter (λ (x : ActorNo). eqb (actor_number x) a) actors)

turns-both : (a : ℕ) (first second : List ActorNo) → turns_for a (first ++ second) ≡ turns_for a first + turns_for a second
turns-both a first second = ap length (filter-append (λ (x : ActorNo). eqb (actor_number x) a) first second) ∙ length-append (filter (λ (x : ActorNo). eqb (actor_number x) a) first) (filter (λ (x : ActorNo). eqb (actor_number x) a) second)

turns-turned : (a : ℕ) (actors : List ActorNo) → turns_for a (reverse actors) ≡ turns_for a actors
turns-turned a [] = refl
turns-turned a (x ∷ actors) =
    let rest = turns-turned a actors in
    let last = ap (turns_for a) (reverse-append (x ∷ []) actors) ∙ turns-both a (reverse actors) (x ∷ []) in
    let first = turns-both a (x ∷ []) actors in
    omega (arith, rest, last, first)

turns-run : (a : ℕ) (run : List Done) → turns_for a (map actor_of run) ≡ length (replies_to a run)
unfolding replies_to
turns-run a [] = refl
turns-run a (done ∷ past) =
    let rest = turns-run a past in
    elim (cases_Bool (is_by a done)) [
      | inl mine ↦ rw mine (ap suc rest)
      | inr other ↦ rw other rest
    ]

turns-repeated : (count : ℕ) (x : ActorNo) → turns_for (actor_number x) (repeated count x) ≡ count
unfolding repeated
turns-repeated zero x = refl
turns-repeated (suc count) x = rw (eq-eqb (actor_number x) (actor_number x) refl) (ap suc (turns-repeated count x))

items-few : (items : List Do) (top : ℕ) → ((a : ℕ) → turns_for a (turns_of items) ≤ top) → Each (λ (item : Do). item.count ≤ top) items
items-few [] top few = tt
items-few (item ∷ items) top few =
    let first : turns_of (item ∷ items) ≡ repeated item.count item.actor ++ turns_of items = turns-append (item ∷ []) items ∙ ap (λ ts. ts ++ turns_of items) (turns-one item) in
    let a = actor_number item.actor in
    let here = ap (turns_for a) first ∙ turns-both a (repeated item.count item.actor) (turns_of items) in
    let own = turns-repeated item.count item.actor in
    let most = few a in (
      omega (arith, here, own, most),
      items-few items top (λ k. let split = ap (turns_for k) first ∙ turns-both k (repeated item.count item.actor) (turns_of items) in let all = few k in omega (arith, split, all)),
    )

-- no item of a run's schedule has more steps than an actor makes
pub items-written : (parts : PlanParts) (entries : List Done) (items : List Do) → IsPlan parts → AreMaximalRuns (actors_of entries) items → IsRun (network_of parts) (reverse entries) → Each (IsActorOf parts) items → Each (IsWritable (length parts.callers)) items
items-written parts entries items plan runs is actors =
    let few = items-few items most_steps
    (λ a.
    let all = steps-most (network_of parts) a (reverse entries) (plan-fits parts plan) is in
    let most = first-most parts a plan in
    let same = ap (turns_for a) (runs.spelled ∙ sym (turned-actors entries)) ∙ turns-turned a (map actor_of (reverse entries)) ∙ turns-run a (reverse entries) in
    omega (arith, all, most, same)) in
    Each-if (λ (item : Do). IsActorOf parts item × (IsUnwritten item × (item.count ≤ most_steps))) (IsWritable (length parts.callers)) items
    (λ item all. record { actor = all.0; least = all.1.0.some; most = all.1.1 })
    (Each-both (IsActorOf parts) (λ (item : Do). IsUnwritten item × (item.count ≤ most_steps)) items actors (Each-both IsUnwritten (λ (item : Do). item.count ≤ most_steps) items runs.each few))
