-- A run of a plan is short: each actor makes at most 1,048,576 steps, and there are at most 65 actors.
use Rattle.std.proofs.Common.{◌≡◌, ℕ, zero, suc, ◌+◌, ◌*◌, ◌^◌, ◌<◌, ◌≤◌, None, Some, List, [], ◌∷◌, length, refl, sym, ap, inl, inr, arith}
use Rattle.run_engine.proofs.Words.{cases_eq, cases_lt, ne_eqb, slice_get_past, actor_number, ActorNo, LinkNo, Ask, NetworkFits, PlanParts, IsPlan, Network, network_of, plane_no, next_for, IsRun, step, run_from, replies_to, Done}
use Rattle.call_script.proofs.PlansFit.{plan-fits}
use Rattle.run_engine.specs.schedules.Schedules.{HaveSteps, FollowsTurns, repeated}
use Rattle.run_engine.proofs.Keeping.KeptActors.{plane-number}
use Rattle.run_engine.proofs.Tasks.StepCounts.{first-most, steps-most}
use Rattle.run_engine.proofs.Keeping.NextStep.{callers-few}
use Rattle.run_engine.proofs.Runs.RunLegal.{replies-by, replies-off}
use Rattle.run_engine.proofs.Runs.RunOf.{step-run}
use Rattle.run_engine.proofs.Tasks.StepsRunOut.{steps-end}

-- an actor that asks something is a caller or the plane
pub asked-below : (network : Network) (past : List Done) (actor : ℕ) (to : LinkNo) (ask : Ask) → next_for network actor past ≡ Some (to, ask) → actor ≤ plane_no network
unfolding next_for
asked-below network past actor to ask asked = elim (cases_lt (plane_no network) actor) [
  | inl above ↦ absurd (let other = ne_eqb actor (plane_no network) (λ same. absurd (omega (arith, above, same))) in
      let none = slice_get_past network.scripts actor (omega (arith, above)) in
      let clash : None ≡ Some (to, ask) = rw (other, none) at asked in cc)
  | inr upto ↦ upto
]

-- ---- the steps of the first actors

steps_to : ℕ → List Done → ℕ
steps_to zero run = 0
steps_to (suc n) run = length (replies_to n run) + steps_to n run

steps-off : (n : ℕ) (done : Done) (past : List Done) → n ≤ actor_number done.actor → steps_to n (done ∷ past) ≡ steps_to n past
unfolding steps_to
steps-off zero done past beyond = refl
steps-off (suc n) done past beyond =
    let here = ap length (replies-off n done past (λ same. absurd (omega (arith, beyond, same)))) in
    let rest = steps-off n done past (omega (arith, beyond)) in
    omega (arith, here, rest)

steps-on : (n : ℕ) (done : Done) (past : List Done) → actor_number done.actor < n → steps_to n (done ∷ past) ≡ suc (steps_to n past)
unfolding steps_to
steps-on zero done past among = absurd (omega (arith, among))
steps-on (suc n) done past among = elim (cases_eq (actor_number done.actor) n) [
  | inl own ↦ (let here = ap length (replies-by n done past own) in let rest = steps-off n done past (omega (arith, own)) in omega (arith, here, rest))
  | inr other ↦ (let here = ap length (replies-off n done past other) in let rest = steps-on n done past (omega (arith, among, other)) in omega (arith, here, rest))
]

none-to : (n : ℕ) → steps_to n [] ≡ 0
unfolding replies_to steps_to
none-to zero = refl
none-to (suc n) = (let rest = none-to n in omega (arith, rest))

-- all steps of a run are those of its actors
run-steps : (network : Network) (run : List Done) → IsRun network run → length run ≡ steps_to (suc (plane_no network)) run
unfolding IsRun steps_to
run-steps network [] is = sym (none-to (suc (plane_no network)))
run-steps network (done ∷ past) is =
    let below = asked-below network past (actor_number done.actor) done.link done.ask is.1.asked in
    let rest = run-steps network past is.0 in
    let more = steps-on (suc (plane_no network)) done past (omega (arith, below)) in
    omega (arith, rest, more)

steps-few : (parts : PlanParts) (run : List Done) (n : ℕ) → IsPlan parts → IsRun (network_of parts) run → steps_to n run ≤ n * 1048576
unfolding steps_to
steps-few parts run zero plan is = omega arith
steps-few parts run (suc n) plan is =
    let all = steps-most (network_of parts) n run (plan-fits parts plan) is in
    let most = first-most parts n plan in
    let rest = steps-few parts run n plan is in
    omega (arith, all, most, rest)

-- ---- a run is short

pub run-short : (parts : PlanParts) (run : List Done) → IsPlan parts → IsRun (network_of parts) run → length run < 2 ^ 60
run-short parts run plan is =
    let all = run-steps (network_of parts) run is in
    let few = steps-few parts run (suc (plane_no (network_of parts))) plan is in
    let plane = plane-number parts in
    let callers = callers-few parts plan in
    omega (arith, all, few, plane, callers)

-- turns that each find a step make a run so much longer
pub follows-longer : (network : Network) (past run : List Done) (actors : List ActorNo) → NetworkFits network → IsRun network past → FollowsTurns network past actors run → length run ≡ length actors + length past
unfolding HaveSteps run_from
follows-longer network past run [] fits is follows = (let same : length run ≡ length past = ap length follows.is in omega (arith, same))
follows-longer network past run (actor ∷ actors) fits is follows =
    let made = steps-end.makes network past actor fits is follows.served.0 in
    let going : IsRun network (step network actor past) = step-run network past actor is in
    let rest = follows-longer network (step network actor past) run actors fits going (record { served = follows.served.1; is = follows.is }) in
    let more = ap length made.is in
    omega (arith, rest, more)

pub repeated-long : {X : Type 0} (n : ℕ) (x : X) → length (repeated n x) ≡ n
unfolding repeated
repeated-long zero x = refl
repeated-long (suc n) x = ap suc (repeated-long n x)

-- no actor makes so many steps in a row
pub never-so-many : (parts : PlanParts) (past run : List Done) (actor : ActorNo) (n : ℕ) → IsPlan parts → IsRun (network_of parts) past → IsRun (network_of parts) run → FollowsTurns (network_of parts) past (repeated n actor) run → n < 2 ^ 60
never-so-many parts past run actor n plan before is follows =
    let long = follows-longer (network_of parts) past run (repeated n actor) (plan-fits parts plan) before follows in
    let short = run-short parts run plan is in
    let many = repeated-long n actor in
    omega (arith, long, short, many)
