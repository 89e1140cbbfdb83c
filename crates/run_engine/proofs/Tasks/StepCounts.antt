-- How many steps an actor of a plan makes in all: 32 to open a request, 16 to close one, 17 to move one's packets to another and one
-- to send packets, and two for each link and round of the plane. So it is at most 1,048,576.
use Rattle.std.proofs.Common.{◌≡◌, ℕ, eqb, ◌+◌, ◌*◌, ◌-◌, ◌<◌, ◌≤◌, Some, None, Option, List, [], ◌∷◌, length, map, refl, sym, ap, ◌∙◌, subst, inl, inr, arith}
use Rattle.run_engine.proofs.Words.{cases_Bool, and_parts, eqb-true, eqb-false, leb-true, length-map, same_Some, slice_get-map, slice_get, nat_le, actor_number, channel_number, Hop, Request, total, NetworkFits, PlanParts, openings_in, HasTerms, IsPlan, standing, standing_of, entry_link, groups_in, Network, move_for, network_of, request_of, script_of, send_on, task_for, tasks_of, with_task, Task, Opens, Sends, Closes, plane_no, next_for, IsRun, step, is_by, replies_to, Done, plane_of}
use Rattle.std.specs.Prelude.{option_map}
use Rattle.net_units.specs.Limits.{most_steps}
use Rattle.link_steps.proofs.ListParts.{Each-at}
use Rattle.call_script.proofs.RulesAreKept.{keeps-rules}
use Rattle.call_script.specs.Rules.{are_within_load, load_in}
use Rattle.call_script.specs.declared.entries.CallerEntry.{CallerEntry}
use Rattle.call_script.specs.declared.entries.RequestEntry.{RequestEntry}
use Rattle.call_script.specs.declared.operations.Op.{Op}
use Rattle.call_script.specs.declared.operations.Op.TheVariants.{Open, Send, Close, Move}
use Rattle.call_script.specs.declared.roles.Role.TheVariants as role
use Rattle.run_engine.specs.runs.Turns.{caller_most, most_left, most_over, most_steps as steps_of}
use Rattle.run_engine.proofs.Tasks.OpsFew.{carries, channels_in, kinds-few}
use Rattle.run_engine.proofs.Schedules.PlayedTurns.{step-some}
use Rattle.run_engine.proofs.Runs.RunOf.{step-is}
use Rattle.run_engine.proofs.Tasks.StepsRunOut.{from-step-most, steps-end}

-- ---- the steps of a caller's tasks

ShortRoutes : List Request → Type 0
ShortRoutes requests = (k : ℕ) (request : Request) → slice_get requests k ≡ Some request → length request.route ≤ 16

-- the task of one operation, if there is one, with those of the others
one-most : {X : Type 0} (own : X → Task) (most : ℕ) (found : Option X) (tasks : List Task) → ((x : X) → found ≡ Some x → steps_of (own x) ≤ most) → most_over (with_task (option_map own found) tasks) ≤ most + most_over tasks
unfolding most_over
one-most own most None tasks each = omega arith
one-most own most (Some x) tasks each = (let few = each x refl in omega (arith, few))

send-most : (found : Option Request) (count gap size : ℕ) (tasks : List Task) → most_over (with_task (task_for (send_on count gap size) found) tasks) ≤ 1 + most_over tasks
send-most None count gap size tasks = omega arith
send-most (Some request) count gap size tasks = one-most (λ (hop : Hop). Sends hop.link (Some request.chan) count gap size) 1 (slice_get request.route 0) tasks (λ hop there. omega arith)

move-most : (old new : Option Request) (tasks : List Task) → ((request : Request) → old ≡ Some request → length request.route ≤ 16) → most_over (with_task (move_for old new) tasks) ≤ 17 + most_over tasks
unfolding most_over
move-most None new tasks short = omega arith
move-most (Some old) None tasks short = omega arith
move-most (Some old) (Some new) tasks short = (let few = short old refl in omega (arith, few))

tasks-most : (requests : List Request) (n : ℕ) (ops : List Op) → ShortRoutes requests
    → most_over (tasks_of requests ops) ≤ 32 * length (openings_in n ops) + 16 * length (channels_in role.Closes ops) + 17 * length (channels_in role.Joins ops) + total carries ops
unfolding ShortRoutes tasks_of openings_in most_over
tasks-most requests n [] short = omega arith
tasks-most requests n (Open chan ∷ ops) short =
    let rest = tasks-most requests n ops short in
    let here = one-most (λ (r : Request). Opens r) 32 (slice_get requests (channel_number chan)) (tasks_of requests ops) (λ request there. (let few = short (channel_number chan) request there in omega (arith, few))) in
    omega (arith, rest, here)
tasks-most requests n (Send chan count gap size ∷ ops) short =
    let rest = tasks-most requests n ops short in
    let here = send-most (slice_get requests (channel_number chan)) count gap size (tasks_of requests ops) in
    omega (arith, rest, here)
tasks-most requests n (Close chan ∷ ops) short =
    let rest = tasks-most requests n ops short in
    let here = one-most (λ (r : Request). Closes r) 16 (slice_get requests (channel_number chan)) (tasks_of requests ops) (short (channel_number chan)) in
    omega (arith, rest, here)
tasks-most requests n (Move old new ∷ ops) short =
    let rest = tasks-most requests n ops short in
    let here = move-most (slice_get requests (channel_number old)) (slice_get requests (channel_number new)) (tasks_of requests ops) (short (channel_number old)) in
    omega (arith, rest, here)
tasks-most requests n (_ ∷ ops) short = (let rest = tasks-most requests n ops short in omega (arith, rest))

-- ---- a caller of a plan

short-routes : (parts : PlanParts) → IsPlan parts → ShortRoutes (map request_of parts.requests)
unfolding ShortRoutes
short-routes parts plan k request found =
    short (slice_get parts.requests k) refl (sym (slice_get-map request_of parts.requests k) ∙ found)
  where
    short : (there : Option RequestEntry) → slice_get parts.requests k ≡ there → option_map request_of there ≡ Some request → length request.route ≤ 16
    short None at is = absurd (let clash : None ≡ Some request = is in cc)
    short (Some entry) at is = subst (λ (r : Request). length r.route ≤ 16) (same_Some (request_of entry) request is) (Each-at HasTerms parts.requests k entry plan.terms at).route.most

-- 32,768 to open, 16,384 to close, 17,408 to move, and 262,144 to send
caller-steps : (parts : PlanParts) (n : ℕ) (caller : CallerEntry) → IsPlan parts → slice_get parts.callers n ≡ Some caller → most_over (script_of (map request_of parts.requests) caller) ≤ most_steps
caller-steps parts n caller plan found =
    let few = kinds-few parts n caller plan found in
    let most = tasks-most (map request_of parts.requests) n caller.ops (short-routes parts plan) in
    let opens = few.opens in
    let closes = few.closes in
    let joins = few.joins in
    let carried = few.carried in
    omega (arith, most, opens, closes, joins, carried)

-- ---- the steps of any actor

script-most : (parts : PlanParts) (a : ℕ) (there : Option CallerEntry) → IsPlan parts → slice_get parts.callers a ≡ there → caller_most (standing_of (option_map (script_of (map request_of parts.requests)) there) []) ≤ most_steps
unfolding standing most_over
script-most parts a None plan at = omega arith
script-most parts a (Some caller) plan at =
    let script : List Task = script_of (map request_of parts.requests) caller in
    let from = from-step-most [] script in
    let few = caller-steps parts a caller plan at in
    omega (arith, from, few)

pub first-most : (parts : PlanParts) (a : ℕ) → IsPlan parts → most_left (network_of parts) a [] ≤ most_steps
unfolding most_left replies_to plane_of network_of are_within_load
first-most parts a plan = elim (cases_Bool (eqb a (plane_no (network_of parts)))) [
  | inl plane ↦ (let split = and_parts (nat_le (load_in parts.requests parts.callers) 262144) _ (keeps-rules parts plan.kept).load in
      let few = leb-true ((parts.rounds + parts.tail) * length parts.links) 524288 split.1 in
      let all : (parts.rounds + parts.tail) - 0 ≡ parts.rounds + parts.tail = omega arith in
      let same = ap (λ n. n * length parts.links) all in
      rw (plane, length-map parts.links (entry_link (groups_in parts))) (omega (arith, few, same)))
  | inr caller ↦ rw (caller, slice_get-map (script_of (map request_of parts.requests)) parts.callers a) (script-most parts a (slice_get parts.callers a) plan refl)
]

pub steps-most : (network : Network) (a : ℕ) (run : List Done) → NetworkFits network → IsRun network run → length (replies_to a run) + most_left network a run ≤ most_left network a []
unfolding IsRun replies_to
steps-most network a [] fits is = omega arith
steps-most network a (done ∷ past) fits is =
    let rest = steps-most network a past fits is.0 in
    let went : step network done.actor past ≡ done ∷ past = step-is network past done is.1 in
    elim (cases_Bool (is_by a done)) [
      | inl mine ↦ (let one = steps-end.makes network past done.actor fits is.0 (step-some (next_for network (actor_number done.actor) past) (done.link, done.ask) is.1.asked) in
          let fewer : most_left network a (done ∷ past) < most_left network a past =
          subst (λ k. most_left network k (done ∷ past) < most_left network k past) (eqb-true (actor_number done.actor) a mine) (subst (λ run. most_left network (actor_number done.actor) run < most_left network (actor_number done.actor) past) went one.fewer) in
          rw mine (omega (arith, rest, fewer)))
      | inr other ↦ (let same : most_left network a (done ∷ past) ≡ most_left network a past =
          ap (most_left network a) (sym went) ∙ steps-end.others network past done.actor a (λ e. eqb-false (actor_number done.actor) a other (sym e)) in
          rw other (omega (arith, rest, same)))
    ]
