-- An actor's steps come to an end: the greatest number of steps that it may have left falls with each step that it makes.
use Rattle.channel_move.proofs.AskByStage.{MoveAsks, AsksFirst, AsksSubmit, AsksRest, move-asks, rest-length}
use Rattle.std.proofs.Common.{◌≡◌, ◌≢◌, ℕ, zero, suc, ◌+◌, ◌*◌, ◌-◌, ◌<◌, ◌≤◌, Bool, Option, Some, None, IsSome, List, [], ◌∷◌, ◌++◌, length, find, refl, sym, ap, ◌∙◌, subst, inl, inr, arith}
use Rattle.run_engine.proofs.Words.{TaskFits, NetworkFits, Each, without_first, move_between, ready, Learnt, standing, standing_of, resumed, continued, from_step, takes_step, outcome_by, task_ask, first_ask, ask_at, cases_Bool, cases_lt, cond_both, eqb-true, eqb-false, eq-eqb, ne_eqb, length-append, slice_get_within, slice_get, nat_eq, link_number, actor_number, ActorNo, LinkNo, AreLevels, Hop, Ask, Reply, Sent, reply_to, Link, offers_in, after_offers, undoing, relaxing, on_the_way, after_test, asked, asked_of, next_ask, Request, Network, Task, Opens, Sends, Closes, Moves, plane_no, plane_at, next_for, IsNext, IsRun, done_at, stepped, step, replies_to, part_of, Done, Plane, is_due, next_due, flight_to, flight_in, plane_with, Flight}
use Rattle.std.proofs.Math.Nat.{suc-mul}
use Rattle.hop_reservation.proofs.OneMoreOffer.{levels-fit}
use Rattle.call_script.proofs.TaskBegins.{ready-keeps}
use Rattle.link_steps.specs.declared.replies.Reply.TheVariants as Is
use Rattle.relaxation.specs.declared.EndDenial.{EndDenial}
use Rattle.setup_protocol.specs.declared.verdict.Deny.{Deny}
use Rattle.setup_protocol.proofs.SetupAdvances.{progress-on_the_way, progress-tested}
use Rattle.run_engine.specs.runs.Turns.{most_steps, most_over, caller_most, plane_most, most_left, MakesOne, StepsComeToAnEnd}
use Rattle.run_engine.proofs.Tasks.CallerAsksFit.{OffersFit, first-fits, StandingFits}
use Rattle.run_engine.proofs.Tasks.LinksAsked.{asks-linked}
use Rattle.run_engine.proofs.Runs.RunLegal.{run-stands, caller-next, plane-next, plane-off, plane-by, replies-by, replies-off}
use Rattle.run_engine.proofs.Runs.RunOf.{step-is}
use Rattle.setup_protocol.proofs.AskedOnceMore.{count-all}

-- ---- a setup takes at most two steps a hop

undone-some : (request : Request) (left : ℕ) (deny : Deny) (to : LinkNo) (ask : Ask) → asked request (undoing left deny) ≡ Some (to, ask) → 1 ≤ left
undone-some request zero deny to ask same = cc
undone-some request (suc left) deny to ask same = omega arith

relaxed-some : (request : Request) (left : ℕ) (levels : List ℕ) (to : LinkNo) (ask : Ask) → asked request (relaxing request.route left levels) ≡ Some (to, ask) → 1 ≤ left
relaxed-some request zero levels to ask same = cc
relaxed-some request (suc left) levels to ask same = omega arith

-- on the way forward, with the replies after the offers
way-few : (request : Request) (offers : List ℕ) (reach : ℕ) (after : List Reply) (to : LinkNo) (ask : Ask) → length offers < length request.route → asked request (on_the_way offers reach after) ≡ Some (to, ask) → length offers + length after < 2 * length request.route
way-few request offers reach [] to ask fewer same = omega (arith, fewer)
way-few request offers reach (reply ∷ denied) to ask fewer same =
    let some = undone-some request (length offers - length denied) _ to ask same in
    omega (arith, fewer, some)

tested-few : (request : Request) (offers : List ℕ) (count : ℕ) (denial : Option EndDenial) (to : LinkNo) (ask : Ask) → asked request (after_test request offers count denial) ≡ Some (to, ask) → count < length request.route
tested-few request offers count (Some denial) to ask same = (let some = undone-some request (length request.route - count) _ to ask same in omega (arith, some))
tested-few request offers count None to ask same = (let some = relaxed-some request (length request.route - count) _ to ask same in omega (arith, some))

setup-few : (request : Request) (replies : List Reply) (to : LinkNo) (ask : Ask) → AreLevels request.route (offers_in replies) → next_ask request replies ≡ Some (to, ask) → length replies < 2 * length request.route
setup-few request replies to ask are same =
    let all = count-all replies in
    let fit = levels-fit request.route (offers_in replies) are in
    elim (cases_lt (length (offers_in replies)) (length request.route)) [
      | inl fewer ↦
          (let few = way-few request (offers_in replies) _ (after_offers replies) to ask fewer (subst (λ p. asked request p ≡ Some (to, ask)) (progress-on_the_way request replies fewer) same) in
          omega (arith, few, all))
      | inr whole ↦
          (let few = tested-few request (offers_in replies) (length (after_offers replies)) _ to ask (subst (λ p. asked request p ≡ Some (to, ask)) (progress-tested request replies whole) same) in
          omega (arith, few, all, fit))
    ]

-- ---- the steps of a task

-- a hop that is asked is there
hop-within : (hops : List Hop) (i : ℕ) (found : Option Hop) (to : LinkNo) (ask : Ask) (own : Hop → Ask) → slice_get hops i ≡ found → asked_of found own ≡ Some (to, ask) → i < length hops
hop-within hops i None to ask own is same = cc
hop-within hops i (Some hop) to ask own is same = slice_get_within hops i hop is

task-few : (links : List Link) (task : Task) (replies : List Reply) (to : LinkNo) (ask : Ask) → TaskFits links task → OffersFit (task ∷ []) replies → task_ask task replies ≡ Some (to, ask) → length replies < most_steps task
task-few links (Opens request) replies to ask fits are same = setup-few request replies to ask are same
task-few links (Sends link chan count gap size) [] to ask fits are same = omega arith
task-few links (Sends link chan count gap size) (reply ∷ replies) to ask fits are same = cc
task-few links (Closes request) replies to ask fits are same = hop-within request.route (length replies) (slice_get request.route (length replies)) to ask _ refl same
task-few links (Moves old new gap size) replies to ask fits are same = by (move-asks (move_between old new gap size) replies to ask same) where
  by : MoveAsks (move_between old new gap size) replies to ask → length replies < suc (length old.route)
  by (AsksFirst none at is) = (let e : length replies ≡ 0 = ap length none in omega (arith, e))
  by (AsksSubmit first one some at is) = (let e : length replies ≡ 1 = ap length one in let least = fits.of_old.route.least in omega (arith, e, least))
  by (AsksRest told made stage at is) = (let few = rest-length replies told made stage in let inside = slice_get_within old.route made at.hop at.stands in omega (arith, few.0, inside))

ready-most : (outcomes : List Learnt) (task : Task) → most_steps (ready outcomes task) ≡ most_steps task
ready-most outcomes task = ready-keeps (λ t. most_steps t ≡ most_steps task) (λ old new gap size other_gap other_size same. same) outcomes task refl

pub from-step-most : (outcomes : List Learnt) (tasks : List Task) → most_over (from_step outcomes tasks) ≤ most_over tasks
unfolding from_step most_over
from-step-most outcomes [] = omega arith
from-step-most outcomes (task ∷ tasks) =
    let rest = from-step-most outcomes tasks in
    cond_both (takes_step outcomes task) (ready outcomes task ∷ tasks) (from_step outcomes tasks) (λ ts. most_over ts ≤ most_steps task + most_over tasks) (λ _. (let same = ready-most outcomes task in omega (arith, same))) (λ _. omega (arith, rest))

-- ---- a caller with one reply more

continued-fewer : (outcomes : List Learnt) (task : Task) (tasks : List Task) (replies : List Reply) (reply : Reply) (next : Option (LinkNo × Ask)) → length replies < most_steps task
    → caller_most (continued outcomes task tasks (replies ++ reply ∷ []) next) < most_steps task + most_over tasks - length replies
unfolding most_over
continued-fewer outcomes task tasks replies reply (Some to) few = (let more = length-append replies (reply ∷ []) in omega (arith, few, more))
continued-fewer outcomes task tasks replies reply None few = (let rest = from-step-most (outcome_by task (replies ++ reply ∷ []) ++ outcomes) tasks in omega (arith, few, rest))

resumed-fewer : (links : List Link) (outcomes : List Learnt) (tasks : List Task) (replies : List Reply) (reply : Reply) (to : LinkNo) (ask : Ask) → Each (TaskFits links) tasks → OffersFit tasks replies → first_ask tasks replies ≡ Some (to, ask) → caller_most (resumed outcomes tasks (replies ++ reply ∷ [])) < most_over tasks - length replies
unfolding resumed most_over
resumed-fewer links outcomes [] replies reply to ask each are same = cc
resumed-fewer links outcomes (task ∷ tasks) replies reply to ask each are same =
    continued-fewer outcomes task tasks replies reply (task_ask task (replies ++ reply ∷ [])) (task-few links task replies to ask each.0 (first-fits task tasks replies are) same)

standing-fewer : (links : List Link) (tasks : List Task) (reply : Reply) (before : List Reply) (to : LinkNo) (ask : Ask) → StandingFits links (standing tasks before) → ask_at (standing tasks before) ≡ Some (to, ask) → caller_most (standing tasks (reply ∷ before)) < caller_most (standing tasks before)
unfolding standing
standing-fewer links tasks reply before to ask fits same = resumed-fewer links (standing tasks before).outcomes (standing tasks before).tasks (standing tasks before).replies reply to ask fits.tasks fits.offers same

-- ---- the plane with one reply more

without-fewer : (test : Flight → Bool) (flights : List Flight) (flight : Flight) → find test flights ≡ Some flight → suc (length (without_first test flights)) ≡ length flights
unfolding without_first
without-fewer test [] flight found = cc
without-fewer test (first ∷ flights) flight found =
    elim (cases_Bool (test first)) [
      | inl yes_it ↦ rw yes_it refl
      | inr other ↦ (let rest : find test flights ≡ Some flight = rw other at found in rw other (ap suc (without-fewer test flights flight rest)))
    ]

flight_to-few : (sent : Sent) (next : Option LinkNo) → length (flight_to sent next) ≤ 1
flight_to-few sent None = omega arith
flight_to-few sent (Some to) = omega arith

flight_in-few : (reply : Reply) → length (flight_in reply) ≤ 1
flight_in-few (Is.Ticked clock full (Some sent) best_sent best_lost) = flight_to-few sent sent.next
flight_in-few _ = omega arith

-- a round more has a tick of each link more
round-more : (rounds round links : ℕ) → round < rounds → (rounds - round) * links ≡ (rounds - suc round) * links + links
round-more rounds round links early =
    let one : rounds - round ≡ suc (rounds - suc round) = omega (arith, early) in
    ap (λ n. n * links) one ∙ suc-mul (rounds - suc round) links

ends-fewer : (all next links ticked flights new both : ℕ) → all ≡ next + links → ticked < links → new ≤ 1 → both ≡ flights + new → 2 * (next - 0) + both < 2 * (all - ticked) + flights
ends-fewer all next links ticked flights new both round within few are = omega (arith, round, within, few, are)

goes-fewer : (all next links ticked flights new both : ℕ) → all ≡ next + links → ticked < links → new ≤ 1 → both ≡ flights + new → 2 * (all - suc ticked) + both < 2 * (all - ticked) + flights
goes-fewer all next links ticked flights new both round within few are = omega (arith, round, within, few, are)

pub with-fewer : (links rounds : ℕ) (plane : Plane) (found : Option Flight) (reply : Reply) → next_due plane ≡ found → plane.ticked < links → plane.round < rounds → plane_most links rounds (plane_with links plane found reply) < plane_most links rounds plane
with-fewer links rounds plane (Some flight) reply due within early = (let one = without-fewer (is_due plane.round) plane.flights flight due in omega (arith, one))
with-fewer links rounds plane None reply due within early =
    let round = round-more rounds plane.round links early in
    let new = flight_in-few reply in
    let both = length-append plane.flights (flight_in reply) in
    elim (cases_Bool (nat_eq (suc plane.ticked) links)) [
      | inl last ↦ rw last (ends-fewer ((rounds - plane.round) * links) ((rounds - suc plane.round) * links) links plane.ticked (length plane.flights) (length (flight_in reply)) (length (plane.flights ++ flight_in reply)) round within new both)
      | inr more ↦ rw more (goes-fewer ((rounds - plane.round) * links) ((rounds - suc plane.round) * links) links plane.ticked (length plane.flights) (length (flight_in reply)) (length (plane.flights ++ flight_in reply)) round within new both)
    ]

-- ---- an actor

most-plane : (network : Network) (actor : ℕ) (run : List Done) → actor ≡ plane_no network → most_left network actor run ≡ plane_most (length network.links) network.rounds (plane_at network run)
unfolding most_left
most-plane network actor run same = rw (eq-eqb actor (plane_no network) same) refl

most-caller : (network : Network) (actor : ℕ) (run : List Done) → actor ≢ plane_no network → most_left network actor run ≡ caller_most (standing_of (slice_get network.scripts actor) (replies_to actor run))
unfolding most_left
most-caller network actor run other = rw (ne_eqb actor (plane_no network) other) refl

fewer-by : (old new one two : ℕ) → old ≡ one → new ≡ two → two < one → new < old
fewer-by old new one two is_old is_new less = omega (arith, is_old, is_new, less)

module _ (network : Network) (past : List Done) (done : Done) (fits : NetworkFits network) (run : IsRun network past) (next : IsNext network past done) where
  plane-fewer : actor_number done.actor ≡ plane_no network → most_left network (actor_number done.actor) (done ∷ past) < most_left network (actor_number done.actor) past
  plane-fewer same =
      let early = (plane-next network past done next same).early in
      let within = (run-stands network past fits run).ticked in
      fewer-by _ _ _ _ (most-plane network (actor_number done.actor) past same)
      (most-plane network (actor_number done.actor) (done ∷ past) same ∙ ap (plane_most (length network.links) network.rounds) (plane-by network done past same))
      (with-fewer (length network.links) network.rounds (plane_at network past) (next_due (plane_at network past)) done.reply refl within early)

  caller-fewer : actor_number done.actor ≢ plane_no network → most_left network (actor_number done.actor) (done ∷ past) < most_left network (actor_number done.actor) past
  caller-fewer other =
      let asks = caller-next network past done next other in
      let own = actor_number done.actor in
      let stands = (run-stands network past fits run).callers own asks.tasks asks.found in
      fewer-by _ _ _ _ (most-caller network own past other ∙ ap (λ script. caller_most (standing_of script (replies_to own past))) asks.found)
      (most-caller network own (done ∷ past) other ∙ ap (λ script. caller_most (standing_of script (replies_to own (done ∷ past)))) asks.found ∙ ap (λ replies. caller_most (standing asks.tasks replies)) (replies-by own done past refl))
      (standing-fewer network.links asks.tasks done.reply (replies_to own past) done.link done.ask stands asks.asks)

  next-fewer : most_left network (actor_number done.actor) (done ∷ past) < most_left network (actor_number done.actor) past
  next-fewer =
      elim (cases_Bool (nat_eq (actor_number done.actor) (plane_no network))) [
        | inl plane ↦ plane-fewer (eqb-true (actor_number done.actor) (plane_no network) plane)
        | inr caller ↦ caller-fewer (eqb-false (actor_number done.actor) (plane_no network) caller)
      ]

-- ---- the step of an actor with a step left

pub asks-some : (next : Option (LinkNo × Ask)) → IsSome next → (to : LinkNo × Ask) × (next ≡ Some to)
asks-some None some = cc
asks-some (Some to) some = (to, refl)

-- the entry of its next step
pub record Made (network : Network) (past : List Done) (actor : ActorNo) : Type 0 where
  pub done : Done
  pub by : done.actor ≡ actor
  pub next : IsNext network past done

pub made-next : (network : Network) (past : List Done) (actor : ActorNo) → NetworkFits network → IsRun network past → IsSome (next_for network (actor_number actor) past) → Made network past actor
made-next network past actor fits run some =
    let asks = asks-some (next_for network (actor_number actor) past) some in
    let there = asks-linked network past (actor_number actor) asks.0.0 asks.0.1 fits run asks.1 in
    record {
      done = record { actor = actor; link = asks.0.0; ask = asks.0.1; reply = reply_to there.link (part_of (link_number asks.0.0) past) asks.0.1 };
      by = refl;
      next = record { link = there.link; linked = there.found; asked = asks.1; answered = refl };
    }

pub makes-one : (network : Network) (past : List Done) (actor : ActorNo) → NetworkFits network → IsRun network past → IsSome (next_for network (actor_number actor) past) → MakesOne network actor past
makes-one network past actor fits run some =
    let made = made-next network past actor fits run some in
    let is : step network actor past ≡ made.done ∷ past = ap (λ a. step network a past) (sym made.by) ∙ step-is network past made.done made.next in
    let fewer : most_left network (actor_number actor) (made.done ∷ past) < most_left network (actor_number actor) past = subst (λ (a : ActorNo). most_left network (actor_number a) (made.done ∷ past) < most_left network (actor_number a) past) made.by (next-fewer network past made.done fits run made.next) in
    record { done = made.done; by = made.by; is = is; fewer = subst (λ run. most_left network (actor_number actor) run < most_left network (actor_number actor) past) (sym is) fewer }

-- ---- the steps of the others

most-off : (network : Network) (other : ℕ) (done : Done) (past : List Done) → other ≢ actor_number done.actor → most_left network other (done ∷ past) ≡ most_left network other past
most-off network other done past apart =
    elim (cases_Bool (nat_eq other (plane_no network))) [
      | inl plane ↦
          (let same = eqb-true other (plane_no network) plane in
          most-plane network other (done ∷ past) same ∙ ap (plane_most (length network.links) network.rounds) (plane-off network done past (λ by. apart (same ∙ sym by))) ∙ sym (most-plane network other past same))
      | inr caller ↦
          (let is = eqb-false other (plane_no network) caller in
          most-caller network other (done ∷ past) is ∙ ap (λ replies. caller_most (standing_of (slice_get network.scripts other) replies)) (replies-off other done past (λ by. apart (sym by))) ∙ sym (most-caller network other past is))
    ]

linked-off : (network : Network) (past : List Done) (actor : ActorNo) (other : ℕ) (to : LinkNo × Ask) (found : Option Link) → other ≢ actor_number actor → most_left network other (done_at actor past to found) ≡ most_left network other past
linked-off network past actor other to None apart = refl
linked-off network past actor other to (Some link) apart = most-off network other _ past apart

stepped-off : (network : Network) (past : List Done) (actor : ActorNo) (other : ℕ) (next : Option (LinkNo × Ask)) → other ≢ actor_number actor → most_left network other (stepped network actor past next) ≡ most_left network other past
stepped-off network past actor other None apart = refl
stepped-off network past actor other (Some to) apart = linked-off network past actor other to (slice_get network.links (link_number to.0)) apart

pub steps-end : StepsComeToAnEnd
steps-end = record {
  makes = makes-one;
  others = λ network past actor other apart. stepped-off network past actor other (next_for network (actor_number actor) past) apart;
}
