-- What the steps of an engine make of a schedule.
use Rattle.std.proofs.Common.{◌≡◌, ℕ, suc, ◌+◌, ◌-◌, ◌<◌, true, false, Option, Some, None, IsSome, List, [], ◌∷◌, ◌++◌, length, take, drop, get_or, refl, sym, ap, ◌∙◌, subst, arith}
use Rattle.run_engine.proofs.Words.{take-append-drop, actor_number, actor_at, ActorNo, LinkNo, Ask, Reply, PlanParts, Network, network_of, Do, plane_no, next_for, run_from, Done}
use Rattle.call_script.proofs.Walks.{before-at, left-at}
use Rattle.call_script.specs.declared.schedule.Schedule.{Schedule}
use Rattle.run_engine.specs.schedules.Schedules.{Turn, turn_of, repeated, lined_turns, turns_of, HaveSteps, FollowsTurns, Stops, StepsOut, PlayedOut, PlayedBy, IsPlayed, IsStop, IsMissing}
use Rattle.run_engine.specs.schedules.Standing.{StepsTo}
use Rattle.run_engine.specs.declared.playing.PlayFault.{PlayFault}
use Rattle.run_engine.specs.declared.playing.PlayFault.TheVariants.{Memory, Step}
use Rattle.run_engine.proofs.Keeping.KeptActors.{plane-number}
use Rattle.run_engine.proofs.Schedules.ScheduleOutcome.{follows-none, follows-one, follows-more, repeated-more, repeated-split, repeated-actors, lined-append, lined-one, turns-append, turns-one, stops-after, stops-before, stops-now}

-- ---- turns

-- the core's step is the actor's next
pub step-some : (next : Option (LinkNo × Ask)) (to : LinkNo × Ask) → next ≡ Some to → IsSome next
step-some None to is = cc
step-some (Some found) to is = refl

pub step-follows : (network : Network) (actor : ActorNo) (past : List Done) (reply : Reply) (run : List Done) → StepsTo network actor past reply run → FollowsTurns network past (actor ∷ []) run
step-follows network actor past reply run steps =
    follows-one network past run actor (subst (λ (a : ActorNo). IsSome (next_for network (actor_number a) past)) steps.by (step-some (next_for network (actor_number steps.done.actor) past) (steps.done.link, steps.done.ask) steps.next.asked)) steps.goes

-- no turn of the same actor
pub follows-start : (network : Network) (past : List Done) (actor : ActorNo) → FollowsTurns network past (repeated 0 actor) past
unfolding repeated
follows-start network past actor = follows-none network past

-- one turn more of the same actor
pub follows-again : (network : Network) (past mid run : List Done) (actor : ActorNo) (n : ℕ) → FollowsTurns network past (repeated n actor) mid → FollowsTurns network mid (actor ∷ []) run → FollowsTurns network past (repeated (n + 1) actor) run
follows-again network past mid run actor n before one = subst (λ actors. FollowsTurns network past actors run) (sym (repeated-more n actor)) (follows-more network past mid run (repeated n actor) (actor ∷ []) before one)

-- the turn at hand finds none left
missing-stops : (network : Network) (past mid : List Done) (turn : Turn) (n count : ℕ) (line made : ℕ) → n < count → FollowsTurns network past (repeated n turn.actor) mid → IsMissing network mid turn (Step line made) → Stops network past (repeated count turn) line made
missing-stops network past mid turn n count line made less before missing =
    subst (λ turns. Stops network past turns line made) (sym (repeated-split n count turn less))
    (stops-after network past mid (repeated n turn) (turn ∷ repeated (count - suc n) turn) line made (subst (λ actors. FollowsTurns network past actors mid) (sym (repeated-actors n turn)) before)
    (stops-now network mid turn (repeated (count - suc n) turn) line made missing.0 missing.1 missing.2))

pub item-stops : (network : Network) (past mid : List Done) (item : Do) (n : ℕ) (fault : PlayFault) → n < item.count → FollowsTurns network past (repeated n item.actor) mid → IsMissing network mid (turn_of item) fault → IsStop network past (repeated item.count (turn_of item)) fault
item-stops network past mid item n Memory less before missing = tt
item-stops network past mid item n (Step line made) less before missing = missing-stops network past mid (turn_of item) n item.count line made less before missing

-- one item more
pub items-again : (network : Network) (mid run : List Done) (items : List Do) (i : ℕ) (item : Do) → i < length items → item ≡ get_or items i item → FollowsTurns network [] (turns_of (take i items)) mid → FollowsTurns network mid (repeated item.count item.actor) run → FollowsTurns network [] (turns_of (take (i + 1) items)) run
items-again network mid run items i item within is before one =
    let all : turns_of (take (i + 1) items) ≡ turns_of (take i items) ++ repeated item.count item.actor = ap turns_of (before-at items i item within is) ∙ turns-append (take i items) (item ∷ []) ∙ ap (λ more. turns_of (take i items) ++ more) (turns-one item) in
    subst (λ actors. FollowsTurns network [] actors run) (sym all) (follows-more network [] mid run (turns_of (take i items)) (repeated item.count item.actor) before one)

-- the item at hand stops
items-stop-at : (network : Network) (mid : List Done) (items : List Do) (i : ℕ) (item : Do) (line made : ℕ) → i < length items → item ≡ get_or items i item → FollowsTurns network [] (turns_of (take i items)) mid → Stops network mid (repeated item.count (turn_of item)) line made → Stops network [] (lined_turns items) line made
items-stop-at network mid items i item line made within is before stop =
    let all : lined_turns items ≡ lined_turns (take i items) ++ (repeated item.count (turn_of item) ++ lined_turns (drop (i + 1) items)) =
    ap lined_turns (sym (take-append-drop i items) ∙ ap (λ more. take i items ++ more) (left-at items i item within is)) ∙ lined-append (take i items) (item ∷ drop (i + 1) items)
    ∙ ap (λ more. lined_turns (take i items) ++ more) (lined-append (item ∷ []) (drop (i + 1) items) ∙ ap (λ more. more ++ lined_turns (drop (i + 1) items)) (lined-one item)) in
    subst (λ turns. Stops network [] turns line made) (sym all)
    (stops-after network [] mid (lined_turns (take i items)) (repeated item.count (turn_of item) ++ lined_turns (drop (i + 1) items)) line made before
    (stops-before network mid (repeated item.count (turn_of item)) (lined_turns (drop (i + 1) items)) line made stop))

pub items-stop : (network : Network) (mid : List Done) (items : List Do) (i : ℕ) (item : Do) (fault : PlayFault) → i < length items → item ≡ get_or items i item → FollowsTurns network [] (turns_of (take i items)) mid → IsStop network mid (repeated item.count (turn_of item)) fault → IsStop network [] (lined_turns items) fault
items-stop network mid items i item Memory within is before stop = tt
items-stop network mid items i item (Step line made) within is before stop = items-stop-at network mid items i item line made within is before stop

pub none-played : (network : Network) (run : List Done) → run ≡ [] → FollowsTurns network [] (turns_of (take 0 [])) run
unfolding HaveSteps run_from lined_turns
none-played network run none = record { served = tt; is = none }

-- ---- each actor to its end

pub none-out : (parts : PlanParts) (run : List Done) → run ≡ [] → PlayedOut (network_of parts) 0 run
unfolding PlayedOut
none-out parts run none = none

pub out-again : (parts : PlanParts) (past run : List Done) (n : ℕ) (actor : ActorNo) → actor ≡ actor_at n → PlayedOut (network_of parts) n past → StepsOut (network_of parts) past actor run → PlayedOut (network_of parts) (n + 1) run
unfolding PlayedOut
out-again parts past run n actor is before out =
    let one : suc n ≡ n + 1 = omega arith in
    let own : PlayedOut (network_of parts) (suc n) run = (past, before, subst (λ (a : ActorNo). StepsOut (network_of parts) past a run) is out) in
    subst (λ m. PlayedOut (network_of parts) m run) one own

-- ---- a schedule

pub played-written : (parts : PlanParts) (schedule : Schedule) (items : List Do) (run made : List Done) → schedule.written ≡ true → items ≡ schedule.items → FollowsTurns (network_of parts) [] (turns_of items) run → run ≡ made → IsPlayed (network_of parts) schedule made
played-written parts schedule items run made written same follows is =
    subst (λ w. PlayedBy (network_of parts) w schedule.items made) (sym written) (subst (λ r. FollowsTurns (network_of parts) [] (turns_of schedule.items) r) is (subst (λ own. FollowsTurns (network_of parts) [] (turns_of own) run) same follows))

pub played-out : (parts : PlanParts) (schedule : Schedule) (run made : List Done) → schedule.written ≡ false → PlayedOut (network_of parts) (length parts.callers + 1) run → run ≡ made → IsPlayed (network_of parts) schedule made
played-out parts schedule run made written out is =
    let all : length parts.callers + 1 ≡ suc (plane_no (network_of parts)) = (let same = plane-number parts in omega (arith, same)) in
    subst (λ w. PlayedBy (network_of parts) w schedule.items made) (sym written) (subst (λ n. PlayedOut (network_of parts) n made) all (subst (λ r. PlayedOut (network_of parts) (length parts.callers + 1) r) is out))
