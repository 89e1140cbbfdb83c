-- A caller with one more reply. Where its task goes on, its work alone changes; where the task is over, the next one that takes a
-- step begins.
use Rattle.std.proofs.Common.{◌≡◌, ℕ, Option, Some, None, List, [], ◌∷◌, ◌++◌, length, map, drop, refl, sym, ap, ◌∙◌, subst, option_map}
use Rattle.std.proofs.lemmas.List.{length-map}
use Rattle.std.proofs.lemmas.Option.{same_Some}
use Rattle.std.specs.List.{slice_get}
use Rattle.net_units.specs.Numbers.{actor_number}
use Rattle.net_units.specs.declared.numbers.ActorNo.{ActorNo}
use Rattle.net_units.specs.declared.numbers.LinkNo.{LinkNo}
use Rattle.link_steps.specs.Lists.{Each}
use Rattle.link_steps.specs.declared.asks.Ask.{Ask}
use Rattle.link_steps.specs.declared.replies.Reply.{Reply}
use Rattle.setup_protocol.specs.declared.request.Request.{Request}
use Rattle.call_script.specs.Channels.{AreTold, IsOfChannelsBelow}
use Rattle.call_script.specs.Parts.{PlanParts, ArePlanned}
use Rattle.call_script.specs.Scripts.{Learnt, Standing, begun, continued, resumed, standing, task_ask}
use Rattle.call_script.specs.Standing.{requests_of, StandsAt, CallerStands}
use Rattle.call_script.specs.Tasks.{request_of, script_of, tasks_of}
use Rattle.call_script.specs.Work.{WorkStands, TurnStands, IsFinished, learnt_of}
use Rattle.call_script.specs.declared.channels.Channel.{Channel}
use Rattle.call_script.specs.declared.actor.Actor.{Actor}
use Rattle.call_script.specs.declared.entries.CallerEntry.{CallerEntry}
use Rattle.call_script.specs.declared.entries.RequestEntry.{RequestEntry}
use Rattle.call_script.specs.declared.operations.Op.{Op}
use Rattle.call_script.specs.declared.tasks.Task.{Task}
use Rattle.call_script.specs.declared.work.Known.{Known}
use Rattle.call_script.specs.declared.work.Turn.{Turn}
use Rattle.call_script.specs.declared.work.Turn.TheVariants as turn
use Rattle.call_script.specs.declared.work.Work.{Work}
use Rattle.call_script.proofs.ChannelsWithinPlan.{TaskWithin, script-within, told-within}

-- ---- where a caller stands with one reply more

resumed-on : (outcomes : List Learnt) (task : Task) (tasks : List Task) (replies : List Reply) (to : LinkNo) (ask : Ask)
    → task_ask task replies ≡ Some (to, ask)
    → resumed outcomes (task ∷ tasks) replies ≡ record { tasks = task ∷ tasks; replies = replies; outcomes = outcomes }
unfolding resumed
resumed-on outcomes task tasks replies to ask asks = ap (continued outcomes task tasks replies) asks

resumed-over : (outcomes own : List Learnt) (task : Task) (tasks : List Task) (replies : List Reply) → IsFinished task replies own
    → resumed outcomes (task ∷ tasks) replies ≡ begun (own ++ outcomes) tasks
unfolding resumed
resumed-over outcomes own task tasks replies over = ap (continued outcomes task tasks replies) over.asks ∙ ap (λ new. begun (new ++ outcomes) tasks) over.tells

standing-more : (tasks : List Task) (replies : List Reply) (reply : Reply)
    → standing tasks (reply ∷ replies) ≡ resumed (standing tasks replies).outcomes (standing tasks replies).tasks ((standing tasks replies).replies ++ reply ∷ [])
unfolding standing
standing-more tasks replies reply = refl

-- ---- the task under way

module _ (requests : List Request) (ops : List Op) (actor : Actor) where
  -- it goes on
  goes-on : (w : Work) (outcomes : List Learnt) (tasks : List Task) (replies : List Reply) (reply : Reply)
      → StandsAt requests ops actor (record { tasks = tasks; replies = replies; outcomes = outcomes })
      → TurnStands turn.On w tasks (replies ++ reply ∷ [])
      → StandsAt requests ops (record actor { work = w }) (resumed outcomes tasks (replies ++ reply ∷ []))
  goes-on w outcomes [] replies reply was on = absurd on
  goes-on w outcomes (task ∷ tasks) replies reply was on =
      subst (StandsAt requests ops (record actor { work = w })) (sym (resumed-on outcomes task tasks (replies ++ reply ∷ []) on.to on.ask on.asks)) (record {
        under_way = on.stands;
        rest = was.rest;
        within = was.within;
        outcomes = was.outcomes;
        channels = was.channels;
      })

  -- it is over, with these outcomes
  is-over : (new : Actor) (own outcomes : List Learnt) (task : Task) (tasks : List Task) (replies : List Reply) (reply : Reply)
      → StandsAt requests ops actor (record { tasks = task ∷ tasks; replies = replies; outcomes = outcomes })
      → IsFinished task (replies ++ reply ∷ []) own
      → StandsAt requests ops new (begun (own ++ outcomes) (tasks_of requests (drop actor.next ops)))
      → StandsAt requests ops new (resumed outcomes (task ∷ tasks) (replies ++ reply ∷ []))
  is-over new own outcomes task tasks replies reply was over begins =
      subst (StandsAt requests ops new) (ap (begun (own ++ outcomes)) (sym was.rest) ∙ sym (resumed-over outcomes own task tasks (replies ++ reply ∷ []) over)) begins

  -- with no outcome
  over-none : (new : Actor) (w : Work) (outcomes : List Learnt) (tasks : List Task) (replies : List Reply) (reply : Reply)
      → StandsAt requests ops actor (record { tasks = tasks; replies = replies; outcomes = outcomes })
      → TurnStands turn.Over w tasks (replies ++ reply ∷ [])
      → StandsAt requests ops new (begun outcomes (tasks_of requests (drop actor.next ops)))
      → StandsAt requests ops new (resumed outcomes tasks (replies ++ reply ∷ []))
  over-none new w outcomes [] replies reply was over begins = absurd over
  over-none new w outcomes (task ∷ tasks) replies reply was over begins = is-over new [] outcomes task tasks replies reply was over begins

  -- with one
  over-one : (new : Actor) (w : Work) (one : Known) (outcomes : List Learnt) (tasks : List Task) (replies : List Reply) (reply : Reply)
      → StandsAt requests ops actor (record { tasks = tasks; replies = replies; outcomes = outcomes })
      → TurnStands (turn.Settled one) w tasks (replies ++ reply ∷ [])
      → StandsAt requests ops new (begun (learnt_of one ∷ outcomes) (tasks_of requests (drop actor.next ops)))
      → StandsAt requests ops new (resumed outcomes tasks (replies ++ reply ∷ []))
  over-one new w one outcomes [] replies reply was over begins = absurd over
  over-one new w one outcomes (task ∷ tasks) replies reply was over begins = is-over new (learnt_of one ∷ []) outcomes task tasks replies reply was over begins

-- what it tells is of a channel of the plan
one-within : (count : ℕ) (w : Work) (one : Known) (tasks : List Task) (replies : List Reply) → Each (TaskWithin count) tasks
    → TurnStands (turn.Settled one) w tasks replies → IsOfChannelsBelow count (learnt_of one)
one-within count w one [] replies each over = absurd over
one-within count w one (task ∷ tasks) replies each over = told-within count task replies (learnt_of one) each.0 over

-- ---- the caller

-- its operations
pub ops-are : (found : Option CallerEntry) (caller : CallerEntry) (ops : List Op)
    → option_map (λ (entry : CallerEntry). entry.ops) found ≡ Some ops → found ≡ Some caller → caller.ops ≡ ops
ops-are found caller ops told is = same_Some caller.ops ops (sym (ap (option_map (λ (entry : CallerEntry). entry.ops)) is) ∙ told)

-- an actor of the same caller that is where the caller stands with one reply more
pub more-stands : (parts : PlanParts) (actor new : Actor) (replies : List Reply) (reply : Reply) (stands : CallerStands parts actor replies)
    → new.caller ≡ actor.caller
    → (let at = standing (script_of (requests_of parts) stands.caller) replies in StandsAt (requests_of parts) stands.caller.ops new (resumed at.outcomes at.tasks (at.replies ++ reply ∷ [])))
    → CallerStands parts new (reply ∷ replies)
more-stands parts actor new replies reply stands same at = record {
  caller = stands.caller;
  found = ap (λ c. slice_get parts.callers (actor_number c)) same ∙ stands.found;
  at = subst (StandsAt (requests_of parts) stands.caller.ops new) (sym (standing-more (script_of (requests_of parts) stands.caller) replies reply)) at;
}

pub turned-on : (parts : PlanParts) (actor : Actor) (w : Work) (took : Turn) (replies : List Reply) (reply : Reply)
    → CallerStands parts actor replies → took ≡ turn.On
    → ((tasks : List Task) (rs : List Reply) → WorkStands actor.work tasks rs → TurnStands took w tasks (rs ++ reply ∷ []))
    → CallerStands parts (record actor { work = w }) (reply ∷ replies)
turned-on parts actor w took replies reply stands is turns =
    let at : Standing = standing (script_of (requests_of parts) stands.caller) replies in
    more-stands parts actor (record actor { work = w }) replies reply stands refl
    (goes-on (requests_of parts) stands.caller.ops actor w at.outcomes at.tasks at.replies reply stands.at (subst (λ t. TurnStands t w at.tasks (at.replies ++ reply ∷ [])) is (turns at.tasks at.replies stands.at.under_way)))

-- the beginning of the next task, as it is told
begins-here : (parts : PlanParts) (requests : List RequestEntry) (caller : CallerEntry) (ops : List Op) (new : Actor) (outcomes : List Learnt) (next : ℕ)
    → requests ≡ parts.requests → caller.ops ≡ ops
    → StandsAt (map request_of requests) ops new (begun outcomes (tasks_of (map request_of requests) (drop next ops)))
    → StandsAt (requests_of parts) caller.ops new (begun outcomes (tasks_of (requests_of parts) (drop next caller.ops)))
begins-here parts requests caller ops new outcomes next same own begins =
    subst (λ os. StandsAt (requests_of parts) os new (begun outcomes (tasks_of (requests_of parts) (drop next os)))) (sym own)
    (subst (λ rs. StandsAt (map request_of rs) ops new (begun outcomes (tasks_of (map request_of rs) (drop next ops)))) same begins)

-- what the beginning of the next task promises, of all outcomes that are told
abbrev pub Begins : List RequestEntry → List Op → List Channel → ℕ → Actor → Type 0
Begins requests ops channels next new =
    (outcomes : List Learnt) → AreTold channels outcomes → length channels ≡ length requests
    → StandsAt (map request_of requests) ops new (begun outcomes (tasks_of (map request_of requests) (drop next ops)))

-- as many as requests
counted : (parts : PlanParts) (requests : List RequestEntry) (channels : List Channel) → requests ≡ parts.requests
    → length channels ≡ length (requests_of parts) → length channels ≡ length requests
counted parts requests channels same counts = counts ∙ length-map parts.requests request_of ∙ ap length (sym same)

pub turned-over : (parts : PlanParts) (actor new : Actor) (w : Work) (took : Turn) (ops : List Op) (requests : List RequestEntry) (replies : List Reply) (reply : Reply)
    → CallerStands parts actor replies → took ≡ turn.Over
    → ((tasks : List Task) (rs : List Reply) → WorkStands actor.work tasks rs → TurnStands took w tasks (rs ++ reply ∷ []))
    → option_map (λ (entry : CallerEntry). entry.ops) (slice_get parts.callers (actor_number actor.caller)) ≡ Some ops
    → requests ≡ parts.requests → new.caller ≡ actor.caller → Begins requests ops actor.channels.by_number.items actor.next new
    → CallerStands parts new (reply ∷ replies)
turned-over parts actor new w took ops requests replies reply stands is turns told same kept begins =
    let at : Standing = standing (script_of (requests_of parts) stands.caller) replies in
    more-stands parts actor new replies reply stands kept
    (over-none (requests_of parts) stands.caller.ops actor new w at.outcomes at.tasks at.replies reply stands.at (subst (λ t. TurnStands t w at.tasks (at.replies ++ reply ∷ [])) is (turns at.tasks at.replies stands.at.under_way))
    (begins-here parts requests stands.caller ops new at.outcomes actor.next same (ops-are _ stands.caller ops told stands.found)
    (begins at.outcomes stands.at.outcomes (counted parts requests actor.channels.by_number.items same stands.at.channels))))

pub turned-settled : (parts : PlanParts) (actor new : Actor) (w : Work) (took : Turn) (one : Known) (channels : List Channel) (ops : List Op) (requests : List RequestEntry) (replies : List Reply) (reply : Reply)
    → CallerStands parts actor replies → took ≡ turn.Settled one
    → ((tasks : List Task) (rs : List Reply) → WorkStands actor.work tasks rs → TurnStands took w tasks (rs ++ reply ∷ []))
    → option_map (λ (entry : CallerEntry). entry.ops) (slice_get parts.callers (actor_number actor.caller)) ≡ Some ops
    → requests ≡ parts.requests → new.caller ≡ actor.caller → length channels ≡ length actor.channels.by_number.items
    → ((outcomes : List Learnt) → AreTold actor.channels.by_number.items outcomes → AreTold channels (learnt_of one ∷ outcomes))
    → Begins requests ops channels actor.next new → CallerStands parts new (reply ∷ replies)
turned-settled parts actor new w took one channels ops requests replies reply stands is turns told same kept counts noted begins =
    let at : Standing = standing (script_of (requests_of parts) stands.caller) replies in
    more-stands parts actor new replies reply stands kept
    (over-one (requests_of parts) stands.caller.ops actor new w one at.outcomes at.tasks at.replies reply stands.at (subst (λ t. TurnStands t w at.tasks (at.replies ++ reply ∷ [])) is (turns at.tasks at.replies stands.at.under_way))
    (begins-here parts requests stands.caller ops new (learnt_of one ∷ at.outcomes) actor.next same (ops-are _ stands.caller ops told stands.found)
    (begins (learnt_of one ∷ at.outcomes) (noted at.outcomes stands.at.outcomes) (counted parts requests channels same (counts ∙ stands.at.channels)))))

-- what it has learnt then is of a channel that is kept
pub learnt-within : (parts : PlanParts) (actor : Actor) (w : Work) (took : Turn) (one : Known) (replies : List Reply) (reply : Reply)
    → ArePlanned parts → CallerStands parts actor replies → took ≡ turn.Settled one
    → ((tasks : List Task) (rs : List Reply) → WorkStands actor.work tasks rs → TurnStands took w tasks (rs ++ reply ∷ []))
    → IsOfChannelsBelow (length actor.channels.by_number.items) (learnt_of one)
learnt-within parts actor w took one replies reply planned stands is turns =
    let at : Standing = standing (script_of (requests_of parts) stands.caller) replies in
    subst (λ n. IsOfChannelsBelow n (learnt_of one)) (sym stands.at.channels)
    (one-within (length (requests_of parts)) w one at.tasks (at.replies ++ reply ∷ []) (script-within parts stands.caller.ops replies planned)
    (subst (λ t. TurnStands t w at.tasks (at.replies ++ reply ∷ [])) is (turns at.tasks at.replies stands.at.under_way)))

-- an actor that begins stands for no replies
pub fresh-stands : (parts : PlanParts) (actor : Actor) (caller : ActorNo) (ops : List Op) (requests : List RequestEntry) (channels : List Channel)
    → option_map (λ (entry : CallerEntry). entry.ops) (slice_get parts.callers (actor_number caller)) ≡ Some ops → requests ≡ parts.requests
    → actor.caller ≡ caller → AreTold channels [] → length channels ≡ length requests → Begins requests ops channels 0 actor
    → CallerStands parts actor []
unfolding standing
fresh-stands parts actor caller ops requests channels told same own none counts begins = by (slice_get parts.callers (actor_number caller)) refl told where
  by : (found : Option CallerEntry) → slice_get parts.callers (actor_number caller) ≡ found
      → option_map (λ (entry : CallerEntry). entry.ops) found ≡ Some ops → CallerStands parts actor []
  by None is none = cc
  by (Some entry) is some = record {
    caller = entry;
    found = ap (λ c. slice_get parts.callers (actor_number c)) own ∙ is;
    at = begins-here parts requests entry ops actor [] 0 same (same_Some entry.ops ops some) (begins [] none counts);
  }
