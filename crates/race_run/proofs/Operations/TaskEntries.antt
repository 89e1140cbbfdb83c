-- A caller's own entries with one more entry, and with all entries of one more task: they are what it asks, and after the
-- task's last reply it stands before its next task.
use Rattle.std.proofs.Common.{◌≡◌, false, List, [], ◌∷◌, ◌++◌, map, reverse, Some, None, refl, sym, ap, ◌∙◌, subst}
use Rattle.std.proofs.lemmas.List.{append_assoc, map-append, reverse-append}
use Rattle.std.specs.List.{slice_get}
use Rattle.std.specs.Prelude.{nat_eq}
use Rattle.net_units.specs.Numbers.{actor_number}
use Rattle.net_units.specs.declared.numbers.ActorNo.{ActorNo}
use Rattle.net_units.proofs.ListPlaces.{map-reverse}
use Rattle.link_steps.specs.declared.replies.Reply.{Reply}
use Rattle.link_ledger.specs.declared.entries.OwnEntry.{OwnEntry}
use Rattle.shared_network.specs.Calls.{Follows, reply_in}
use Rattle.call_script.specs.Scripts.{Standing, Learnt, ask_at, begun, continued, replied, resumed, standing, task_ask, outcome_by}
use Rattle.call_script.specs.Tasks.{Network}
use Rattle.call_script.specs.declared.tasks.Task.{Task}
use Rattle.run_engine.specs.runs.Parts.{IsAsked, next_after, reply_of}
use Rattle.run_engine.specs.runs.Runs.{plane_no}
use Rattle.race_run.specs.Whole.{own_done}

-- ---- own entries, newest first

pub turned-last : {X Y : Type 0} (f : X → Y) (xs : List X) (x : X) → reverse (map f (xs ++ x ∷ [])) ≡ f x ∷ reverse (map f xs)
turned-last f xs x = ap reverse (map-append f xs (x ∷ [])) ∙ reverse-append (map f xs) (f x ∷ [])

own-replies : (actor : ActorNo) (own : List OwnEntry) → map reply_of (map (own_done actor) own) ≡ map reply_in own
own-replies actor [] = refl
own-replies actor (e ∷ own) = ap (λ rs. e.reply ∷ rs) (own-replies actor own)

pub done-replies : (actor : ActorNo) (own : List OwnEntry) → map reply_of (reverse (map (own_done actor) own)) ≡ reverse (map reply_in own)
done-replies actor own = map-reverse reply_of (map (own_done actor) own) ∙ ap reverse (own-replies actor own)

-- an entry more that the actor asks next
pub asked-more : (network : Network) (actor : ActorNo) (own : List OwnEntry) (e : OwnEntry) → IsAsked network (actor_number actor) (reverse (map (own_done actor) own)) → next_after network (actor_number actor) (reverse (map reply_in own)) ≡ Some (e.link, e.ask)
    → IsAsked network (actor_number actor) (reverse (map (own_done actor) (own ++ e ∷ [])))
asked-more network actor own e asked next =
    let now : next_after network (actor_number actor) (map reply_of (reverse (map (own_done actor) own))) ≡ Some (e.link, e.ask) = ap (next_after network (actor_number actor)) (done-replies actor own) ∙ next in
    subst (IsAsked network (actor_number actor)) (sym (turned-last (own_done actor) own e)) (asked, now)

-- ---- a caller

-- what it has asked, and where it stands
pub record Past (network : Network) (tasks : List Task) (actor : ActorNo) (own : List OwnEntry) (at : Standing) : Type 0 where
  pub asked : IsAsked network (actor_number actor) (reverse (map (own_done actor) own))
  pub stands : standing tasks (reverse (map reply_in own)) ≡ at

-- the actor is a caller with these tasks
pub record HasTasks (network : Network) (actor : ActorNo) (tasks : List Task) : Type 0 where
  pub caller : nat_eq (actor_number actor) (plane_no network) ≡ false
  pub found : slice_get network.scripts (actor_number actor) ≡ Some tasks

pub caller-next : (network : Network) (actor : ActorNo) (tasks : List Task) (replies : List Reply) → HasTasks network actor tasks → next_after network (actor_number actor) replies ≡ ask_at (standing tasks replies)
caller-next network actor tasks replies has = rw (has.caller, has.found) refl

one-more : (network : Network) (actor : ActorNo) (tasks : List Task) (own : List OwnEntry) (e : OwnEntry) (at : Standing) → HasTasks network actor tasks → Past network tasks actor own at → ask_at at ≡ Some (e.link, e.ask) → Past network tasks actor (own ++ e ∷ []) (replied at e.reply)
unfolding standing
one-more network actor tasks own e at has past asks = record {
  asked = asked-more network actor own e past.asked (caller-next network actor tasks (reverse (map reply_in own)) has ∙ ap ask_at past.stands ∙ asks);
  stands = ap (standing tasks) (turned-last reply_in own e) ∙ ap (λ at. replied at e.reply) past.stands;
}

abbrev pub under : List Learnt → Task → List Task → List Reply → Standing
under outcomes task rest replies = record { tasks = task ∷ rest; replies = replies; outcomes = outcomes }

replied-under : (outcomes : List Learnt) (task : Task) (rest : List Task) (replies : List Reply) (reply : Reply) → replied (under outcomes task rest replies) reply ≡ continued outcomes task rest (replies ++ reply ∷ []) (task_ask task (replies ++ reply ∷ []))
unfolding resumed
replied-under outcomes task rest replies reply = refl

pub task-made : (network : Network) (actor : ActorNo) (tasks : List Task) (outcomes : List Learnt) (task : Task) (rest : List Task) (own : List OwnEntry) (replies : List Reply) (e : OwnEntry) (left all : List OwnEntry) (final : List Reply) → HasTasks network actor tasks → Past network tasks actor own (under outcomes task rest replies)
    → Follows (task_ask task) replies (e ∷ left) → all ≡ own ++ e ∷ left → final ≡ replies ++ map reply_in (e ∷ left) → task_ask task final ≡ None → Past network tasks actor all (begun (outcome_by task final ++ outcomes) rest)
unfolding Follows
task-made network actor tasks outcomes task rest own replies e [] all final has past follows are is none =
    let more = one-more network actor tasks own e (under outcomes task rest replies) has past follows.0 in
    let ends : replied (under outcomes task rest replies) e.reply ≡ begun (outcome_by task final ++ outcomes) rest = replied-under outcomes task rest replies e.reply ∙ ap (λ rs. continued outcomes task rest rs (task_ask task rs)) (sym is) ∙ ap (continued outcomes task rest final) none in
    subst (λ own. Past network tasks actor own (begun (outcome_by task final ++ outcomes) rest)) (sym are) (subst (Past network tasks actor (own ++ e ∷ [])) ends more)
task-made network actor tasks outcomes task rest own replies e (f ∷ left) all final has past follows are is none =
    let more = one-more network actor tasks own e (under outcomes task rest replies) has past follows.0 in
    let goes : replied (under outcomes task rest replies) e.reply ≡ under outcomes task rest (replies ++ e.reply ∷ []) = replied-under outcomes task rest replies e.reply ∙ ap (continued outcomes task rest (replies ++ e.reply ∷ [])) follows.1.0 in
    task-made network actor tasks outcomes task rest (own ++ e ∷ []) (replies ++ e.reply ∷ []) f left all final has (subst (Past network tasks actor (own ++ e ∷ [])) goes more) follows.1
    (are ∙ sym (append_assoc own (e ∷ []) (f ∷ left))) (is ∙ sym (append_assoc replies (e.reply ∷ []) (map reply_in (f ∷ left)))) none
