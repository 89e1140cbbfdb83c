-- A run goes on with the next step of any actor, and is the run of its list of actors.
use Rattle.std.proofs.Common.{◌≡◌, List, [], ◌∷◌, ◌++◌, map, Option, Some, None, refl, sym, ap, ◌∙◌}
use Rattle.run_engine.proofs.Words.{reverse-append, slice_get, reverse, link_number, actor_number, ActorNo, LinkNo, Ask, Link, Network, done_at, stepped, step, run_from, next_for, IsNext, IsRun, Done}
use Rattle.run_engine.specs.runs.Laws.{actor_of, RunsFollowTheirActors}

-- ---- the list of its actors gives a run

pub step-is : (network : Network) (past : List Done) (done : Done) → IsNext network past done → step network done.actor past ≡ done ∷ past
step-is network past done next =
    ap (stepped network done.actor past) next.asked
    ∙ ap (done_at done.actor past (done.link, done.ask)) next.linked
    ∙ ap (λ reply. record { actor = done.actor; link = done.link; ask = done.ask; reply = reply } ∷ past) (sym next.answered)

run_from-more : (network : Network) (past : List Done) (actors : List ActorNo) (actor : ActorNo) → run_from network past (actors ++ actor ∷ []) ≡ step network actor (run_from network past actors)
unfolding run_from
run_from-more network past [] actor = refl
run_from-more network past (first ∷ actors) actor = run_from-more network (step network first past) actors actor

run-of : (network : Network) (run : List Done) → IsRun network run → run_from network [] (reverse (map actor_of run)) ≡ run
unfolding IsRun run_from
run-of network [] is = refl
run-of network (done ∷ past) is =
    ap (run_from network []) (reverse-append (done.actor ∷ []) (map actor_of past)) ∙ run_from-more network [] (reverse (map actor_of past)) done.actor
    ∙ ap (step network done.actor) (run-of network past is.0) ∙ step-is network past done is.1

-- ---- each step is one of a run

linked-run : (network : Network) (past : List Done) (actor : ActorNo) (to : LinkNo × Ask) (found : Option Link) → IsRun network past → next_for network (actor_number actor) past ≡ Some to → slice_get network.links (link_number to.0) ≡ found → IsRun network (done_at actor past to found)
unfolding IsRun
linked-run network past actor to None run asked linked = run
linked-run network past actor to (Some link) run asked linked = (run, record { link = link; linked = linked; asked = asked; answered = refl })

stepped-run : (network : Network) (past : List Done) (actor : ActorNo) (next : Option (LinkNo × Ask)) → IsRun network past → next_for network (actor_number actor) past ≡ next → IsRun network (stepped network actor past next)
stepped-run network past actor None run asked = run
stepped-run network past actor (Some to) run asked = linked-run network past actor to (slice_get network.links (link_number to.0)) run asked refl

pub step-run : (network : Network) (past : List Done) (actor : ActorNo) → IsRun network past → IsRun network (step network actor past)
step-run network past actor run = stepped-run network past actor (next_for network (actor_number actor) past) run refl

pub from-run : (network : Network) (past : List Done) (actors : List ActorNo) → IsRun network past → IsRun network (run_from network past actors)
unfolding run_from
from-run network past [] run = run
from-run network past (actor ∷ actors) run = from-run network (step network actor past) actors (step-run network past actor run)

pub none-run : (network : Network) → IsRun network []
unfolding IsRun
none-run network = tt

pub follow-actors : RunsFollowTheirActors
follow-actors = record {
  steps = step-run;
  from = λ network actors. from-run network [] actors (none-run network);
  same = run-of;
}
