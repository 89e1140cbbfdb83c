-- What the steps of moves from a channel have had planned on others: nothing before a move from it, and as many packets as were shifted
-- once one has left it.
use Rattle.std.proofs.Common.{◌≡◌, ◌≢◌, ℕ, ◌+◌, ◌≤◌, List, [], ◌∷◌, ◌++◌, length, Option, Some, None, refl, sym, ap, ◌∙◌, subst, inl, inr, arith}
use Rattle.run_engine.proofs.Words.{cases_Bool, eqb-true, eqb-false, eq-eqb, ne_eqb, same_Some, slice_get, nat_eq, if◌then◌else◌, link_number, actor_number, channel_number, LinkNo, shifted_in, told_by, first_told, Shifted, stage_after, Joining, Releasing, Ask, Submit, Reply, Each, RequestFits, Request, NetworkFits, TaskOff, OwnedFully, AllOwned, Learnt, Standing, begun, or_before, newest, outcome_by, task_ask, move_between, continued, resumed, from_step, standing, standing_of, moved_by, moved_off, Network, Task, Moves, replies_to, part_of, Done, IsRun, HopAt, planned_in, cancelled_in, offered_in, left_in}
use Rattle.channel_move.proofs.AskByStage.{MoveAsks, AsksFirst, AsksSubmit, AsksRest, move-asks}
use Rattle.link_steps.specs.declared.replies.Reply.TheVariants as Is
use Rattle.interleave_core.specs.channels.Shifting.{given_with, given_in, IsNotLeaving, cancelled_alone, EveryMoveGivesTheShifted, EveryPlannedPacketIsCounted}
use Rattle.interleave_core.proofs.Moves.LastPackets.{some-left}
use Rattle.interleave_core.proofs.Moves.MoveLaw.{MoveTold, Was, Now, move-told, move-own, no-moves, run-moved}
use Rattle.interleave_core.proofs.Moves.MoveSteps.{move-fits}
use Rattle.interleave_core.proofs.Moves.MoveTotal.{begins-not, run-shifted}
use Rattle.interleave_core.proofs.Moves.TotalLaw.{both-zero, none-lost}
use Rattle.run_engine.proofs.Moves.JoinedPlans.{moves-plan}
use Rattle.run_engine.proofs.Runs.RunLegal.{part-admissible}
use Rattle.run_engine.proofs.Runs.EachRun.{each-run-resumed, OwnStep}
use Rattle.run_engine.proofs.Tasks.TaskAsks.{off-standing}
use Rattle.run_engine.proofs.Tasks.OwnTasks.{own-task}
use Rattle.run_engine.proofs.Replies.RunCloses.{step-kind}
use Rattle.run_engine.proofs.Keeping.Lookups.{head-same}

-- ---- what the move under way has given

-- nothing until its submit was answered, which is its second step
abbrev given_by : List Reply → ℕ
given_by (first ∷ second ∷ replies) = shifted_in first
given_by replies = 0

abbrev way_given : ℕ → List Task → List Reply → ℕ
way_given c (Moves old new gap size ∷ tasks) replies = if nat_eq (channel_number old.chan) c then given_by replies else 0
way_given c tasks replies = 0

none-way : (c : ℕ) (tasks : List Task) → way_given c tasks [] ≡ 0
none-way c (Moves old new gap size ∷ tasks) = both-zero (nat_eq (channel_number old.chan) c)
none-way c _ = refl

-- where a caller stands, and how many packets moves from the request's channel have given
record GivenAt (request : Request) (n : ℕ) (at : Standing) : Type 0 where
  told : (told : Shifted) → moved_off request.chan at.outcomes ≡ Some told → n ≡ told.shifted
  none : moved_off request.chan at.outcomes ≡ None → n ≡ way_given (channel_number request.chan) at.tasks at.replies
  -- a move from it that is under way is the first one
  fresh : (old new : Request) (gap size : ℕ) (rest : List Task) (reply : Reply) (more : List Reply) → at.tasks ≡ Moves old new gap size ∷ rest → channel_number old.chan ≡ channel_number request.chan → at.replies ≡ reply ∷ more → moved_off request.chan at.outcomes ≡ None

-- ---- a step of another task gives nothing

-- no move from the channel
abbrev IsNoMove : ℕ → Task → Type 0
IsNoMove c (Moves old new gap size) = channel_number old.chan ≢ c
IsNoMove c task = Unit {0}

gives-none : (c n : ℕ) (task : Task) (tasks : List Task) (ask : Ask) (reply : Reply) → IsNoMove c task → given_with c n (task ∷ tasks) ask reply ≡ n
gives-none c n (Moves old new gap size) tasks (Submit chan count own_gap own_size) (Is.Planned clock) other = rw (ne_eqb (channel_number old.chan) c other) refl
gives-none c n _ tasks _ _ other = refl

no-way : (c : ℕ) (task : Task) (tasks : List Task) (replies : List Reply) → IsNoMove c task → way_given c (task ∷ tasks) replies ≡ 0
no-way c (Moves old new gap size) tasks replies other = rw (ne_eqb (channel_number old.chan) c other) refl
no-way c _ tasks replies other = refl

off-none : (c n : ℕ) (tasks : List Task) (ask : Ask) (reply : Reply) → Each (TaskOff c) tasks → given_with c n tasks ask reply ≡ n
off-none c n (Moves old new gap size ∷ tasks) ask reply off = gives-none c n (Moves old new gap size) tasks ask reply off.0.0
off-none c n _ ask reply off = refl

-- what newer notes don't tell, the older ones don't either
older-none : (request : Request) (notes outcomes : List Learnt) → moved_off request.chan (notes ++ outcomes) ≡ None → moved_off request.chan outcomes ≡ None
unfolding moved_off newest
older-none request [] outcomes is = is
older-none request (note ∷ notes) outcomes is = older-none request notes outcomes (skip (moved_by request.chan note) (newest (moved_by request.chan) (notes ++ outcomes)) is) where
  skip : (told before : Option Shifted) → or_before told before ≡ None → before ≡ None
  skip None before same = same
  skip (Some told) before same = cc

none-or-some : (told : Shifted) (found : Option Shifted) → found ≡ None → found ≡ Some told → ⊥
none-or-some told found none some = (let clash : None ≡ Some told = sym none ∙ some in cc)

-- one reply more to a task that is no move from the channel
other-goes : (request : Request) (n m : ℕ) (task : Task) (rest : List Task) (before replies : List Reply) (outcomes : List Learnt) (to : Option (LinkNo × Ask)) → IsNoMove (channel_number request.chan) task → m ≡ n → GivenAt request n (record { tasks = task ∷ rest; replies = before; outcomes = outcomes }) → GivenAt request m (continued outcomes task rest replies to)
other-goes request n m task rest before replies outcomes (Some to) other same was = record {
  told = λ told moved. same ∙ was.told told moved;
  none = λ none. same ∙ was.none none ∙ no-way (channel_number request.chan) task rest before other ∙ sym (no-way (channel_number request.chan) task rest replies other);
  fresh = λ old new gap size left reply more first chan made. absurd (subst (IsNoMove (channel_number request.chan)) (head-same task rest (Moves old new gap size) left first) other chan);
}
other-goes request n m task rest before replies outcomes None other same was = record {
  told = λ told moved. same ∙ by-told told (move-told request task replies outcomes told moved);
  none = λ none. same ∙ was.none (older-none request (outcome_by task replies) outcomes none) ∙ no-way (channel_number request.chan) task rest before other ∙ sym (none-way (channel_number request.chan) (from_step (outcome_by task replies ++ outcomes) rest));
  fresh = λ old new gap size left reply more first chan made. (let clash : [] ≡ reply ∷ more = made in cc);
} where
  by-told : (told : Shifted) → MoveTold request task replies outcomes told → n ≡ told.shifted
  by-told told (Was before) = was.told told before
  by-told told (Now old new gap size is chan tells) = absurd (subst (IsNoMove (channel_number request.chan)) is other chan)

-- ---- a step of a move from the channel

-- at the end of a move its first reply tells what it has given
end-gives : (old new : Request) (gap size m : ℕ) (replies : List Reply) (told : Shifted) → 1 ≤ length new.route → task_ask (Moves old new gap size) replies ≡ None → m ≡ given_by replies → first_told replies ≡ Some told → m ≡ told.shifted
end-gives old new gap size m [] told least over same tells = cc
end-gives old new gap size m (reply ∷ []) told least over same tells =
    let none : shifted_in reply ≡ 0 = eqb-true (shifted_in reply) 0 (some-left old new gap size reply least over) in
    let is : shifted_in reply ≡ told.shifted = ap (λ (t : Shifted). t.shifted) (same_Some (told_by reply) told tells) in
    omega (arith, same, none, is)
end-gives old new gap size m (reply ∷ second ∷ replies) told least over same tells = same ∙ ap (λ (t : Shifted). t.shifted) (same_Some (told_by reply) told tells)

-- and tells it
end-tells : (request old new : Request) (gap size : ℕ) (reply : Reply) (replies : List Reply) (outcomes : List Learnt) → channel_number old.chan ≡ channel_number request.chan → moved_off request.chan (outcome_by (Moves old new gap size) (reply ∷ replies) ++ outcomes) ≡ None → ⊥
unfolding moved_off newest
end-tells request old new gap size reply replies outcomes chan none = some-none (told_by reply) (newest (moved_by request.chan) outcomes) (rw (eq-eqb (channel_number old.chan) (channel_number request.chan) chan) at none) where
  some-none : (told : Shifted) (before : Option Shifted) → or_before (Some told) before ≡ None → ⊥
  some-none told before is = cc

move-goes : (request old new : Request) (gap size m : ℕ) (rest : List Task) (reply : Reply) (replies : List Reply) (outcomes : List Learnt) (to : Option (LinkNo × Ask)) → 1 ≤ length new.route → channel_number old.chan ≡ channel_number request.chan → moved_off request.chan outcomes ≡ None → m ≡ given_by (reply ∷ replies) → task_ask (Moves old new gap size) (reply ∷ replies) ≡ to
    → GivenAt request m (continued outcomes (Moves old new gap size) rest (reply ∷ replies) to)
move-goes request old new gap size m rest reply replies outcomes (Some to) least chan quiet same over = record {
  told = λ told moved. absurd (none-or-some told (moved_off request.chan outcomes) quiet moved);
  none = λ none. rw (eq-eqb (channel_number old.chan) (channel_number request.chan) chan) same;
  fresh = λ _ _ _ _ _ _ _ _ _ _. quiet;
}
move-goes request old new gap size m rest reply replies outcomes None least chan quiet same over = record {
  told = λ told moved. by-told told (move-told request (Moves old new gap size) (reply ∷ replies) outcomes told moved);
  none = λ none. absurd (end-tells request old new gap size reply replies outcomes chan none);
  fresh = λ own other gap size left first more is same made. (let clash : [] ≡ first ∷ more = made in cc);
} where
  by-told : (told : Shifted) → MoveTold request (Moves old new gap size) (reply ∷ replies) outcomes told → m ≡ told.shifted
  by-told told (Was before) = absurd (none-or-some told (moved_off request.chan outcomes) quiet before)
  by-told told (Now own other own_gap own_size is own_chan tells) = end-gives old new gap size m (reply ∷ replies) told least over same tells

-- what the step has had planned
submit-gives : (c n : ℕ) (old new : Request) (gap size : ℕ) (rest : List Task) (count : ℕ) (reply : Reply) (clock : ℕ) → channel_number old.chan ≡ c → reply ≡ Is.Planned clock → given_with c n (Moves old new gap size ∷ rest) (Submit new.chan count gap size) reply ≡ n + count
submit-gives c n old new gap size rest count reply clock chan planned = ap (given_with c n (Moves old new gap size ∷ rest) (Submit new.chan count gap size)) planned ∙ rw (eq-eqb (channel_number old.chan) c chan) refl

rest-gives : (replies : List Reply) (reply : Reply) (told : Shifted) (made : ℕ) → stage_after replies ≡ Releasing told made → given_by (replies ++ reply ∷ []) ≡ given_by replies
rest-gives [] reply told made stage = cc
rest-gives (first ∷ []) reply told made stage =
    elim (cases_Bool (nat_eq (shifted_in first) 0)) [
      | inl none ↦ eqb-true (shifted_in first) 0 none
      | inr some ↦ absurd (let clash : Joining (told_by first) ≡ Releasing told made = rw some at stage in cc)
    ]
rest-gives (first ∷ second ∷ replies) reply told made stage = refl

step-gives : (c n : ℕ) (old new : Request) (gap size : ℕ) (rest : List Task) (replies : List Reply) (to : LinkNo) (ask : Ask) (reply : Reply) → channel_number old.chan ≡ c → n ≡ given_by replies → ((count : ℕ) → ask ≡ Submit new.chan count gap size → (clock : ℕ) × (reply ≡ Is.Planned clock)) → MoveAsks (move_between old new gap size) replies to ask
    → given_with c n (Moves old new gap size ∷ rest) ask reply ≡ given_by (replies ++ reply ∷ [])
step-gives c n old new gap size rest replies to ask reply chan same planned (AsksFirst none at release) =
    ap (λ a. given_with c n (Moves old new gap size ∷ rest) a reply) release ∙ same ∙ ap given_by none ∙ sym (ap (λ rs. given_by (rs ++ reply ∷ [])) none)
step-gives c n old new gap size rest replies to ask reply chan same planned (AsksSubmit first one some at submit) =
    let is = planned (shifted_in first) submit in
    let before : n ≡ 0 = same ∙ ap given_by one in
    ap (λ a. given_with c n (Moves old new gap size ∷ rest) a reply) submit ∙ submit-gives c n old new gap size rest (shifted_in first) reply is.0 chan is.1
    ∙ omega (arith, before) ∙ sym (ap (λ rs. given_by (rs ++ reply ∷ [])) one)
step-gives c n old new gap size rest replies to ask reply chan same planned (AsksRest told made stage at release) =
    ap (λ a. given_with c n (Moves old new gap size ∷ rest) a reply) release ∙ same ∙ sym (rest-gives replies reply told made stage)

-- ---- every run

module _ (network : Network) (request : Request) (owner : ℕ) (first : HopAt network request 0) (fits : NetworkFits network) (all : AllOwned network) (sound : RequestFits network.links request) (full : OwnedFully network request owner) where
  abbrev GivenBy : List Done → Standing → Type 0
  GivenBy run at = GivenAt request (given_in network (channel_number request.chan) run) at

  -- a move from the channel begins but once
  first-move : (script : List Task) (past : List Done) (done : Done) (old new : Request) (gap size : ℕ) (rest : List Task) (replies : List Reply) (outcomes : List Learnt) → OwnStep network owner script past done (Moves old new gap size) rest replies outcomes → channel_number old.chan ≡ channel_number request.chan
      → GivenBy past (record { tasks = Moves old new gap size ∷ rest; replies = replies; outcomes = outcomes }) → moved_off request.chan outcomes ≡ None
  first-move script past done old new gap size rest (reply ∷ replies) outcomes step chan was = was.fresh old new gap size rest reply replies refl chan refl
  first-move script past done old new gap size rest [] outcomes step chan was = by (moved_off request.chan outcomes) refl where
    by : (told : Option Shifted) → moved_off request.chan outcomes ≡ told → moved_off request.chan outcomes ≡ None
    by None none = none
    by (Some told) some =
        let leaving = move-own request old new gap size (Moves old new gap size) (own-task network request owner script past done (Moves old new gap size) rest [] outcomes full step) refl chan in
        let kind = step-kind network request owner script past done (Moves old new gap size) rest [] outcomes fits sound full step in
        let frozen = run-moved network request owner first fits sound full past script step.run step.found told (ap (λ (s : Standing). moved_off request.chan s.outcomes) step.stands ∙ some) in
        absurd (begins-not network request first done past (Moves old new gap size) [] told.kept frozen leaving refl kind)

  -- one reply more to a move from the channel
  own-move : (script : List Task) (past : List Done) (done : Done) (old new : Request) (gap size : ℕ) (rest : List Task) (replies : List Reply) (outcomes : List Learnt) → OwnStep network owner script past done (Moves old new gap size) rest replies outcomes → channel_number old.chan ≡ channel_number request.chan
      → GivenBy past (record { tasks = Moves old new gap size ∷ rest; replies = replies; outcomes = outcomes }) → GivenAt request (given_with (channel_number request.chan) (given_in network (channel_number request.chan) past) (Moves old new gap size ∷ rest) done.ask done.reply) (resumed outcomes (Moves old new gap size ∷ rest) (replies ++ done.reply ∷ []))
  unfolding resumed
  own-move script past done old new gap size rest replies outcomes step chan was =
      let at_tasks : (standing script (replies_to owner past)).tasks ≡ Moves old new gap size ∷ rest = ap (λ (s : Standing). s.tasks) step.stands in
      let fit = move-fits network past owner gap size script rest old new fits step.run step.found at_tasks in
      let quiet = first-move script past done old new gap size rest replies outcomes step chan was in
      let before : given_in network (channel_number request.chan) past ≡ given_by replies = was.none quiet ∙ rw (eq-eqb (channel_number old.chan) (channel_number request.chan) chan) refl in
      let now = step-gives (channel_number request.chan) (given_in network (channel_number request.chan) past) old new gap size rest replies done.link done.ask done.reply chan before
      (λ count submit. (_, (moves-plan network owner script past done fits all old new gap size rest replies outcomes count step submit).0))
      (move-asks (move_between old new gap size) replies done.link done.ask step.asks) in
      more replies fit.of_new.route.least quiet now where
        more : (rs : List Reply) → 1 ≤ length new.route → moved_off request.chan outcomes ≡ None → given_with (channel_number request.chan) (given_in network (channel_number request.chan) past) (Moves old new gap size ∷ rest) done.ask done.reply ≡ given_by (rs ++ done.reply ∷ [])
            → GivenAt request (given_with (channel_number request.chan) (given_in network (channel_number request.chan) past) (Moves old new gap size ∷ rest) done.ask done.reply) (continued outcomes (Moves old new gap size) rest (rs ++ done.reply ∷ []) (task_ask (Moves old new gap size) (rs ++ done.reply ∷ [])))
        more [] least quiet now = move-goes request old new gap size _ rest done.reply [] outcomes (task_ask (Moves old new gap size) (done.reply ∷ [])) least chan quiet now refl
        more (first ∷ rs) least quiet now = move-goes request old new gap size _ rest first (rs ++ done.reply ∷ []) outcomes (task_ask (Moves old new gap size) (first ∷ rs ++ done.reply ∷ [])) least chan quiet now refl

  -- one to another task
  own-other : (past : List Done) (done : Done) (task : Task) (rest : List Task) (replies : List Reply) (outcomes : List Learnt) → IsNoMove (channel_number request.chan) task
      → GivenBy past (record { tasks = task ∷ rest; replies = replies; outcomes = outcomes }) → GivenAt request (given_with (channel_number request.chan) (given_in network (channel_number request.chan) past) (task ∷ rest) done.ask done.reply) (resumed outcomes (task ∷ rest) (replies ++ done.reply ∷ []))
  unfolding resumed
  own-other past done task rest replies outcomes other was =
      other-goes request (given_in network (channel_number request.chan) past) _ task rest replies (replies ++ done.reply ∷ []) outcomes (task_ask task (replies ++ done.reply ∷ [])) other
      (gives-none (channel_number request.chan) (given_in network (channel_number request.chan) past) task rest done.ask done.reply other) was

  own-goes : (script : List Task) (past : List Done) (done : Done) (task : Task) (rest : List Task) (replies : List Reply) (outcomes : List Learnt) → OwnStep network owner script past done task rest replies outcomes
      → GivenBy past (record { tasks = task ∷ rest; replies = replies; outcomes = outcomes }) → GivenAt request (given_with (channel_number request.chan) (given_in network (channel_number request.chan) past) (task ∷ rest) done.ask done.reply) (resumed outcomes (task ∷ rest) (replies ++ done.reply ∷ []))
  own-goes script past done (Moves old new gap size) rest replies outcomes step was =
      elim (cases_Bool (nat_eq (channel_number old.chan) (channel_number request.chan))) [
        | inr off ↦ own-other past done (Moves old new gap size) rest replies outcomes (eqb-false (channel_number old.chan) (channel_number request.chan) off) was
        | inl own ↦ own-move script past done old new gap size rest replies outcomes step (eqb-true (channel_number old.chan) (channel_number request.chan) own) was
      ]
  own-goes script past done task rest replies outcomes step was = own-other past done task rest replies outcomes tt was

  -- the tasks that the entry's actor stands at
  own-given : (script : List Task) (past : List Done) (done : Done) (task : Task) (rest : List Task) (replies : List Reply) (outcomes : List Learnt) → OwnStep network owner script past done task rest replies outcomes → given_in network (channel_number request.chan) (done ∷ past) ≡ given_with (channel_number request.chan) (given_in network (channel_number request.chan) past) (task ∷ rest) done.ask done.reply
  unfolding given_in
  own-given script past done task rest replies outcomes step =
      ap (λ ts. given_with (channel_number request.chan) (given_in network (channel_number request.chan) past) ts done.ask done.reply)
      (ap (λ a. (standing_of (slice_get network.scripts a) (replies_to a past)).tasks) step.by ∙ ap (λ f. (standing_of f (replies_to owner past)).tasks) step.found ∙ ap (λ (s : Standing). s.tasks) step.stands)

  off-given : (past : List Done) (done : Done) → actor_number done.actor ≢ owner → given_in network (channel_number request.chan) (done ∷ past) ≡ given_in network (channel_number request.chan) past
  unfolding given_in
  off-given past done other =
      off-none (channel_number request.chan) (given_in network (channel_number request.chan) past) (standing_of (slice_get network.scripts (actor_number done.actor)) (replies_to (actor_number done.actor) past)).tasks done.ask done.reply (off-tasks (slice_get network.scripts (actor_number done.actor)) refl) where
        off-tasks : (script : Option (List Task)) → slice_get network.scripts (actor_number done.actor) ≡ script → Each (TaskOff (channel_number request.chan)) (standing_of script (replies_to (actor_number done.actor) past)).tasks
        off-tasks None none = tt
        off-tasks (Some own) some = off-standing (channel_number request.chan) own (replies_to (actor_number done.actor) past) (full.others (actor_number done.actor) own other some)

  none-given : (tasks : List Task) → GivenBy [] (begun [] tasks)
  unfolding given_in
  none-given tasks = record {
    told = λ told moved. absurd (no-moves request told moved);
    none = λ none. sym (none-way (channel_number request.chan) (from_step [] tasks));
    fresh = λ old new gap size rest reply more is chan made. (let clash : [] ≡ reply ∷ more = made in cc);
  }

  run-given : (run : List Done) → IsRun network run → (script : List Task) → slice_get network.scripts owner ≡ Some script → GivenBy run (standing script (replies_to owner run))
  run-given run is script found =
      each-run-resumed network owner script found GivenBy (none-given script) (λ past done at before next other was. subst (λ n. GivenAt request n at) (sym (off-given past done other)) was)
      (λ past done task rest replies outcomes step was. subst (λ n. GivenAt request n (resumed outcomes (task ∷ rest) (replies ++ done.reply ∷ []))) (sym (own-given script past done task rest replies outcomes step)) (own-goes script past done task rest replies outcomes step was)) run is

pub moves-give : EveryMoveGivesTheShifted
moves-give network request owner first run tasks told fits all sound full is found moved = record {
  cancelled = (run-shifted network request owner first fits sound full run is tasks found).told told moved;
  given = (run-given network request owner first fits all sound full run is tasks found).told told moved;
}

-- ---- one law over both

still-none : (c : ℕ) (tasks : List Task) (replies : List Reply) → IsNotLeaving c tasks → way_given c tasks replies ≡ 0
still-none c (Moves old new gap size ∷ tasks) replies still = no-way c (Moves old new gap size) tasks replies still
still-none c _ replies still = refl

pub planned-told : EveryPlannedPacketIsCounted
planned-told network request owner first run tasks fits all sound full is found still = by (moved_off request.chan (standing tasks (replies_to owner run)).outcomes) refl where
  by : (told : Option Shifted) → moved_off request.chan (standing tasks (replies_to owner run)).outcomes ≡ told
      → planned_in (channel_number request.chan) (part_of (link_number first.hop.link) run) ≡ offered_in (channel_number request.chan) first.link.shape (part_of (link_number first.hop.link) run) + left_in (channel_number request.chan) first.link.shape (part_of (link_number first.hop.link) run)
      + cancelled_alone told (cancelled_in (channel_number request.chan) (part_of (link_number first.hop.link) run)) + given_in network (channel_number request.chan) run
  by None none =
      (let whole = none-lost first.link.shape (channel_number request.chan) (part_of (link_number first.hop.link) run) (part-admissible network run (link_number first.hop.link) first.link fits is first.linked) in
      let given = (run-given network request owner first fits all sound full run is tasks found).none none in
      let zeroth = still-none (channel_number request.chan) (standing tasks (replies_to owner run)).tasks (standing tasks (replies_to owner run)).replies still in
      omega (arith, whole, given, zeroth))
  by (Some told) some =
      (let whole = none-lost first.link.shape (channel_number request.chan) (part_of (link_number first.hop.link) run) (part-admissible network run (link_number first.hop.link) first.link fits is first.linked) in
      let gives = moves-give network request owner first run tasks told fits all sound full is found some in
      let cancelled = gives.cancelled in
      let given = gives.given in
      omega (arith, whole, cancelled, given))
