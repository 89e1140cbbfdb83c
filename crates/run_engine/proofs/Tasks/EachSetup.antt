-- What the steps of a request's setup keep, and those before it, after it and of other callers, is so of where its owner stands after
-- every run.
use Rattle.std.proofs.Common.{◌≡◌, ◌≢◌, ℕ, ◌⊎◌, true, false, List, [], ◌∷◌, ◌++◌, Option, Some, None, refl, sym, ap, ◌∙◌, subst, inl, inr}
use Rattle.run_engine.proofs.Words.{eq-eqb, ne_eqb, slice_get, actor_number, channel_number, LinkNo, Ask, Reply, Each, IsMild, Outcome, next_ask, verdict_of, Request, Learnt, Settles, Standing, newest, settled_as, task_ask, takes_step, ready, begun, outcome_by, outcome_in, standing, Network, Task, Opens, replies_to, Done, IsNext, IsRun}
use Rattle.run_engine.proofs.Runs.EachRun.{from-step-by, OwnStep, KeptBySteps, each-run}
use Rattle.run_engine.proofs.Tasks.TaskAsks.{IsNoOpeningOf, ready-other, task-mild, others-from, entry-mild}
use Rattle.run_engine.proofs.Runs.RunFronts.{run-more}
use Rattle.run_engine.proofs.Keeping.Lookups.{head-same, tail-same}
use Rattle.run_engine.proofs.Tasks.TaskNotes.{once-over}

-- ---- scripts

-- no task opens the channel, or one does, by this request
abbrev pub OpenedOnce : Request → List Task → Type 0
OpenedOnce request [] = Unit {0}
OpenedOnce request (task ∷ tasks) = (IsNoOpeningOf (channel_number request.chan) task × OpenedOnce request tasks) ⊎ ((task ≡ Opens request) × Each (IsNoOpeningOf (channel_number request.chan)) tasks)

-- one caller opens the request, once
pub record OpensOnce (network : Network) (request : Request) (owner : ℕ) : Type 0 where
  pub own : (tasks : List Task) → slice_get network.scripts owner ≡ Some tasks → OpenedOnce request tasks
  pub others : (actor : ℕ) (tasks : List Task) → actor ≢ owner → slice_get network.scripts actor ≡ Some tasks → Each (IsNoOpeningOf (channel_number request.chan)) tasks

-- ---- what is recorded of a request

outcome-skip : (request r : Request) (outcome : Outcome) (outcomes : List Learnt) → channel_number r.chan ≢ channel_number request.chan → outcome_in request.chan (Settles r.chan outcome ∷ outcomes) ≡ outcome_in request.chan outcomes
unfolding outcome_in newest
outcome-skip request r outcome outcomes other = rw (ne_eqb (channel_number r.chan) (channel_number request.chan) other) refl

outcome-own : (request : Request) (outcome : Outcome) (outcomes : List Learnt) → outcome_in request.chan (Settles request.chan outcome ∷ outcomes) ≡ Some outcome
unfolding outcome_in newest
outcome-own request outcome outcomes = rw (eq-eqb (channel_number request.chan) (channel_number request.chan) refl) refl

none-recorded : (request : Request) → outcome_in request.chan [] ≡ None
unfolding outcome_in newest
none-recorded request = refl

-- another task's note says nothing of it
pub other-outcome : (request : Request) (task : Task) (replies : List Reply) (outcomes : List Learnt) → IsNoOpeningOf (channel_number request.chan) task → outcome_in request.chan (outcome_by task replies ++ outcomes) ≡ outcome_in request.chan outcomes
unfolding outcome_in newest
other-outcome request task replies outcomes other =
    once-over (λ notes. outcome_in request.chan notes ≡ outcome_in request.chan outcomes) task replies outcomes
    (λ r outcome is told. outcome-skip request r outcome outcomes (subst (IsNoOpeningOf (channel_number request.chan)) is other))
    (λ link chan count gap size clock rest is told. refl)
    (λ old new gap size told is first. refl)
    refl

-- what its setup puts there, once it is over
pub settled-outcome : (request : Request) (replies : List Reply) (outcomes : List Learnt) → outcome_in request.chan outcomes ≡ None → outcome_in request.chan (outcome_by (Opens request) replies ++ outcomes) ≡ verdict_of request replies
settled-outcome request replies outcomes quiet = by-verdict (verdict_of request replies) where
  by-verdict : (verdict : Option Outcome) → outcome_in request.chan (settled_as request verdict ++ outcomes) ≡ verdict
  by-verdict None = quiet
  by-verdict (Some outcome) = outcome-own request outcome outcomes

-- ---- where the owner stands

-- the task under way has no replies yet, if it opens the request
abbrev pub IsBegun : Request → List Task → List Reply → Type 0
IsBegun request [] replies = Unit {0}
IsBegun request (task ∷ tasks) replies = task ≡ Opens request → replies ≡ []

-- the request is not opened yet, or its setup is under way and has more to ask, or it is over. B, U and A are what is so then
pub data SetupAt (request : Request) (B : List Done → Type 0) (U : List Done → List Reply → Type 0) (A : List Done → Option Outcome → Type 0) (run : List Done) (at : Standing) : Type 0 where
  Before : OpenedOnce request at.tasks → IsBegun request at.tasks at.replies → outcome_in request.chan at.outcomes ≡ None → B run → SetupAt request B U A run at
  Under : (rest : List Task) → at.tasks ≡ Opens request ∷ rest → Each (IsNoOpeningOf (channel_number request.chan)) rest → outcome_in request.chan at.outcomes ≡ None → (to : LinkNo × Ask) → next_ask request at.replies ≡ Some to → U run at.replies → SetupAt request B U A run at
  After : Each (IsNoOpeningOf (channel_number request.chan)) at.tasks → A run (outcome_in request.chan at.outcomes) → SetupAt request B U A run at

-- what each kind of step keeps
pub record KeptBySetup (network : Network) (request : Request) (owner : ℕ) (script : List Task) (B : List Done → Type 0) (U : List Done → List Reply → Type 0) (A : List Done → Option Outcome → Type 0) : Type 0 where
  pub none : B []
  pub before : (past : List Done) (done : Done) → IsRun network past → IsNext network past done → IsMild (channel_number request.chan) done.ask → B past → B (done ∷ past)
  pub starts : (run : List Done) → IsRun network run → B run → U run []
  pub under : (past : List Done) (done : Done) (rest : List Task) (replies : List Reply) (outcomes : List Learnt) → OwnStep network owner script past done (Opens request) rest replies outcomes → U past replies → U (done ∷ past) (replies ++ done.reply ∷ [])
  pub aside : (past : List Done) (done : Done) (replies : List Reply) → IsRun network past → IsNext network past done → actor_number done.actor ≢ owner → IsMild (channel_number request.chan) done.ask → U past replies → U (done ∷ past) replies
  pub settles : (run : List Done) (replies : List Reply) → IsRun network run → next_ask request replies ≡ None → U run replies → A run (verdict_of request replies)
  pub after : (past : List Done) (done : Done) (outcome : Option Outcome) → IsRun network past → IsNext network past done → IsMild (channel_number request.chan) done.ask → A past outcome → A (done ∷ past) outcome

module _ (network : Network) (request : Request) (owner : ℕ) (script : List Task) (found : slice_get network.scripts owner ≡ Some script) (once : OpensOnce network request owner) (B : List Done → Type 0) (U : List Done → List Reply → Type 0) (A : List Done → Option Outcome → Type 0) (kept : KeptBySetup network request owner script B U A) where
  -- before the next task begins
  abbrev Left : List Done → List Learnt → List Task → Type 0
  Left run outcomes tasks = (OpenedOnce request tasks × (outcome_in request.chan outcomes ≡ None) × B run) ⊎ (Each (IsNoOpeningOf (channel_number request.chan)) tasks × A run (outcome_in request.chan outcomes))

  begins : (run : List Done) (outcomes : List Learnt) (tasks : List Task) → Left run outcomes tasks → SetupAt request B U A run (begun outcomes tasks)
  begins run outcomes tasks (inr late) = After (others-from (channel_number request.chan) outcomes tasks late.0) late.1
  begins run outcomes tasks (inl early) =
      from-step-by (OpenedOnce request) (λ ts. SetupAt request B U A run (record { tasks = ts; replies = []; outcomes = outcomes })) outcomes (λ none. Before tt tt early.1 early.2) first passed tasks early.0 where
        first : (task : Task) (rest : List Task) → takes_step outcomes task ≡ true → OpenedOnce request (task ∷ rest) → SetupAt request B U A run (record { tasks = ready outcomes task ∷ rest; replies = []; outcomes = outcomes })
        first task rest takes (inl other) = Before (inl (ready-other (channel_number request.chan) outcomes task other.0, other.1)) (λ is. refl) early.1 early.2
        first task rest takes (inr own) = Before (inr (ap (ready outcomes) own.0, own.1)) (λ is. refl) early.1 early.2

        passed : (task : Task) (rest : List Task) → takes_step outcomes task ≡ false → OpenedOnce request (task ∷ rest) → OpenedOnce request rest
        passed task rest over (inl other) = other.1
        passed task rest over (inr own) = absurd (let clash : true ≡ false = sym (ap (takes_step outcomes) own.0) ∙ over in cc)

  -- an entry of another caller, or of the plane
  off : (past : List Done) (done : Done) (at : Standing) → IsRun network past → IsNext network past done → actor_number done.actor ≢ owner → SetupAt request B U A past at → SetupAt request B U A (done ∷ past) at
  off past done at run next other was = by was where
    mild : IsMild (channel_number request.chan) done.ask
    mild = entry-mild network (channel_number request.chan) past done next (λ tasks. once.others (actor_number done.actor) tasks other)

    by : SetupAt request B U A past at → SetupAt request B U A (done ∷ past) at
    by (Before opened begun' quiet is) = Before opened begun' quiet (kept.before past done run next mild is)
    by (Under rest same others quiet to more is) = Under rest same others quiet to more (kept.aside past done at.replies run next other mild is)
    by (After others is) = After others (kept.after past done (outcome_in request.chan at.outcomes) run next mild is)

  -- one more reply to the setup: its first, or a later one
  setup-more : (past : List Done) (done : Done) (task : Task) (rest : List Task) (replies : List Reply) (outcomes : List Learnt) → OwnStep network owner script past done task rest replies outcomes → task ≡ Opens request → U past replies → U (done ∷ past) (replies ++ done.reply ∷ [])
  setup-more past done task rest replies outcomes step own is = kept.under past done rest replies outcomes (subst (λ t. OwnStep network owner script past done t rest replies outcomes) own step) is

  setup-first : (past : List Done) (done : Done) (task : Task) (rest : List Task) (replies : List Reply) (outcomes : List Learnt) → OwnStep network owner script past done task rest replies outcomes → task ≡ Opens request → replies ≡ [] → B past → U (done ∷ past) (replies ++ done.reply ∷ [])
  setup-first past done task rest replies outcomes step own empty is = setup-more past done task rest replies outcomes step own (subst (U past) (sym empty) (kept.starts past step.run is))

  -- another task's entry
  own-mild : (past : List Done) (done : Done) (task : Task) (rest : List Task) (replies : List Reply) (outcomes : List Learnt) → OwnStep network owner script past done task rest replies outcomes → IsNoOpeningOf (channel_number request.chan) task → IsMild (channel_number request.chan) done.ask
  own-mild past done task rest replies outcomes step other = task-mild (channel_number request.chan) task replies done.link done.ask other step.asks

  goes : (past : List Done) (done : Done) (task : Task) (rest : List Task) (replies : List Reply) (outcomes : List Learnt) (to : LinkNo × Ask) → OwnStep network owner script past done task rest replies outcomes → task_ask task (replies ++ done.reply ∷ []) ≡ Some to
      → SetupAt request B U A past (record { tasks = task ∷ rest; replies = replies; outcomes = outcomes }) → SetupAt request B U A (done ∷ past) (record { tasks = task ∷ rest; replies = replies ++ done.reply ∷ []; outcomes = outcomes })
  goes past done task rest replies outcomes to step more (Before (inl other) begun' quiet is) =
      Before (inl other) (λ own. absurd (subst (IsNoOpeningOf (channel_number request.chan)) own other.0 refl)) quiet (kept.before past done step.run step.next (own-mild past done task rest replies outcomes step other.0) is)
  goes past done task rest replies outcomes to step more (Before (inr own) begun' quiet is) =
      Under rest (ap (λ t. t ∷ rest) own.0) own.1 quiet to (subst (λ t. task_ask t (replies ++ done.reply ∷ []) ≡ Some to) own.0 more) (setup-first past done task rest replies outcomes step own.0 (begun' own.0) is)
  goes past done task rest replies outcomes to step more (Under left same others quiet asked asks is) =
      (let own = head-same task rest (Opens request) left same in
      Under left same others quiet to (subst (λ t. task_ask t (replies ++ done.reply ∷ []) ≡ Some to) own more) (setup-more past done task rest replies outcomes step own is))
  goes past done task rest replies outcomes to step more (After others is) = After others (kept.after past done (outcome_in request.chan outcomes) step.run step.next (own-mild past done task rest replies outcomes step others.0) is)

  -- the setup is over
  settled : (past : List Done) (done : Done) (task : Task) (rest : List Task) (replies : List Reply) (outcomes : List Learnt) → OwnStep network owner script past done task rest replies outcomes → task_ask task (replies ++ done.reply ∷ []) ≡ None → task ≡ Opens request → outcome_in request.chan outcomes ≡ None → U (done ∷ past) (replies ++ done.reply ∷ [])
      → A (done ∷ past) (outcome_in request.chan (outcome_by task (replies ++ done.reply ∷ []) ++ outcomes))
  settled past done task rest replies outcomes step none own quiet is =
      subst (λ t. A (done ∷ past) (outcome_in request.chan (outcome_by t (replies ++ done.reply ∷ []) ++ outcomes))) (sym own)
      (subst (A (done ∷ past)) (sym (settled-outcome request (replies ++ done.reply ∷ []) outcomes quiet))
      (kept.settles (done ∷ past) (replies ++ done.reply ∷ []) (run-more network past done step.run step.next) (subst (λ t. task_ask t (replies ++ done.reply ∷ []) ≡ None) own none) is))

  over : (past : List Done) (done : Done) (task : Task) (rest : List Task) (replies : List Reply) (outcomes : List Learnt) → OwnStep network owner script past done task rest replies outcomes → task_ask task (replies ++ done.reply ∷ []) ≡ None
      → SetupAt request B U A past (record { tasks = task ∷ rest; replies = replies; outcomes = outcomes }) → Left (done ∷ past) (outcome_by task (replies ++ done.reply ∷ []) ++ outcomes) rest
  over past done task rest replies outcomes step none (Before (inl other) begun' quiet is) =
      inl (other.1, other-outcome request task (replies ++ done.reply ∷ []) outcomes other.0 ∙ quiet, kept.before past done step.run step.next (own-mild past done task rest replies outcomes step other.0) is)
  over past done task rest replies outcomes step none (Before (inr own) begun' quiet is) = inr (own.1, settled past done task rest replies outcomes step none own.0 quiet (setup-first past done task rest replies outcomes step own.0 (begun' own.0) is))
  over past done task rest replies outcomes step none (Under left same others quiet asked asks is) =
      (let own = head-same task rest (Opens request) left same in
      inr (subst (Each (IsNoOpeningOf (channel_number request.chan))) (sym (tail-same task rest (Opens request) left same)) others, settled past done task rest replies outcomes step none own quiet (setup-more past done task rest replies outcomes step own is)))
  over past done task rest replies outcomes step none (After others is) =
      inr (others.1, subst (A (done ∷ past)) (sym (other-outcome request task (replies ++ done.reply ∷ []) outcomes others.0)) (kept.after past done (outcome_in request.chan outcomes) step.run step.next (own-mild past done task rest replies outcomes step others.0) is))

  steps-keep : KeptBySteps network owner script Left (SetupAt request B U A)
  steps-keep = record { first = inl (once.own script found, none-recorded request, kept.none); begins = begins; off = off; goes = goes; over = over }

  -- so it is after every run
  pub each-setup : (run : List Done) → IsRun network run → SetupAt request B U A run (standing script (replies_to owner run))
  each-setup run is = each-run network owner script found Left (SetupAt request B U A) steps-keep run is
