-- In every run each submit is planned, or refused as busy or too big, and each release is answered with a closing.
use Rattle.run_engine.proofs.Runs.EachRun.{OwnStep, KeptBySteps, each-run}
use Rattle.std.proofs.Common.{◌≡◌, ◌≢◌, ℕ, List, [], ◌∷◌, ◌++◌, Some, sym, subst, inl, inr, None, false, refl}
use Rattle.run_engine.proofs.Words.{UsedOnce, SendsOnce, FullScript, OwnedFully, Learnt, task_ask, is_established, Standing, outcome_by, newest, slice_get, actor_number, channel_number, Reply, Each, RequestFits, Request, Done, NetworkFits, Task, Opens, Network, part_of, IsNext, IsRun, IsOff, ChannelAsked}
use Rattle.run_engine.proofs.Replies.RunGoes.{OwnedOnce, owned-asked, step-setup}
use Rattle.run_engine.proofs.Replies.ClosingStands.{ClosesAt, Early, closes-later, each-sends, BetweenTasks, UnderWay, next-begins, task-over}
use Rattle.call_script.proofs.OneOwner.{closes-sends}
use Rattle.run_engine.proofs.Replies.ClosingSteps.{IsUsualReply, OneReply, one-reply, told-first}
use Rattle.run_engine.proofs.Tasks.EachSetup.{OpenedOnce}
use Rattle.run_engine.proofs.Tasks.TaskAsks.{IsNoOpeningOf, off-other, entry-off}
use Rattle.run_engine.proofs.Replies.OwnerKinds.{OwnKind}
use Rattle.run_engine.proofs.Channels.RowsFollow.{Settles, setup-settles}

module _ (request : Request) where
  none-established : is_established request.chan [] ≡ false
  unfolding is_established newest
  none-established = refl

  -- ---- scripts

  sends-other : (tasks : List Task) → SendsOnce request tasks → Each (IsNoOpeningOf (channel_number request.chan)) tasks
  sends-other [] sends = tt
  sends-other (task ∷ tasks) (inl off) = (off-other (channel_number request.chan) task off.0, sends-other tasks off.1)
  sends-other (task ∷ tasks) (inr (inl own)) = (subst (IsNoOpeningOf (channel_number request.chan)) (sym own.0.is) tt, sends-other tasks own.1)
  sends-other (task ∷ tasks) (inr (inr (inl own))) = (subst (IsNoOpeningOf (channel_number request.chan)) (sym own.0) tt, sends-other tasks (each-sends request tasks own.1))
  sends-other (task ∷ tasks) (inr (inr (inr own))) = (subst (IsNoOpeningOf (channel_number request.chan)) (sym own.0.is) tt, sends-other tasks (closes-sends request tasks own.1))

  used-other : (tasks : List Task) → UsedOnce request tasks → Each (IsNoOpeningOf (channel_number request.chan)) tasks
  used-other [] used = tt
  used-other (task ∷ tasks) (inl off) = (off-other (channel_number request.chan) task off.0, used-other tasks off.1)
  used-other (task ∷ tasks) (inr (inl own)) = (subst (IsNoOpeningOf (channel_number request.chan)) (sym own.0.is) tt, sends-other tasks own.1)
  used-other (task ∷ tasks) (inr (inr own)) = sends-other (task ∷ tasks) (inr own)

  full-once : (tasks : List Task) → FullScript request tasks → OpenedOnce request tasks
  full-once [] full = tt
  full-once (task ∷ tasks) (inl off) = inl (off-other (channel_number request.chan) task off.0, full-once tasks off.1)
  full-once (task ∷ tasks) (inr own) = inr (own.0, used-other tasks own.1)

pub owned-once : (network : Network) (request : Request) (owner : ℕ) → OwnedFully network request owner → OwnedOnce network request owner
owned-once network request owner full = record { inside = full.inside; own = λ tasks found. full-once request tasks (full.own tasks found); others = full.others }

pub fully-asked : (network : Network) (request : Request) (owner : ℕ) → NetworkFits network → RequestFits network.links request → OwnedFully network request owner → (run : List Done) → IsRun network run → ChannelAsked request run
fully-asked network request owner fits sound full = owned-asked network request owner fits sound (owned-once network request owner full)

-- ---- every run

-- an entry of another actor names another channel
pub others-off : (network : Network) (request : Request) (owner : ℕ) (past : List Done) (done : Done) → OwnedFully network request owner → IsNext network past done → actor_number done.actor ≢ owner → IsOff (channel_number request.chan) done.ask
others-off network request owner past done full next other = entry-off network (channel_number request.chan) past done next (λ tasks. full.others (actor_number done.actor) tasks other)

module _ (network : Network) (request : Request) (owner : ℕ) (fits : NetworkFits network) (sound : RequestFits network.links request) (full : OwnedFully network request owner) where
  abbrev Between : List Done → List Learnt → List Task → Type 0
  Between run outcomes tasks = BetweenTasks network request run (is_established request.chan outcomes) tasks

  abbrev At : List Done → Standing → Type 0
  At run at = ClosesAt network request run at.tasks at.replies (is_established request.chan at.outcomes)

  none-closes : (script : List Task) → FullScript request script → Between [] [] script
  unfolding part_of
  none-closes script own = Early own (none-established request) (λ n. tt)

  -- an entry of the owner
  pub own-reply : (script : List Task) (past : List Done) (done : Done) (task : Task) (rest : List Task) (replies : List Reply) (outcomes : List Learnt) → OwnStep network owner script past done task rest replies outcomes → UnderWay network request past task rest replies (is_established request.chan outcomes)
      → OneReply network request done past task rest replies (is_established request.chan outcomes)
  own-reply script past done task rest replies outcomes step was = one-reply network request owner script past done fits sound (owned-once network request owner full) task rest replies outcomes was step

  over : (script : List Task) (past : List Done) (done : Done) (task : Task) (rest : List Task) (replies : List Reply) (outcomes : List Learnt) → OwnStep network owner script past done task rest replies outcomes → task_ask task (replies ++ done.reply ∷ []) ≡ None → UnderWay network request past task rest replies (is_established request.chan outcomes)
      → Between (done ∷ past) (outcome_by task (replies ++ done.reply ∷ []) ++ outcomes) rest
  over script past done task rest replies outcomes step none was =
      task-over network request (done ∷ past) task rest (replies ++ done.reply ∷ []) outcomes (own-reply script past done task rest replies outcomes step was).later settles (told-first replies done.reply) where
        settles : task ≡ Opens request → Settles network request (replies ++ done.reply ∷ []) (done ∷ past)
        settles own =
            setup-settles network request (replies ++ done.reply ∷ []) (done ∷ past)
            (step-setup network request owner fits sound (owned-once network request owner full) script past done rest replies outcomes (subst (λ t. OwnStep network owner script past done t rest replies outcomes) own step)).stands
            (subst (λ t. task_ask t (replies ++ done.reply ∷ []) ≡ None) own none)

  closes-keeps : (script : List Task) → slice_get network.scripts owner ≡ Some script → KeptBySteps network owner script Between At
  closes-keeps script found = record {
    first = none-closes script (full.own script found);
    begins = next-begins network request;
    off = λ past done at run next other was. closes-later network request done past fits run (others-off network request owner past done full next other) at.tasks at.replies (is_established request.chan at.outcomes) was;
    goes = λ past done task rest replies outcomes to step more was. (own-reply script past done task rest replies outcomes step was).later;
    over = over script;
  }

module _ (network : Network) (request : Request) (owner : ℕ) (script : List Task) (past : List Done) (done : Done) (task : Task) (rest : List Task) (replies : List Reply) (outcomes : List Learnt) where
  -- the task under way as the owner makes a step
  pub step-under : NetworkFits network → RequestFits network.links request → OwnedFully network request owner → OwnStep network owner script past done task rest replies outcomes
      → UnderWay network request past task rest replies (is_established request.chan outcomes)
  step-under fits sound full step =
      subst (At network request owner fits sound full past) step.stands (each-run network owner script step.found (Between network request owner fits sound full) (At network request owner fits sound full) (closes-keeps network request owner fits sound full script step.found) past step.run)

  pub step-kind : NetworkFits network → RequestFits network.links request → OwnedFully network request owner → OwnStep network owner script past done task rest replies outcomes → OwnKind network request done past task replies
  step-kind fits sound full step =
      (own-reply network request owner fits sound full script past done task rest replies outcomes step (step-under fits sound full step)).kind

  -- in every run each reply to a submit or a release is one of its ask's
  pub step-usual : NetworkFits network → RequestFits network.links request → OwnedFully network request owner → OwnStep network owner script past done task rest replies outcomes → IsUsualReply request task done.ask done.reply
  step-usual fits sound full step =
      (own-reply network request owner fits sound full script past done task rest replies outcomes step (step-under fits sound full step)).usual
