-- Each task of the owner of a request, in its script and where it stands, if it names the request's channel, is one of the request's own: its
-- opening, a send at its first hop, its closing, a move from it or a move onto it.
use Rattle.std.proofs.Common.{◌≡◌, ◌≢◌, ℕ, List, [], ◌∷◌, Some, sym, subst, inl, inr, refl, ◌⊎◌}
use Rattle.run_engine.proofs.Words.{slice_get, channel_number, Reply, Each, Request, TaskOff, IsSendOn, IsMoveFrom, IsMoveOnto, ClosesOnce, SendsOnce, UsedOnce, FullScript, OwnedFully, IsOwned, IsUnnamed, AllOwned, Learnt, Standing, standing, ready, Network, replies_to, Done, Task, Opens, Sends, Closes, Moves, cases_Bool, eqb-true, eqb-false, nat_eq}
use Rattle.link_steps.proofs.SearchAndFilter.{Each-if}
use Rattle.run_engine.proofs.Runs.EachRun.{each-standing, OwnStep}
use Rattle.call_script.proofs.TaskBegins.{ready-keeps}

-- a move from the channel is the request's, to another; and so is one onto it
pub record MoveIs (request old new : Request) : Type 0 where
  pub leaves : channel_number old.chan ≡ channel_number request.chan → (old ≡ request) × (channel_number new.chan ≢ channel_number request.chan)
  pub joins : channel_number new.chan ≡ channel_number request.chan → new ≡ request

abbrev pub OwnTask : Request → Task → Type 0
OwnTask request (Opens own) = channel_number own.chan ≡ channel_number request.chan → own ≡ request
OwnTask request (Sends link (Some chan) count gap size) = channel_number chan ≡ channel_number request.chan → IsSendOn request (Sends link (Some chan) count gap size)
OwnTask request (Closes own) = channel_number own.chan ≡ channel_number request.chan → own ≡ request
OwnTask request (Moves old new gap size) = MoveIs request old new
OwnTask request _ = Unit {0}

module _ (request : Request) where
  -- ---- the tasks of a script

  off-own : (task : Task) → TaskOff (channel_number request.chan) task → OwnTask request task
  off-own (Opens own) off = λ same. absurd (off same)
  off-own (Sends link (Some chan) count gap size) off = λ same. absurd (off same)
  off-own (Closes own) off = λ same. absurd (off same)
  off-own (Moves old new gap size) off = record { leaves = λ same. absurd (off.0 same); joins = λ same. absurd (off.1 same) }
  off-own _ off = tt

  send-own : (task : Task) → IsSendOn request task → OwnTask request task
  send-own task own = subst (OwnTask request) (sym own.is) (λ same. record { hop = own.hop; count = own.count; gap = own.gap; size = own.size; stands = own.stands; is = refl })

  close-own : (task : Task) → task ≡ Closes request → OwnTask request task
  close-own task is = subst (OwnTask request) (sym is) (λ same. refl)

  from-own : (task : Task) → IsMoveFrom request task → OwnTask request task
  from-own task own = subst (OwnTask request) (sym own.is) (record { leaves = λ same. (refl, own.other); joins = λ same. absurd (own.other same) })

  onto-own : (task : Task) → IsMoveOnto request task → OwnTask request task
  onto-own task own = subst (OwnTask request) (sym own.is) (record { leaves = λ same. absurd (own.other same); joins = λ same. refl })

  closing-own : (tasks : List Task) → ClosesOnce request tasks → Each (OwnTask request) tasks
  closing-own [] closes = tt
  closing-own (task ∷ tasks) (inl off) = (off-own task off.0, closing-own tasks off.1)
  closing-own (task ∷ tasks) (inr own) = (close-own task own.0, Each-if (TaskOff (channel_number request.chan)) (OwnTask request) tasks off-own own.1)

  sending-own : (tasks : List Task) → SendsOnce request tasks → Each (OwnTask request) tasks
  sending-own [] sends = tt
  sending-own (task ∷ tasks) (inl off) = (off-own task off.0, sending-own tasks off.1)
  sending-own (task ∷ tasks) (inr (inl own)) = (send-own task own.0, sending-own tasks own.1)
  sending-own (task ∷ tasks) (inr (inr (inl own))) = (close-own task own.0, Each-if (TaskOff (channel_number request.chan)) (OwnTask request) tasks off-own own.1)
  sending-own (task ∷ tasks) (inr (inr (inr own))) = (from-own task own.0, closing-own tasks own.1)

  using-own : (tasks : List Task) → UsedOnce request tasks → Each (OwnTask request) tasks
  using-own [] used = tt
  using-own (task ∷ tasks) (inl off) = (off-own task off.0, using-own tasks off.1)
  using-own (task ∷ tasks) (inr (inl own)) = (onto-own task own.0, sending-own tasks own.1)
  using-own (task ∷ tasks) (inr (inr own)) = sending-own (task ∷ tasks) (inr own)

  pub script-own : (tasks : List Task) → FullScript request tasks → Each (OwnTask request) tasks
  script-own [] full = tt
  script-own (task ∷ tasks) (inl off) = (off-own task off.0, script-own tasks off.1)
  script-own (task ∷ tasks) (inr own) = (subst (OwnTask request) (sym own.0) (λ same. refl), using-own tasks own.1)

  -- ---- where the owner stands

  ready-own : (outcomes : List Learnt) (task : Task) → OwnTask request task → OwnTask request (ready outcomes task)
  ready-own outcomes task own = ready-keeps (OwnTask request) (λ old new gap size other_gap other_size is. is) outcomes task own

pub standing-is : (network : Network) (request : Request) (owner : ℕ) (script : List Task) (replies : List Reply) → OwnedFully network request owner → slice_get network.scripts owner ≡ Some script → Each (OwnTask request) (standing script replies).tasks
standing-is network request owner script replies full found = each-standing (OwnTask request) (ready-own request) script replies (script-own request script (full.own script found))

pub own-task : (network : Network) (request : Request) (owner : ℕ) (script : List Task) (past : List Done) (done : Done) (task : Task) (rest : List Task) (replies : List Reply) (outcomes : List Learnt) → OwnedFully network request owner → OwnStep network owner script past done task rest replies outcomes → OwnTask request task
own-task network request owner script past done task rest replies outcomes full step = first (subst (λ (s : Standing). Each (OwnTask request) s.tasks) step.stands (standing-is network request owner script (replies_to owner past) full step.found)) where
  first : Each (OwnTask request) (task ∷ rest) → OwnTask request task
  first each = each.0

-- ---- the owner of a channel

pub record OwnerIs (network : Network) (c actor : ℕ) : Type 0 where
  pub own : IsOwned network c
  pub same : actor ≡ own.owner

pub owner-is : (network : Network) (c actor : ℕ) (tasks : List Task) → AllOwned network → slice_get network.scripts actor ≡ Some tasks → (Each (TaskOff c) tasks → ⊥) → OwnerIs network c actor
owner-is network c actor tasks all found named = by-owner (all c) where
  by-owner : IsOwned network c ⊎ IsUnnamed network c → OwnerIs network c actor
  by-owner (inr none) = absurd (named (none actor tasks found))
  by-owner (inl own) =
      elim (cases_Bool (nat_eq actor own.owner)) [
        | inl same ↦ record { own = own; same = eqb-true actor own.owner same }
        | inr other ↦ absurd (named (subst (λ n. Each (TaskOff n) tasks) own.chan (own.full.others actor tasks (eqb-false actor own.owner other) found)))
      ]
