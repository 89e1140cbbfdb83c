-- What an entry of a run is to a channel: one of another actor, which doesn't name it, or one of the kinds that its owner makes.
use Rattle.std.proofs.Common.{◌≢◌, ℕ, List, ◌∷◌, sym, subst, inl, inr}
use Rattle.run_engine.proofs.Words.{cases_Bool, eqb-true, eqb-false, nat_eq, actor_number, channel_number, Reply, IsOff, IsMild, RequestFits, Request, NetworkFits, OwnedFully, Learnt, Network, Task, Done, IsNext, IsRun}
use Rattle.run_engine.proofs.Channels.RowsFollow.{SetupRows}
use Rattle.run_engine.proofs.Keeping.Lookups.{held}
use Rattle.run_engine.proofs.Replies.RunCloses.{others-off, step-kind}
use Rattle.run_engine.proofs.Runs.EachRun.{OwnStep, at-step}
use Rattle.run_engine.proofs.Tasks.TaskAsks.{off-mild}
use Rattle.run_engine.proofs.Replies.OwnerKinds.{OwnKind, OwnOff, OwnAside, OwnSetup, OwnSend, OwnClose}

pub data EntryOf (network : Network) (request : Request) (owner : ℕ) (past : List Done) (done : Done) : Type 0 where
  ByOther : actor_number done.actor ≢ owner → IsOff (channel_number request.chan) done.ask → EntryOf network request owner past done
  ByOwner : (script : List Task) (task : Task) (rest : List Task) (replies : List Reply) (outcomes : List Learnt) → OwnStep network owner script past done task rest replies outcomes → OwnKind network request done past task replies → EntryOf network request owner past done

pub entry-of : (network : Network) (request : Request) (owner : ℕ) (past : List Done) (done : Done) → NetworkFits network → RequestFits network.links request → OwnedFully network request owner → IsRun network past → IsNext network past done → EntryOf network request owner past done
entry-of network request owner past done fits sound full run next =
    elim (cases_Bool (nat_eq (actor_number done.actor) owner)) [
      | inl own ↦
          (let script = held network.scripts owner full.inside in
          at-step network owner script.item past done run next (eqb-true (actor_number done.actor) owner own) script.found (λ at. EntryOf network request owner past done)
          (λ task rest replies outcomes step. ByOwner script.item task rest replies outcomes step (step-kind network request owner script.item past done task rest replies outcomes fits sound full step)))
      | inr others ↦ (let other = eqb-false (actor_number done.actor) owner others in ByOther other (others-off network request owner past done full next other))
    ]

-- so it neither reserves, relaxes nor denies the channel, or it is one of its setup, and leaves the rows that the replies say
pub data EntryIs (network : Network) (request : Request) (owner : ℕ) (past : List Done) (done : Done) : Type 0 where
  MildOne : IsMild (channel_number request.chan) done.ask → EntryIs network request owner past done
  SetupOne : (replies : List Reply) → SetupRows network request replies (done ∷ past) → EntryIs network request owner past done

pub entry-is : (network : Network) (request : Request) (owner : ℕ) (past : List Done) (done : Done) → NetworkFits network → RequestFits network.links request → OwnedFully network request owner → IsRun network past → IsNext network past done → EntryIs network request owner past done
entry-is network request owner past done fits sound full run next = by (entry-of network request owner past done fits sound full run next) where
  by : EntryOf network request owner past done → EntryIs network request owner past done
  by (ByOther other off) = MildOne (off-mild (channel_number request.chan) done.ask off)
  by (ByOwner script task rest replies outcomes step (OwnOff other off)) = MildOne (off-mild (channel_number request.chan) done.ask off)
  by (ByOwner script task rest replies outcomes step (OwnAside first one off)) = MildOne (off-mild (channel_number request.chan) done.ask off)
  by (ByOwner script task rest replies outcomes step (OwnSetup more made own rows setup)) = SetupOne more rows
  by (ByOwner script task rest replies outcomes step (OwnSend count gap size own is)) = MildOne (subst (IsMild (channel_number request.chan)) (sym is) tt)
  by (ByOwner script task rest replies outcomes step (OwnClose levels own k here on is zeroth comm)) = MildOne (subst (IsMild (channel_number request.chan)) (sym is) tt)
