-- What kinds of entry the owner of a channel makes: one of another channel, one of its setup, a submit on it, or a release of it.
use Rattle.std.proofs.Common.{◌≡◌, ◌≢◌, ℕ, suc, List, [], ◌∷◌, ◌++◌, length, Option, Some, None, refl, ap, ◌∙◌, inl, inr, sym}
use Rattle.run_engine.proofs.Words.{cases_Bool, same_Some, nat_eq, link_number, channel_number, ChanNo, LinkNo, Ask, Submit, Release, Reply, IsOff, kept_in, shifted_in, told_by, stage_after, joining_after, Leaving, Releasing, Shifted, Progress, asked, first_count, told_count, Request, TaskOff, Network, Task, Opens, Sends, Closes, Moves, Done, HopAt}
use Rattle.link_steps.specs.declared.replies.Reply.TheVariants as Is
use Rattle.setup_protocol.proofs.HopAsks.{of-setup}
use Rattle.setup_protocol.proofs.HopHolds.{IsComm}
use Rattle.run_engine.proofs.Channels.RowsFollow.{held_at_hop, SetupRows}

abbrev pub NoRelease : Ask → Type 0
NoRelease (Release chan upstream) = ⊥
NoRelease _ = Unit {0}

-- the request whose channel a task leaves: it closes it, or moves from it
abbrev pub request_left : Task → Option Request
request_left (Closes request) = Some request
request_left (Moves old new gap size) = Some old
request_left _ = None

abbrev pub IsLeaving : Request → Task → Type 0
IsLeaving request task = request_left task ≡ Some request

same-channel : (own request : Request) → Some own ≡ Some request → channel_number own.chan ≡ channel_number request.chan
same-channel own request same = ap (λ (r : Request). channel_number r.chan) (same_Some own request same)

pub off-leaving : (request : Request) (task : Task) → TaskOff (channel_number request.chan) task → IsLeaving request task → ⊥
off-leaving request (Closes own) off is = off (same-channel own request is)
off-leaving request (Moves old new gap size) off is = off.0 (same-channel old request is)
off-leaving request _ off is = cc

pub data OwnKind (network : Network) (request : Request) (done : Done) (past : List Done) (task : Task) (replies : List Reply) : Type 0 where
  OwnOff : (IsLeaving request task → ⊥) → IsOff (channel_number request.chan) done.ask → OwnKind network request done past task replies
  OwnAside : (first : Reply) → replies ≡ first ∷ [] → IsOff (channel_number request.chan) done.ask → OwnKind network request done past task replies
  OwnSetup : (later : List Reply) → later ≡ replies ++ done.reply ∷ [] → task ≡ Opens request → SetupRows network request later (done ∷ past) → NoRelease done.ask → OwnKind network request done past task replies
  OwnSend : (count gap size : ℕ) → (IsLeaving request task → ⊥) → done.ask ≡ Submit request.chan count gap size → OwnKind network request done past task replies
  OwnClose : (levels : List ℕ) → IsLeaving request task → (k : ℕ) → (here : HopAt network request k) → link_number done.link ≡ link_number here.hop.link → done.ask ≡ Release request.chan (first_count replies) → (replies ≡ [] → k ≡ 0) → IsComm Some request levels k (held_at_hop network request k here past) → OwnKind network request done past task replies

-- an opening doesn't leave it, nor does a send, nor a move onto it
pub opens-stay : (request : Request) (task : Task) → task ≡ Opens request → IsLeaving request task → ⊥
opens-stay request task own is = (let clash : None ≡ Some request = sym (ap request_left own) ∙ is in cc)

pub send-stays : (request : Request) (link : LinkNo) (chan : ChanNo) (count gap size : ℕ) → IsLeaving request (Sends link (Some chan) count gap size) → ⊥
send-stays request link chan count gap size is = cc

pub onto-stays : (request old : Request) (gap size : ℕ) → channel_number old.chan ≢ channel_number request.chan → IsLeaving request (Moves old request gap size) → ⊥
onto-stays request old gap size other is = other (same-channel old request is)

-- an ask of a setup is no release
pub setup-keeps : (request : Request) (p : Progress) (to : LinkNo) (ask : Ask) → asked request p ≡ Some (to, ask) → NoRelease ask
setup-keeps request p to ask same = of-setup NoRelease request p to ask (λ offers reach. tt) tt (λ levels place. tt) same

-- ---- what the first reply to a task that leaves tells

pub stage-some : (told : Shifted) (made : ℕ) → Leaving ≡ Releasing told made → ⊥
stage-some told made same = cc

-- the count that the first reply tells
pub told-kept : (reply : Reply) → told_count reply ≡ kept_in reply
told-kept (Is.Closing count cancelled) = refl
told-kept _ = refl

pub stage-told : (replies : List Reply) (told : Shifted) (made : ℕ) → stage_after replies ≡ Releasing told made → first_count replies ≡ Some told.kept
stage-told [] told made stage = cc
stage-told (first ∷ replies) told made stage =
    ap Some (told-kept first) ∙ ap (λ (t : Shifted). Some t.kept) (elim (cases_Bool (nat_eq (shifted_in first) 0)) [
      | inl none ↦ told-same (told_by first) told (suc (length replies)) made (rw none at stage)
      | inr some ↦ later replies (rw some at stage)
    ]) where
      told-same : (a b : Shifted) (n m : ℕ) → Releasing a n ≡ Releasing b m → a ≡ b
      told-same a b n m same = cc

      later : (rest : List Reply) → joining_after (told_by first) rest ≡ Releasing told made → told_by first ≡ told
      later [] is = cc
      later (planned ∷ rest) is = told-same (told_by first) told (suc (length rest)) made is
