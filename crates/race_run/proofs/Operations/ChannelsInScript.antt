-- What a caller's script tells of a channel at an operation: before it is opened no task names it, and where it is sent on or
-- closed it was opened above and not closed. Before packets are moved onto it none are sent on it.
use Rattle.std.proofs.Common.{◌≡◌, ◌≢◌, ℕ, Some, List, [], ◌∷◌, ◌++◌, refl, sym, ap, subst, inl, inr}
use Rattle.net_units.specs.Numbers.{channel_number}
use Rattle.net_units.specs.declared.numbers.LinkNo.{LinkNo}
use Rattle.link_steps.specs.Lists.{Each}
use Rattle.setup_protocol.specs.declared.request.Request.{Request}
use Rattle.step_stamp.specs.Lists.{Has}
use Rattle.call_script.specs.Owners.{TaskOff, IsSendOn, IsMoveFrom, IsMoveOnto, ClosesOnce, SendsOnce, UsedOnce, FullScript}
use Rattle.call_script.specs.declared.tasks.Task.{Task}
use Rattle.call_script.specs.declared.tasks.Task.TheVariants.{Opens, Sends, Closes, Moves}
use Rattle.race_run.specs.Callers.{LeavesOpen, LeavesUnsent}

-- a task that names the channel isn't off it
pub data Names (request : Request) : Task → Type 0 where
  AnOpen : Names request (Opens request)
  ASend : (link : LinkNo) (count gap size : ℕ) → Names request (Sends link (Some request.chan) count gap size)
  AClose : Names request (Closes request)
  AMoveFrom : (new : Request) (gap size : ℕ) → Names request (Moves request new gap size)
  AMoveOnto : (old : Request) (gap size : ℕ) → Names request (Moves old request gap size)

pub named-off : (request : Request) (task : Task) → Names request task → TaskOff (channel_number request.chan) task → ⊥
named-off request task AnOpen off = off refl
named-off request task (ASend link count gap size) off = off refl
named-off request task AClose off = off refl
named-off request task (AMoveFrom new gap size) off = off.0 refl
named-off request task (AMoveOnto old gap size) off = off.1 refl

pub each-middle : (P : Task → Type 0) (front : List Task) (task : Task) (rest : List Task) → Each P (front ++ task ∷ rest) → P task
each-middle P [] task rest each = each.0
each-middle P (first ∷ front) task rest each = each-middle P front task rest each.1

off-leaves : (c : ℕ) (task : Task) → TaskOff c task → LeavesOpen c task
off-leaves c (Opens request) off = tt
off-leaves c (Sends link chan count gap size) off = tt
off-leaves c (Closes request) off = off
off-leaves c (Moves old new gap size) off = tt

send-leaves : (request : Request) (task : Task) → IsSendOn request task → LeavesOpen (channel_number request.chan) task
send-leaves request task send = subst (LeavesOpen (channel_number request.chan)) (sym send.is) tt

from-leaves : (request : Request) (task : Task) → IsMoveFrom request task → LeavesOpen (channel_number request.chan) task
from-leaves request task move = subst (LeavesOpen (channel_number request.chan)) (sym move.is) tt

onto-leaves : (request : Request) (task : Task) → IsMoveOnto request task → LeavesOpen (channel_number request.chan) task
onto-leaves request task move = subst (LeavesOpen (channel_number request.chan)) (sym move.is) tt

-- after its opening a channel isn't opened again
closes-no-open : (request : Request) (front rest : List Task) → ClosesOnce request (front ++ Opens request ∷ rest) → ⊥
closes-no-open request [] rest (inl off) = off.0 refl
closes-no-open request [] rest (inr close) = (let is : Opens request ≡ Closes request = close.0 in cc)
closes-no-open request (task ∷ front) rest (inl off) = closes-no-open request front rest off.1
closes-no-open request (task ∷ front) rest (inr close) = each-middle (TaskOff (channel_number request.chan)) front (Opens request) rest close.1 refl

sends-no-open : (request : Request) (front rest : List Task) → SendsOnce request (front ++ Opens request ∷ rest) → ⊥
sends-no-open request [] rest (inl off) = off.0 refl
sends-no-open request [] rest (inr (inl send)) = (let is : Opens request ≡ Sends send.0.hop.link (Some request.chan) send.0.count send.0.gap send.0.size = send.0.is in cc)
sends-no-open request [] rest (inr (inr (inl close))) = (let is : Opens request ≡ Closes request = close.0 in cc)
sends-no-open request [] rest (inr (inr (inr move))) = (let is : Opens request ≡ Moves request move.0.new move.0.gap move.0.size = move.0.is in cc)
sends-no-open request (task ∷ front) rest (inl off) = sends-no-open request front rest off.1
sends-no-open request (task ∷ front) rest (inr (inl send)) = sends-no-open request front rest send.1
sends-no-open request (task ∷ front) rest (inr (inr (inl close))) = each-middle (TaskOff (channel_number request.chan)) front (Opens request) rest close.1 refl
sends-no-open request (task ∷ front) rest (inr (inr (inr move))) = closes-no-open request front rest move.1

used-no-open : (request : Request) (front rest : List Task) → UsedOnce request (front ++ Opens request ∷ rest) → ⊥
used-no-open request [] rest (inl off) = off.0 refl
used-no-open request [] rest (inr (inl move)) = (let is : Opens request ≡ Moves move.0.old request move.0.gap move.0.size = move.0.is in cc)
used-no-open request [] rest (inr (inr used)) = sends-no-open request [] rest (inr used)
used-no-open request (task ∷ front) rest (inl off) = used-no-open request front rest off.1
used-no-open request (task ∷ front) rest (inr (inl move)) = sends-no-open request front rest move.1
used-no-open request (task ∷ front) rest (inr (inr used)) = sends-no-open request (task ∷ front) rest (inr used)

pub opened-once : (request : Request) (front rest : List Task) → FullScript request (front ++ Opens request ∷ rest) → Each (TaskOff (channel_number request.chan)) front
opened-once request [] rest full = tt
opened-once request (task ∷ front) rest (inl off) = (off.0, opened-once request front rest off.1)
opened-once request (task ∷ front) rest (inr opens) = absurd (used-no-open request front rest opens.1)

-- up to a use of the channel nothing has closed it
closes-open : (request : Request) (front : List Task) (task : Task) (rest : List Task) → Names request task → ClosesOnce request (front ++ task ∷ rest) → Each (LeavesOpen (channel_number request.chan)) front
closes-open request [] task rest names closes = tt
closes-open request (first ∷ front) task rest names (inl off) = (off-leaves (channel_number request.chan) first off.0, closes-open request front task rest names off.1)
closes-open request (first ∷ front) task rest names (inr close) = absurd (named-off request task names (each-middle (TaskOff (channel_number request.chan)) front task rest close.1))

sends-open : (request : Request) (front : List Task) (task : Task) (rest : List Task) → Names request task → SendsOnce request (front ++ task ∷ rest) → Each (LeavesOpen (channel_number request.chan)) front
sends-open request [] task rest names sends = tt
sends-open request (first ∷ front) task rest names (inl off) = (off-leaves (channel_number request.chan) first off.0, sends-open request front task rest names off.1)
sends-open request (first ∷ front) task rest names (inr (inl send)) = (send-leaves request first send.0, sends-open request front task rest names send.1)
sends-open request (first ∷ front) task rest names (inr (inr (inl close))) = absurd (named-off request task names (each-middle (TaskOff (channel_number request.chan)) front task rest close.1))
sends-open request (first ∷ front) task rest names (inr (inr (inr move))) = (from-leaves request first move.0, closes-open request front task rest names move.1)

used-open : (request : Request) (front : List Task) (task : Task) (rest : List Task) → Names request task → UsedOnce request (front ++ task ∷ rest) → Each (LeavesOpen (channel_number request.chan)) front
used-open request [] task rest names used = tt
used-open request (first ∷ front) task rest names (inl off) = (off-leaves (channel_number request.chan) first off.0, used-open request front task rest names off.1)
used-open request (first ∷ front) task rest names (inr (inl move)) = (onto-leaves request first move.0, sends-open request front task rest names move.1)
used-open request (first ∷ front) task rest names (inr (inr used)) = sends-open request (first ∷ front) task rest names (inr used)

-- a use of the channel, by a send, a close or a move
pub data Uses (request : Request) : Task → Type 0 where
  BySend : (link : LinkNo) (count gap size : ℕ) → Uses request (Sends link (Some request.chan) count gap size)
  ByClose : Uses request (Closes request)
  ByMoveFrom : (new : Request) (gap size : ℕ) → Uses request (Moves request new gap size)
  ByMoveOnto : (old : Request) (gap size : ℕ) → Uses request (Moves old request gap size)

uses-names : (request : Request) (task : Task) → Uses request task → Names request task
uses-names request task (BySend link count gap size) = ASend link count gap size
uses-names request task ByClose = AClose
uses-names request task (ByMoveFrom new gap size) = AMoveFrom new gap size
uses-names request task (ByMoveOnto old gap size) = AMoveOnto old gap size

uses-apart : (request : Request) (task : Task) → Uses request task → task ≡ Opens request → ⊥
uses-apart request task (BySend link count gap size) is = (let clash : Sends link (Some request.chan) count gap size ≡ Opens request = is in cc)
uses-apart request task ByClose is = (let clash : Closes request ≡ Opens request = is in cc)
uses-apart request task (ByMoveFrom new gap size) is = (let clash : Moves request new gap size ≡ Opens request = is in cc)
uses-apart request task (ByMoveOnto old gap size) is = (let clash : Moves old request gap size ≡ Opens request = is in cc)

pub record IsLive (request : Request) (front : List Task) : Type 0 where
  pub opened : Has (Opens request) front
  pub unclosed : Each (LeavesOpen (channel_number request.chan)) front

pub used-live : (request : Request) (front : List Task) (task : Task) (rest : List Task) → Uses request task → FullScript request (front ++ task ∷ rest) → IsLive request front
used-live request [] task rest uses (inl off) = absurd (named-off request task (uses-names request task uses) off.0)
used-live request [] task rest uses (inr opens) = absurd (uses-apart request task uses opens.0)
used-live request (first ∷ front) task rest uses (inl off) = (let live = used-live request front task rest uses off.1 in record { opened = inr live.opened; unclosed = (off-leaves (channel_number request.chan) first off.0, live.unclosed) })
used-live request (first ∷ front) task rest uses (inr opens) = record {
  opened = inl opens.0;
  unclosed = (subst (LeavesOpen (channel_number request.chan)) (sym opens.0) tt, used-open request front task rest (uses-names request task uses) opens.1);
}

-- ---- up to a move onto the channel nothing is sent on it

off-unsent : (c : ℕ) (task : Task) → TaskOff c task → LeavesUnsent c task
off-unsent c (Opens request) off = tt
off-unsent c (Sends link chan count gap size) off = off
off-unsent c (Closes request) off = tt
off-unsent c (Moves old new gap size) off = off.1

closes-no-onto : (request old : Request) (gap size : ℕ) (front rest : List Task) → ClosesOnce request (front ++ Moves old request gap size ∷ rest) → ⊥
closes-no-onto request old gap size [] rest (inl off) = off.0.1 refl
closes-no-onto request old gap size [] rest (inr close) = (let is : Moves old request gap size ≡ Closes request = close.0 in cc)
closes-no-onto request old gap size (task ∷ front) rest (inl off) = closes-no-onto request old gap size front rest off.1
closes-no-onto request old gap size (task ∷ front) rest (inr close) = (each-middle (TaskOff (channel_number request.chan)) front (Moves old request gap size) rest close.1).1 refl

same-old : (one other new onto : Request) (gap other_gap size other_size : ℕ) → Moves one new gap size ≡ Moves other onto other_gap other_size → one ≡ other
same-old one other new onto gap other_gap size other_size same = cc

sends-no-onto : (request old : Request) (gap size : ℕ) (front rest : List Task) → channel_number old.chan ≢ channel_number request.chan → SendsOnce request (front ++ Moves old request gap size ∷ rest) → ⊥
sends-no-onto request old gap size [] rest apart (inl off) = off.0.1 refl
sends-no-onto request old gap size [] rest apart (inr (inl send)) = (let is : Moves old request gap size ≡ Sends send.0.hop.link (Some request.chan) send.0.count send.0.gap send.0.size = send.0.is in cc)
sends-no-onto request old gap size [] rest apart (inr (inr (inl close))) = (let is : Moves old request gap size ≡ Closes request = close.0 in cc)
sends-no-onto request old gap size [] rest apart (inr (inr (inr move))) = (let is : Moves old request gap size ≡ Moves request move.0.new move.0.gap move.0.size = move.0.is in apart (ap (λ (r : Request). channel_number r.chan) (same-old old request request move.0.new gap move.0.gap size move.0.size is)))
sends-no-onto request old gap size (task ∷ front) rest apart (inl off) = sends-no-onto request old gap size front rest apart off.1
sends-no-onto request old gap size (task ∷ front) rest apart (inr (inl send)) = sends-no-onto request old gap size front rest apart send.1
sends-no-onto request old gap size (task ∷ front) rest apart (inr (inr (inl close))) = (each-middle (TaskOff (channel_number request.chan)) front (Moves old request gap size) rest close.1).1 refl
sends-no-onto request old gap size (task ∷ front) rest apart (inr (inr (inr move))) = closes-no-onto request old gap size front rest move.1

used-unsent : (request old : Request) (gap size : ℕ) (front rest : List Task) → channel_number old.chan ≢ channel_number request.chan → UsedOnce request (front ++ Moves old request gap size ∷ rest) → Each (LeavesUnsent (channel_number request.chan)) front
used-unsent request old gap size [] rest apart used = tt
used-unsent request old gap size (task ∷ front) rest apart (inl off) = (off-unsent (channel_number request.chan) task off.0, used-unsent request old gap size front rest apart off.1)
used-unsent request old gap size (task ∷ front) rest apart (inr (inl move)) = absurd (sends-no-onto request old gap size front rest apart move.1)
used-unsent request old gap size (task ∷ front) rest apart (inr (inr used)) = absurd (sends-no-onto request old gap size (task ∷ front) rest apart (inr used))

pub joined-unsent : (request old : Request) (gap size : ℕ) (front rest : List Task) → channel_number old.chan ≢ channel_number request.chan → FullScript request (front ++ Moves old request gap size ∷ rest) → Each (LeavesUnsent (channel_number request.chan)) front
joined-unsent request old gap size [] rest apart full = tt
joined-unsent request old gap size (task ∷ front) rest apart (inl off) = (off-unsent (channel_number request.chan) task off.0, joined-unsent request old gap size front rest apart off.1)
joined-unsent request old gap size (task ∷ front) rest apart (inr opens) = (subst (LeavesUnsent (channel_number request.chan)) (sym opens.0) tt, used-unsent request old gap size front rest apart opens.1)

-- ---- what a task more changes

pub each-front : (P : Task → Type 0) (front : List Task) (task : Task) → Each P (front ++ task ∷ []) → Each P front × P task
each-front P [] task each = (tt, each.0)
each-front P (first ∷ front) task each = (let rest = each-front P front task each.1 in ((each.0, rest.0), rest.1))

pub has-front : (x : Task) (front : List Task) (task : Task) → Has x (front ++ task ∷ []) → (task ≡ x → ⊥) → Has x front
has-front x [] task (inl is) other = absurd (other is)
has-front x [] task (inr none) other = absurd none
has-front x (first ∷ front) task (inl is) other = inl is
has-front x (first ∷ front) task (inr has) other = inr (has-front x front task has other)
