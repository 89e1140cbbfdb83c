-- Laws of the rules: facts of every admissible history, of every list of packets, or of every history.
use Rattle.std.specs.Prelude.{◌≡◌, ℕ, ◌≤◌, List, ◌∷◌, length, map, reverse}
use Rattle.net_units.specs.LevelBounds.{bound_at}
use Rattle.traffic_contract.specs.Keeping.{Keeps}
use Rattle.link_steps.specs.declared.asks.Ask.{Ask}
use Rattle.link_steps.specs.declared.replies.Entry.{Entry}
use Rattle.link_steps.specs.declared.shape.LinkShape.{LinkShape}
use Rattle.link_steps.specs.Admissible.{IsAdmissible}
use Rattle.traffic_contract.specs.Admission.{total}
use Rattle.link_steps.specs.Buffer.{held_units}
use Rattle.link_steps.specs.BusyPeriod.{HasWork, IsClear, FitsWindow, FitsWithin, EndsWithin}
use Rattle.link_steps.specs.HopGuarantee.{AfterEach, HeldRowsPass, HopGuarantee}
use Rattle.link_steps.specs.Account.{HasContracts, account_of, account_reply, account_after}
use Rattle.link_steps.specs.Legal.{AskFits, IsLegal}
use Rattle.link_steps.specs.Lists.{Each}
use Rattle.link_steps.specs.Replies.{reply_to}
use Rattle.link_steps.specs.Rows.{Row, row_terms}
use Rattle.link_steps.specs.Scan.{scan_of}
use Rattle.link_steps.specs.Service.{Arrival}
use Rattle.link_steps.specs.Shape.{blocking_of}
use Rattle.link_steps.specs.Split.{Link, SplitFits}
use Rattle.link_steps.specs.SourceGuarantee.{SourceGuarantee}

-- in every admissible history the held rows pass the admission test after every entry
abbrev pub HeldRowsAlwaysPass : Type 0
HeldRowsAlwaysPass = (shape : LinkShape) (h : List Entry) → IsAdmissible shape h → AfterEach (HeldRowsPass shape) h

-- the legal reply to an ask after a history is that of the account
abbrev pub AccountGivesReply : Type 0
AccountGivesReply = (link : Link) (h : List Entry) (ask : Ask) → HasContracts (account_of link.shape h) → reply_to link h ask ≡ account_reply link (account_of link.shape h) ask

-- the account of a history with one more entry is the next of the account before
abbrev pub AccountGoesOn : Type 0
AccountGoesOn = (shape : LinkShape) (h : List Entry) (e : Entry) → HasContracts (account_of shape h) → account_of shape (e ∷ h) ≡ account_after shape (account_of shape h) e.ask e.reply

-- the account of an admissible history has contracts
abbrev pub LegalHasContracts : Type 0
LegalHasContracts = (shape : LinkShape) (h : List Entry) → IsAdmissible shape h → HasContracts (account_of shape h)

-- a busy period of the levels up to m that begins at t ends within a window that its work and the blocking fit
abbrev pub BusyPeriodEnds : Type 0
BusyPeriodEnds = (rate blocking : ℕ) (packets : List Arrival) (m t w : ℕ) → Each (HasWork rate blocking) packets → IsClear rate packets m t → FitsWindow rate blocking packets m t w → EndsWithin rate packets m t w

-- the eligible ticks of a row, in order of time, keep its contract
abbrev pub KeepsItsContract : Row → Type 0
KeepsItsContract row = Keeps row.terms.contract (reverse row.ticks)

-- the rows of an admissible history, held or gone, have eligible ticks that keep their contracts, whatever their sources do
pub record RowsKeep (shape : LinkShape) (h : List Entry) : Type 0 where
  pub held : Each KeepsItsContract (scan_of shape h).rows
  pub gone : Each KeepsItsContract (scan_of shape h).gone

abbrev pub EveryRowKeepsItsContract : Type 0
EveryRowKeepsItsContract = (shape : LinkShape) (h : List Entry) → IsAdmissible shape h → RowsKeep shape h

-- each packet of an admissible history occupies the link for at least one tick and at most the blocking
abbrev pub EveryPacketHasWork : Type 0
EveryPacketHasWork = (shape : LinkShape) (h : List Entry) → IsAdmissible shape h → Each (HasWork shape.rate (blocking_of shape)) (scan_of shape h).packets

-- in an admissible history the packets of the levels up to m that are eligible in any window as long as the bound of level m
-- bring work that fits the window together with the blocking, channels that have come and gone included
abbrev pub EveryWindowFits : Type 0
EveryWindowFits = (shape : LinkShape) (h : List Entry) (m t : ℕ) → IsAdmissible shape h → 1 ≤ m → m ≤ length shape.bounds → FitsWithin shape.rate (blocking_of shape) (scan_of shape h).packets m t (bound_at shape.bounds m)

-- every admissible history has the hop guarantee: after each of its entries the held rows pass the admission test, every
-- packet that has departed did so later than its eligible tick and within the bound of its level, and every packet whose
-- eligible tick and bound the clock has reached has departed. It doesn't matter what arrives, nor when channels come and
-- go
abbrev pub EveryPacketLeavesInTime : Type 0
EveryPacketLeavesInTime = (shape : LinkShape) (h : List Entry) → IsAdmissible shape h → HopGuarantee shape h

-- every admissible history has the source guarantee: what a source that keeps its contract has offered has found buffer at its
-- channel's first hop, was eligible as it arrived, and has left at most the bound of its level after it arrived. It doesn't
-- matter what the other sources do, nor when channels come and go
abbrev pub HonestSourcesFindBuffer : Type 0
HonestSourcesFindBuffer = (shape : LinkShape) (h : List Entry) → IsAdmissible shape h → SourceGuarantee shape h

-- every legal history of a link whose split fits it is admissible, so what is promised of admissible histories holds of it, too
abbrev pub LegalIsAdmissible : Type 0
LegalIsAdmissible = (link : Link) (h : List Entry) → SplitFits link → IsLegal link h → IsAdmissible link.shape h

-- in every admissible history the held rows together never keep more than the link's buffer
abbrev pub HeldRowsFitBuffer : Type 0
HeldRowsFitBuffer = (shape : LinkShape) (h : List Entry) → IsAdmissible shape h → total (held_units shape.bounds) (map row_terms (scan_of shape h).rows) ≤ shape.buffer

-- a legal history goes on with each ask that meets the conditions, with one reply, and its asks determine it
pub record RepliesAreDetermined : Type 0 where
  pub goes_on : (link : Link) (past : List Entry) (ask : Ask) → IsLegal link past → AskFits link.shape ask → IsLegal link (record { ask = ask; reply = reply_to link past ask } ∷ past)
  pub only : (link : Link) (h other : List Entry) → IsLegal link h → IsLegal link other → map (λ e. e.ask) h ≡ map (λ e. e.ask) other → h ≡ other
