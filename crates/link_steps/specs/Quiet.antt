-- A tick of a link in which nothing falls due changes the clock alone: no row's hold ends in it, no packet is planned for it, and
-- no packet starts or departs in it. So a link that rests until some tick makes the ticks before it in one stride, whatever
-- their number.
use Rattle.std.specs.Prelude.{◌≡◌, ℕ, zero, suc, ◌+◌, ◌<◌, ◌≤◌, true, false, Option, Some, None, List, ◌∷◌}
use Rattle.link_steps.specs.declared.asks.Ask.TheVariants.{Tick}
use Rattle.link_steps.specs.declared.replies.Entry.{Entry}
use Rattle.link_steps.specs.declared.replies.Reply.{Reply}
use Rattle.link_steps.specs.declared.replies.Reply.TheVariants.{Ticked}
use Rattle.link_steps.specs.declared.shape.LinkShape.{LinkShape}
use Rattle.link_steps.specs.Account.{Account, AccountRow, HasContracts, StandsFor, account_stays}
use Rattle.link_steps.specs.Legal.{IsLegal}
use Rattle.link_steps.specs.Lists.{Each}
use Rattle.link_steps.specs.Replies.{reply_to}
use Rattle.link_steps.specs.Rows.{SourcePacket}
use Rattle.link_steps.specs.Service.{Arrival, Start, leaves_at}
use Rattle.link_steps.specs.Split.{Link}

-- ---- a link that rests

-- a packet isn't planned, and one that is here isn't eligible, before this tick
abbrev pub IsPlannedFrom : ℕ → SourcePacket → Type 0
IsPlannedFrom until p = until ≤ p.tick

abbrev pub IsEligibleFrom : ℕ → Arrival → Type 0
IsEligibleFrom until p = until ≤ p.eligible

-- from the clock on a row plans none before it, and its hold doesn't end before it
pub record RowRests (bounds : List ℕ) (clock until : ℕ) (row : AccountRow) : Type 0 where
  pub plans : Each (IsPlannedFrom until) row.left
  pub stays : (t : ℕ) → clock ≤ t → t < until → account_stays bounds t row ≡ true

-- the packet on the link goes on through the ticks before it, or else none of those here starts
abbrev pub ServiceRests : ℕ → ℕ → List Arrival → Option Start → Type 0
ServiceRests rate until here None = Each (IsEligibleFrom until) here
ServiceRests rate until here (Some start) = until < leaves_at rate start

-- in the ticks before this one nothing falls due
pub record RestsUntil (shape : LinkShape) (until : ℕ) (k : Account) : Type 0 where
  pub rows : Each (RowRests shape.bounds k.clock until) k.rows
  pub best : Each (IsPlannedFrom until) k.best_left
  pub service : ServiceRests shape.rate until k.here k.on

-- ---- its ticks

-- what such a tick tells
abbrev pub quiet_reply : ℕ → Reply
quiet_reply t = Ticked t 0 None false false

-- n of them after a history whose clock is t, newest first
unfoldable pub quiet_ticks : ℕ → ℕ → List Entry → List Entry
quiet_ticks zero t past = past
quiet_ticks (suc n) t past = record { ask = Tick; reply = quiet_reply (t + n) } ∷ quiet_ticks n t past

-- the account n ticks later
abbrev pub later_by : ℕ → Account → Account
later_by n k = record k { clock = k.clock + n }

-- ---- the law

-- after each history for which the account stands, n ticks before the tick until which it rests have these replies, and the account
-- with its clock n later stands for the history with them
pub record GoesOnQuietly (link : Link) (n : ℕ) (k : Account) (h : List Entry) : Type 0 where
  pub stands : StandsFor link.shape (later_by n k) (quiet_ticks n k.clock h)
  pub replied : (m : ℕ) → m < n → quiet_reply (k.clock + m) ≡ reply_to link (quiet_ticks m k.clock h) Tick
  pub legal : IsLegal link h → IsLegal link (quiet_ticks n k.clock h)

abbrev pub QuietTicksChangeTheClock : Type 0
QuietTicksChangeTheClock = (link : Link) (until n : ℕ) (k : Account) (h : List Entry) → HasContracts k → StandsFor link.shape k h → RestsUntil link.shape until k → k.clock + n ≤ until → GoesOnQuietly link n k h
