-- A history is admissible when each of its asks meets the conditions on an ask, and each of its replies is one that the
-- guarantees of a link allow: an offer of a contract no wider than the link, to a channel that holds no reservation here,
-- at a level at which the contract passes the admission test with the rows held, with the reach of that level and a need
-- that is free; any refusal of a reserve; and to every other ask the legal reply. A link that offers other levels than the
-- best, or refuses more than it has to, still has admissible histories, so what is promised of these holds of it, too.
use Rattle.std.specs.Prelude.{◌≡◌, ℕ, ◌≤◌, true, None, List, [], ◌∷◌, length, map, find}
use Rattle.net_units.specs.Numbers.{level_number}
use Rattle.net_units.specs.declared.numbers.ChanNo.{ChanNo}
use Rattle.net_units.specs.declared.numbers.Level.{Level}
use Rattle.net_units.specs.LevelBounds.{reach_of}
use Rattle.traffic_contract.specs.Admission.{admits}
use Rattle.traffic_contract.specs.Contract.{Traffic}
use Rattle.link_steps.specs.declared.asks.Ask.{Ask}
use Rattle.link_steps.specs.declared.asks.Ask.TheVariants.{Reserve}
use Rattle.link_steps.specs.declared.replies.Entry.{Entry}
use Rattle.link_steps.specs.declared.replies.Reply.{Reply}
use Rattle.link_steps.specs.declared.replies.Reply.TheVariants.{Offer, Refused}
use Rattle.link_steps.specs.declared.shape.LinkShape.{LinkShape}
use Rattle.link_steps.specs.Buffer.{need_of, free_units}
use Rattle.link_steps.specs.Legal.{AskFits}
use Rattle.link_steps.specs.Levels.{level_of}
use Rattle.link_steps.specs.Replies.{reply_at}
use Rattle.link_steps.specs.Reservation.{Reservation, admitted, is_of}
use Rattle.link_steps.specs.Rows.{row_terms}
use Rattle.link_steps.specs.Scan.{Scan, clock_of, scan_of}
use Rattle.link_steps.specs.Shape.{server_of}
use Rattle.link_steps.specs.Split.{whole}

-- an offer that a link that holds these reservations may make
pub record MayOffer (shape : LinkShape) (held : List Reservation) (chan : ChanNo) (contract : Traffic) (delay up_reach : ℕ) (level reach : Level) : Type 0 where
  pub narrow : contract.smax ≤ shape.cap
  pub new : find (is_of chan) held ≡ None
  pub level_most : level_number level ≤ length shape.bounds
  pub passes : admits (server_of shape) (map admitted held) contract (level_number level) ≡ true
  pub reach_is : reach ≡ level_of (reach_of shape.bounds delay (level_number level))
  pub free : need_of shape.bounds contract up_reach (level_number reach) ≤ free_units shape held

-- a reply that it may give to a reserve
abbrev pub MayReply : LinkShape → List Reservation → ChanNo → Traffic → ℕ → ℕ → Reply → Type 0
MayReply shape held chan contract delay up_reach (Offer level reach) = MayOffer shape held chan contract delay up_reach level reach
MayReply shape held chan contract delay up_reach (Refused refusal) = Unit {0}
MayReply shape held chan contract delay up_reach _ = ⊥

-- the reply may be given to the ask at clock t, after the scan of the history
unfoldable pub MayAnswer : LinkShape → ℕ → Scan → Ask → Reply → Type 0
MayAnswer shape t scan (Reserve chan contract kind delay up_reach first next) reply = MayReply shape (map row_terms scan.rows) chan contract delay up_reach reply
MayAnswer shape t scan ask reply = reply ≡ reply_at (whole shape) t scan ask

-- an entry is admissible after the history before it
pub record IsAdmissibleAfter (shape : LinkShape) (past : List Entry) (e : Entry) : Type 0 where
  pub fits : AskFits shape e.ask
  pub answered : MayAnswer shape (clock_of past) (scan_of shape past) e.ask e.reply

-- the history, newest first, is admissible at a link of this shape
unfoldable pub IsAdmissible : LinkShape → List Entry → Type 0
IsAdmissible shape [] = Unit {0}
IsAdmissible shape (e ∷ past) = IsAdmissible shape past × IsAdmissibleAfter shape past e
