-- The hop guarantee of a history says, after every entry: the held rows pass the admission test; each packet that
-- has departed did so after its eligible tick, and at most the bound of its level later; and each packet whose
-- eligible tick and bound the clock has reached has departed. It counts from the eligible tick, and so holds
-- whatever a source does.
use Rattle.std.specs.Prelude.{ℕ, ◌+◌, ◌<◌, ◌≤◌, IsTrue, List, [], ◌∷◌, length, map}
use Rattle.net_units.specs.LevelBounds.{bound_at}
use Rattle.traffic_contract.specs.Admission.{Passes}
use Rattle.link_steps.specs.declared.replies.Entry.{Entry}
use Rattle.link_steps.specs.declared.shape.LinkShape.{LinkShape}
use Rattle.link_steps.specs.Lists.{Each}
use Rattle.link_steps.specs.Reservation.{admitted}
use Rattle.link_steps.specs.Scan.{clock_of, scan_of, starts_of}
use Rattle.link_steps.specs.Service.{Arrival, Start, leaves_at, has_departed}
use Rattle.link_steps.specs.Shape.{server_of}
use Rattle.link_steps.specs.Rows.{row_terms}

-- P holds after each entry of a history, and at its beginning
abbrev pub AfterEach : (List Entry → Type 0) → List Entry → Type 0
AfterEach P [] = P []
AfterEach P (e ∷ past) = AfterEach P past × P (e ∷ past)

-- the rows held after a history pass the admission test of the link
abbrev pub HeldRowsPass : LinkShape → List Entry → Type 0
HeldRowsPass shape h = Passes (server_of shape) (map admitted (map row_terms (scan_of shape h).rows))

-- the last tick by which a packet is to depart
abbrev pub deadline_of : LinkShape → Arrival → ℕ
deadline_of shape p = p.eligible + bound_at shape.bounds p.level

-- a packet that has started and departs by the tick `clock` does so after its eligible tick and, where it is of one of the
-- levels, within its bound
pub record LeavesInTime (shape : LinkShape) (clock : ℕ) (start : Start) : Type 0 where
  pub after : leaves_at shape.rate start ≤ clock → start.packet.eligible < leaves_at shape.rate start
  pub within : start.packet.level ≤ length shape.bounds → leaves_at shape.rate start ≤ clock → leaves_at shape.rate start ≤ deadline_of shape start.packet

-- a packet whose bound the clock has reached has departed
pub record HasLeftInTime (shape : LinkShape) (clock : ℕ) (starts : List Start) (p : Arrival) : Type 0 where
  pub gone : p.level ≤ length shape.bounds → deadline_of shape p ≤ clock → IsTrue (has_departed shape.rate starts clock p)

-- the three facts after a history
pub record IsGuaranteed (shape : LinkShape) (h : List Entry) : Type 0 where
  pub rows : HeldRowsPass shape h
  pub departed : Each (LeavesInTime shape (clock_of h)) (starts_of shape h)
  pub in_time : Each (HasLeftInTime shape (clock_of h) (starts_of shape h)) (scan_of shape h).packets

-- the hop guarantee of a history
abbrev pub HopGuarantee : LinkShape → List Entry → Type 0
HopGuarantee shape h = AfterEach (IsGuaranteed shape) h
