-- The buffer of a link holds what is here of its channels. After every entry of an admissible history the held reservations
-- together keep no more than the buffer, each row's packets here are no larger together than what its reservation keeps,
-- and all packets here, best-effort ones aside, are no larger together than the buffer. A released reservation keeps its
-- share until its packets have left: the rows that are gone have none here.
use Rattle.std.specs.Prelude.{ℕ, ◌≤◌, if◌then◌else◌, List, map, filter}
use Rattle.traffic_contract.specs.Admission.{total}
use Rattle.link_steps.specs.Admissible.{IsAdmissible}
use Rattle.link_steps.specs.BestEffort.{is_best}
use Rattle.link_steps.specs.Buffer.{held_units, has_lead}
use Rattle.link_steps.specs.HopGuarantee.{AfterEach}
use Rattle.link_steps.specs.Lists.{Each}
use Rattle.link_steps.specs.Rows.{Row, row_terms}
use Rattle.link_steps.specs.Scan.{clock_of, scan_of}
use Rattle.link_steps.specs.Service.{Arrival, here_at}
use Rattle.link_steps.specs.declared.replies.Entry.{Entry}
use Rattle.link_steps.specs.declared.shape.LinkShape.{LinkShape}

-- the units that a packet of a channel takes of the buffer; a best-effort packet takes none
abbrev pub units_of : List ℕ → Arrival → ℕ
units_of bounds p = if is_best bounds p then 0 else p.size

-- the packets here after a history
abbrev pub here_after : LinkShape → List Entry → List Arrival
here_after shape h = here_at shape.rate (scan_of shape h).packets (clock_of h)

-- the packets of a row that are here take no more units than the row keeps
pub record FitsItsShare (shape : LinkShape) (h : List Entry) (row : Row) : Type 0 where
  pub units : total (units_of shape.bounds) (filter (has_lead row.lead) (here_after shape h)) ≤ held_units shape.bounds row.terms

-- what the buffer holds after a history
pub record BufferHolds (shape : LinkShape) (h : List Entry) : Type 0 where
  pub kept : total (held_units shape.bounds) (map row_terms (scan_of shape h).rows) ≤ shape.buffer
  pub shares : Each (FitsItsShare shape h) (scan_of shape h).rows
  pub here : total (units_of shape.bounds) (here_after shape h) ≤ shape.buffer

-- after each entry of every admissible history
abbrev pub BufferAlwaysHolds : Type 0
BufferAlwaysHolds = (shape : LinkShape) (h : List Entry) → IsAdmissible shape h → AfterEach (BufferHolds shape) h
