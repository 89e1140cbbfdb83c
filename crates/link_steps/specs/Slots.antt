-- A packet holds a slot of its row from its arrival until it departs, and a row never has more packets here than slots. So a
-- row has few packets whose eligible tick lies ahead, and since each of these waits for the one before it at most an
-- interval of the contract, no eligible tick of a link runs away from its clock: while the clock is below 2^61, and what
-- arrives is due below 2^62, each is below 2^63.
use Rattle.std.specs.Prelude.{ℕ, ◌^◌, ◌<◌, ◌≤◌, List}
use Rattle.link_steps.specs.declared.replies.Entry.{Entry}
use Rattle.link_steps.specs.declared.shape.LinkShape.{LinkShape}
use Rattle.link_steps.specs.Buffer.{slots_of, held_packets}
use Rattle.link_steps.specs.Lists.{Each}
use Rattle.link_steps.specs.Rows.{Row}
use Rattle.link_steps.specs.Scan.{clock_of, scan_of}
use Rattle.link_steps.specs.Service.{here_at}

-- the packets of the row that are here after a history are no more than its slots
pub record HasSlots (shape : LinkShape) (h : List Entry) (row : Row) : Type 0 where
  pub few : held_packets row.lead (here_at shape.rate (scan_of shape h).packets (clock_of h)) ≤ slots_of shape.bounds row.terms

-- a tick below 2^63, and a row that has no others
abbrev pub IsSoon : ℕ → Type 0
IsSoon e = e < 2 ^ 63

abbrev pub HasSoonTicks : Row → Type 0
HasSoonTicks row = Each IsSoon row.ticks

-- the rows, held or gone
pub record TicksAreSoon (shape : LinkShape) (h : List Entry) : Type 0 where
  pub held : Each HasSoonTicks (scan_of shape h).rows
  pub gone : Each HasSoonTicks (scan_of shape h).gone
