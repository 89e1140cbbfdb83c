-- The packets at a link as the link's rules see them: how many it has taken, those that are here in the order of their
-- arrival, the one that occupies it, and the best-effort packets that are planned and left. Beside these it has the number of
-- packets for which there is room, those here included, the tick in which the link last looked which of them are eligible,
-- the bounds of the link's levels, by which best-effort packets are told from those of channels, and what the link sends in a tick.
use Rattle.std.specs.Prelude.{ℕ, Option, List}
use Rattle.link_steps.specs.Rows.{SourcePacket}
use Rattle.link_steps.specs.Service.{Arrival, Start}

-- what a contract sees of a queue
pub record QueueAccount : Type 0 where
  pub taken : ℕ
  pub here : List Arrival
  pub on : Option Start
  pub best : List SourcePacket
  pub room : ℕ
  pub looked : ℕ
  pub bounds : List ℕ
  pub rate : ℕ
