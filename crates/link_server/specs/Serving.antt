-- What an account has to be like for its link to serve a tick: the packet that occupies it was eligible by now and hasn't
-- left yet. The account of every legal history is so. And what the packet that has started keeps: the tick at which it departs.
use Rattle.std.specs.Prelude.{◌≡◌, ℕ, ◌<◌, ◌≤◌, Option}
use Rattle.std.specs.Option.{ForSome}
use Rattle.link_steps.specs.declared.shape.LinkShape.{LinkShape}
use Rattle.link_steps.specs.Service.{Start, leaves_at}
use Rattle.link_server.specs.Packets.{start_in}
use Rattle.link_server.specs.declared.queue.held_packet.Running.{Running}

-- the packet that has started can go on in the tick of the clock
pub record ServiceGoesOn (shape : LinkShape) (clock : ℕ) (start : Start) : Type 0 where
  pub eligible : start.packet.eligible ≤ clock
  pub leaves_later : clock < leaves_at shape.rate start

-- the link can serve the tick of the clock with this packet on it
pub record CanServe (shape : LinkShape) (clock : ℕ) (on : Option Start) : Type 0 where
  pub goes_on : ForSome on (ServiceGoesOn shape clock)

-- it departs at the tick that it keeps, on a link of this rate
abbrev pub KeepsLeaving : ℕ → Running → Type 0
KeepsLeaving rate running = running.leaves ≡ leaves_at rate (start_in running)
