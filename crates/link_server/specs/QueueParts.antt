-- A queue keeps the packets that wait in a line, and beside it the one on the link and how many best-effort packets wait. Here
-- is what holds of these together, and what a contract sees of them.
use Rattle.std.specs.Prelude.{◌≡◌, ◌≤◌, List, filter, length}
use Rattle.std.specs.Option.{ForSome}
use Rattle.link_steps.specs.BestEffort.{is_best}
use Rattle.link_steps.specs.Service.{Arrival}
use Rattle.link_server.specs.Arrived.{all_here, arrived, HaveOwnNumbers, AreNumberedUpTo}
use Rattle.link_server.specs.QueueAccount.{QueueAccount}
use Rattle.link_server.specs.Line.{waiting_in, room_in}
use Rattle.link_server.specs.Packets.{here_in, on_in}
use Rattle.link_server.specs.Planned.{left_in}
use Rattle.link_server.specs.Serving.{KeepsLeaving}
use Rattle.link_server.specs.declared.queue.Queue.TheInside.{Inside}

-- the packets here
abbrev pub packets_of : Inside → List Arrival
packets_of q = all_here (on_in q.on) (here_in (waiting_in q.line))

-- what a contract sees
abbrev pub queue_seen : Inside → QueueAccount
queue_seen q = record { taken = q.taken; here = arrived (packets_of q) q.taken; on = on_in q.on; best = left_in q.best; room = q.room; looked = q.line.until; bounds = q.bounds; rate = q.rate }

-- the packets here have numbers of their own; there is room for them; those of best effort that wait are counted; and the one on
-- the link keeps the tick at which it departs
pub record IsQueue (q : Inside) : Type 0 where
  pub own : HaveOwnNumbers (packets_of q)
  pub numbered : AreNumberedUpTo q.taken (packets_of q)
  pub fits : length (packets_of q) ≤ q.room
  pub lines_up : q.room ≤ room_in q.line
  pub best_counted : q.best_waiting ≡ length (filter (is_best q.bounds) (here_in (waiting_in q.line)))
  pub leaving : ForSome q.on (KeepsLeaving q.rate)
