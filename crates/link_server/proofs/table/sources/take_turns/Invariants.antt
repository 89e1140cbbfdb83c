-- What the turns so far have done.
use Rattle.std.proofs.Common.{◌≡◌, ◌+◌, ◌-◌, ◌<◌, ◌≤◌, ℕ, false, length, map, drop, get_or}
use Rattle.link_server.specs.Departed.{departed_in}
use Rattle.link_server.specs.Plans.{IsTold, idle_in, is_turn}
use Rattle.link_server.proofs.Words.{row_in, ServedRow}
use Rattle.link_server.proofs.Sourcing.Rows.{HaveStepped}
use Rattle.link_server.proofs.table.sources.take_turns.Given as goal

-- the rows before the one whose turn is next have made their step, and those from it on make theirs after the packets that were
-- taken so far; the next packets of all but the rows whose turn is yet to come are on the calendar
abbrev pub invariant-loop-place : goal.invariant-loop-place
invariant-loop-place l = record {
  stepped : HaveStepped l.bounds l.fn.queue.here l.clock l.fn.queue.taken l.fn.rows.items (get_or l.turns l.place-index (length l.fn.rows.items)) l.rows.items l.queue.here l.queue.taken l.lost;
  keys : l.rows.keys ≡ l.fn.rows.keys;
  long : length l.rows.items ≡ length l.fn.rows.items;
  begun : l.calendar.clock ≤ l.clock;
  told : (place : ℕ) (d : ServedRow) → place < length l.rows.items → is_turn (drop l.place-index l.turns) place ≡ false → IsTold l.calendar.entries (row_in (get_or l.rows.items place d));
  spare : idle_in (map row_in l.rows.items) + (length l.turns - l.place-index) ≤ l.calendar.spare;
  kept : l.queue ≡ record l.fn.queue { taken = l.queue.taken; here = l.queue.here; looked = l.queue.looked };
  looked : l.queue.looked ≤ l.clock;
  departed : map departed_in l.rows.items ≡ map departed_in l.fn.rows.items;
}
