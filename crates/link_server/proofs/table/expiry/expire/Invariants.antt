-- What stays while rows expire one by one.
use Rattle.std.proofs.Common.{◌≡◌, List, length, map}
use Rattle.link_server.proofs.Words.{Arrival, filter, whole_of, account_stays, row_in}
use Rattle.link_server.specs.Departed.{AreCounted, departed_in}
use Rattle.link_server.specs.Holds.{AreListed}
use Rattle.link_server.specs.Index.{channels_in, IsIndex}
use Rattle.link_server.specs.RowParts.{AreParts}
use Rattle.link_server.specs.Sources.{AreReady}
use Rattle.link_server.proofs.table.expiry.expire.Given as goal

-- no row that stays was taken out
abbrev pub invariant-loop-number : goal.invariant-loop-number
invariant-loop-number l = record {
  stay : filter (account_stays l.bounds l.clock) (map row_in l.rows.items) ≡ filter (account_stays l.bounds l.clock) (map row_in l.fn.rows.items);
  counted : (here : List Arrival) → AreCounted here (map row_in l.fn.rows.items) (map departed_in l.fn.rows.items) → AreCounted here (map row_in l.rows.items) (map departed_in l.rows.items);
  listed : AreListed l.bounds l.clock l.holds (map row_in l.rows.items);
  ready : AreReady l.clock l.rows.items;
  parts : AreParts (whole_of l.fn.keeping.budget) l.bounds l.rows.items l.sums l.keeping;
  indexed : IsIndex l.index.keys.items l.rows.keys (channels_in l.rows.items);
  server : l.sums.server ≡ l.fn.sums.server;
}

-- each turn takes an entry out
abbrev pub decreases-loop-number : goal.decreases-loop-number
decreases-loop-number l = length l.holds.entries
