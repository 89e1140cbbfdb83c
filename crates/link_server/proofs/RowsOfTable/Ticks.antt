-- What a table tells in a tick, told by the shape of its link: the rows that stay, and that they may bring their packets.
use Rattle.std.proofs.Common.{◌≡◌, ℕ, ◌<◌, ◌^◌, List, ap, ◌∙◌, arith}
use Rattle.std.proofs.lemmas.List.{length-append}
use Rattle.link_server.proofs.Words.{filter, AccountRow, from_sources, held_rows, account_stays, TableAccount, account_in, LinkState}
use Rattle.link_steps.proofs.SearchAndFilter.{Each-filter}
use Rattle.link_server.specs.Sources.{IsReady, MayBring}
use Rattle.link_server.proofs.Sound.Numbers.{sources-room, brought-small}
use Rattle.link_server.proofs.Sound.Sources.{from_best}
use Rattle.link_server.proofs.Sound.Stood.{all-ready, rows-few}
use Rattle.net_units.proofs.ListPlaces.{length-passed}

-- what is told by the bounds and the rows of the table, once rows have expired, is told by the shape and the rows that are held
pub at-shape : {X : Type 0} (f : List ℕ → List AccountRow → X) (link : LinkState) (table : TableAccount) → table ≡ record link.table { rows = filter (account_stays link.table.server.bounds link.clock) link.table.rows; departed = table.departed; looked = link.clock }
    → f table.server.bounds table.rows ≡ f link.shape.bounds (held_rows link.shape (account_in link))
at-shape f link table same =
    ap (λ (t : TableAccount). f t.server.bounds t.rows) same
    ∙ ap (λ (t : TableAccount). f t.server.bounds (filter (account_stays t.server.bounds link.clock) link.table.rows)) link.of_shape

-- these may bring their packets
pub may-bring : (link : LinkState) → link.clock < 2 ^ 61 → MayBring link.shape.bounds link.clock link.queue (held_rows link.shape (account_in link))
may-bring link early =
    let k = account_in link in
    let stay = account_stays link.shape.bounds link.clock in
    let few = rows-few link in
    let fewer = length-passed stay link.table.rows in
    let small = brought-small link.shape link.queue.room k early link.few link.sound in
    let parts = length-append (from_sources link.shape k) (from_best link.shape k) in
    record {
      early = early;
      few = omega (arith, few, fewer);
      ready = Each-filter (IsReady link.clock) stay k.rows (all-ready link early);
      looked = link.looked.1;
      room = sources-room link.shape link.queue.room k link.sound;
      numbers = omega (arith, small, parts);
    }
