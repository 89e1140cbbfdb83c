-- The rows that take their packets stay where they are.
use Rattle.std.proofs.Common.{map, sym, ap, subst, arith}
use Rattle.link_server.specs.Index.{channels_in, IsIndex}
use Rattle.link_server.proofs.Words.{whole_of, TableAccount, row_in}
use Rattle.link_server.specs.Holds.{AreListed}
use Rattle.link_server.specs.Keeping.{IsKeeping}
use Rattle.link_server.proofs.Calendars.HoldSteps.{listed-stepped}
use Rattle.link_server.proofs.RowsOfTable.Keeping.{reservations-after}
use Rattle.link_server.proofs.LinkRests.{listed-later}
use Rattle.link_server.proofs.RowsOfTable.Parts.{index-still, as-long, fixed-same, parts-still}
use Rattle.link_server.proofs.table.Table.take_source_packets.Goals as goal

pub invariant_of-self : goal.invariant_of-self
invariant_of-self c =
    let t = c.self.inside in
    let is = c.self.invariant in
    let made = c.take_turns.ensures in
    let queue = c.args.queue.now in
    let rows = c.take_turns.new.rows.items in
    let reservations = reservations-after t.bounds queue.here c.args.clock queue.taken t.rows.items rows made.rows in
    let fixed = fixed-same rows t.rows.items reservations in
    let seen = ap (λ (table : TableAccount). table.looked) c.self.view_is in
    let turns = is.turns in
    let long = as-long rows t.rows.items fixed in
    record {
      same_bounds = is.same_bounds;
      parts =
          parts-still (whole_of t.keeping.budget) t.bounds rows t.rows.items t.sums t.keeping is.parts fixed
          (subst (IsKeeping (whole_of t.keeping.budget) t.bounds t.keeping) (sym reservations) is.parts.keeps);
      indexed = subst (λ keys. IsIndex t.index.keys.items keys (channels_in rows)) (sym made.keys) (index-still t.index.keys.items t.rows.keys rows t.rows.items is.indexed fixed);
      listed = subst (AreListed t.bounds c.args.clock t.holds) (sym made.rows)
          (listed-stepped t.bounds queue.here c.args.clock c.args.clock queue.taken t.holds (map row_in t.rows.items) (omega arith)
          (listed-later t.bounds t.looked c.args.clock t.holds (map row_in t.rows.items) (omega (arith, seen, c.requires.looked)) is.listed));
      small = is.small;
      planned = made.planned;
      turns = omega (arith, turns, long, c.call.ensures.capacity);
    }
