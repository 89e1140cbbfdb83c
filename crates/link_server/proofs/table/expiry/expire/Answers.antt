-- The row of an entry that is due is taken out, once its hold has ended. Where none is due, all rows stay.
use Rattle.std.proofs.Common.{map, refl, sym, ap, ◌∙◌, subst, arith}
use Rattle.link_server.proofs.Words.{remove, filter, account_stays, row_in, ServedRow}
use Rattle.link_server.specs.Departed.{departed_in}
use Rattle.link_server.specs.Holds.{open_count, IsListed, AreListed}
use Rattle.link_server.specs.Index.{channels_in, IsIndex}
use Rattle.link_server.specs.KeyedList.{Listed, position}
use Rattle.link_server.specs.RowParts.{AreParts}
use Rattle.link_server.proofs.RowsOfTable.Index.{index-distinct, index-without}
use Rattle.link_server.specs.Sources.{IsReady}
use Rattle.link_server.proofs.Calendars.HoldRows.{due-taken, others-stay, all-stay}
use Rattle.link_server.proofs.Calendars.Expiry.{a-row, filter-without, each-without}
use Rattle.link_server.proofs.Departed.Rows.{counted-removed}
use Rattle.link_server.proofs.RowsOfTable.Placed.{removed-mapped}
use Rattle.link_server.proofs.RowsOfTable.Totals.{row-gone}
use Rattle.link_server.proofs.RowsOfTable.Parts.{own-parts}
use Rattle.link_server.proofs.table.expiry.expire.Goals as goal

pub take_out-requires-clause-parts : goal.take_out-requires-clause-parts
take_out-requires-clause-parts c = own-parts _ c.args.bounds.now _ _ _ c.loop-number.invariant.parts

pub take_out-requires-clause-distinct : goal.take_out-requires-clause-distinct
take_out-requires-clause-distinct c = index-distinct c.args.index.now.keys.items c.loop-number.rows.keys c.loop-number.rows.items c.loop-number.invariant.indexed

pub loop-number-preserved-in-Some-ended_key : goal.loop-number-preserved-in-Some-ended_key
loop-number-preserved-in-Some-ended_key c =
    let bounds = c.args.bounds.now in
    let clock = c.args.clock in
    let rows = c.loop-number.rows.items in
    let i = position c.loop-number.rows.keys c.in-Some-ended_key.key in
    let was = c.loop-number.invariant in
    let made = c.take_out.ensures in
    let gone = c.in-Some-ended_key.ensures.some in
    let d = a-row rows i gone.inside in
    let most = was.listed.room in
    let gone-rows = ap (λ (list : Listed ServedRow). list.items) made.rows in
    record {
      stay = ap (λ all. filter (account_stays bounds clock) (map row_in all)) gone-rows ∙ filter-without (account_stays bounds clock) rows i d gone.inside (gone.ended d) ∙ was.stay;
      counted = λ here each. rw gone-rows (rw (removed-mapped row_in rows i, removed-mapped departed_in rows i) (counted-removed here (map row_in rows) (map departed_in rows) i (was.counted here each)));
      listed =
          subst (λ all. AreListed bounds clock c.take_due.new.self (map row_in all)) (sym gone-rows)
          (due-taken bounds clock c.in-Some.number c.loop-number.holds c.take_due.new.self (map row_in (remove rows i)) c.in-Some.ensures.taken c.in-Some.ensures.spare c.take_due.ensures.clock
          (each-without (IsListed bounds clock c.loop-number.holds.entries) rows i was.listed.listed) (let less = row-gone open_count rows i in omega (arith, less, most))
          (others-stay bounds clock c.in-Some.number i rows c.args.index.now.keys.items c.loop-number.rows.keys d was.indexed gone));
      ready = rw gone-rows (each-without (IsReady clock) rows i was.ready);
      parts = subst (λ n. AreParts n bounds c.take_out.new.rows.items c.take_out.new.sums c.take_out.new.keeping) was.parts.keeps.whole made.parts;
      indexed = subst (λ (list : Listed ServedRow). IsIndex c.args.index.now.keys.items list.keys (channels_in list.items)) (sym made.rows) (index-without c.args.index.now.keys.items c.loop-number.rows.keys rows i was.indexed gone.inside);
      server = made.server ∙ was.server;
    }

pub loop-number-preserved : goal.loop-number-preserved
loop-number-preserved c =
    let was = c.loop-number.invariant in
    record {
      stay = was.stay;
      counted = was.counted;
      listed =
          due-taken c.args.bounds.now c.args.clock c.in-Some.number c.loop-number.holds c.take_due.new.self (map row_in c.loop-number.rows.items) c.in-Some.ensures.taken c.in-Some.ensures.spare c.take_due.ensures.clock was.listed.listed was.listed.room
          c.in_default-ended_key.ensures.none;
      ready = was.ready;
      parts = was.parts;
      indexed = was.indexed;
      server = was.server;
    }

pub returns-clause-rows : goal.returns-clause-rows
returns-clause-rows c =
    sym (all-stay c.args.bounds.now c.args.clock c.loop-number.holds.entries (map row_in c.loop-number.rows.items) (c.in_default.ensures.none.0 refl) c.loop-number.invariant.listed.listed) ∙ c.loop-number.invariant.stay
