-- The row is taken out, and with it its share of each part.
use Rattle.std.proofs.Common.{length, map, refl, sym, ap, ◌∙◌, subst, arith}
use Rattle.std.proofs.lemmas.List.Edits.{length-remove}
use Rattle.link_server.specs.KeyedList.{position, Listed}
use Rattle.link_server.specs.Index.{channels_in, IsIndex}
use Rattle.link_server.proofs.RowsOfTable.Index.{index-distinct, index-without}
use Rattle.link_server.proofs.Words.{TableAccount, ServedRow, row_in}
use Rattle.link_server.specs.Departed.{AreCounted, departed_in}
use Rattle.link_server.proofs.Departed.Rows.{counted-removed}
use Rattle.link_server.proofs.Calendars.HoldRows.{listed-removed}
use Rattle.link_server.proofs.RowsOfTable.Placed.{removed-first, removed-mapped}
use Rattle.link_server.proofs.Calendars.PlanRows.{planned-removed}
use Rattle.link_server.proofs.RowsOfTable.Parts.{has-place, own-parts, table-same}
use Rattle.link_server.proofs.table.Table.remove.Goals as goal

pub held_key-key-requires-clause-held : goal.held_key-key-requires-clause-held
held_key-key-requires-clause-held c = has-place (λ row. Unit {0}) c.self.inside c.args.self.now c.args.chan c.self.view_is c.requires.held

pub take_out-requires-clause-distinct : goal.take_out-requires-clause-distinct
take_out-requires-clause-distinct c = index-distinct c.self.inside.index.keys.items c.self.inside.rows.keys c.self.inside.rows.items c.self.invariant.indexed

pub invariant_of-self : goal.invariant_of-self
invariant_of-self c =
    let t = c.self.inside in
    let is = c.self.invariant in
    let made = c.take_out.ensures in
    let whole = made.parts.keeps.whole in
    let small = is.small in
    let turns = is.turns in
    let fewer = length-remove t.rows.items (position c.self.inside.rows.keys c.held_key-key.result) c.held_key-key.ensures.inside in
    let gone = ap (λ (list : Listed ServedRow). list.items) made.rows in
    let long = ap length gone in
    record {
      same_bounds = ap (λ server. server.bounds) made.server ∙ is.same_bounds;
      parts = own-parts _ t.bounds _ _ _ made.parts;
      indexed = subst (λ (list : Listed ServedRow). IsIndex t.index.keys.items list.keys (channels_in list.items)) (sym made.rows) (index-without t.index.keys.items t.rows.keys t.rows.items (position c.self.inside.rows.keys c.held_key-key.result) is.indexed c.held_key-key.ensures.inside);
      listed = rw gone (listed-removed t.bounds t.looked t.holds t.rows.items (position c.self.inside.rows.keys c.held_key-key.result) is.listed);
      small = omega (arith, whole, small);
      planned = rw gone (planned-removed t.looked t.plans.calendar t.rows.items (position c.self.inside.rows.keys c.held_key-key.result) is.planned);
      turns = omega (arith, turns, fewer, long);
    }

pub returns-clause-rows : goal.returns-clause-rows
returns-clause-rows c =
    rw (← c.self.view_is) (table-same _ _ (ap (λ (list : Listed ServedRow). map row_in list.items) c.take_out.ensures.rows ∙ removed-first c.args.chan c.self.inside.rows.items (position c.self.inside.rows.keys c.held_key-key.result) c.held_key-key.ensures) refl c.take_out.ensures.server c.take_out.ensures.parts.keeps.whole refl)

pub returns-clause-counted : goal.returns-clause-counted
returns-clause-counted c = λ here each.
    let rows = c.self.inside.rows.items in
    let i = (position c.self.inside.rows.keys c.held_key-key.result) in
    let was = subst (λ (table : TableAccount). AreCounted here table.rows table.departed) (sym c.self.view_is) each in
    let gone = ap (λ (list : Listed ServedRow). list.items) c.take_out.ensures.rows in
    rw gone (rw (removed-mapped row_in rows i, removed-mapped departed_in rows i) (counted-removed here (map row_in rows) (map departed_in rows) i was))
