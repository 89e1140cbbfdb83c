-- The parts are those of the rows that stay.
use Rattle.std.proofs.Common.{length, map, sym, ap, ◌∙◌, subst, arith}
use Rattle.std.proofs.lemmas.List.{length-map}
use Rattle.link_server.proofs.Words.{account_stays, TableAccount, row_in}
use Rattle.link_server.specs.Plans.{ArePlanned}
use Rattle.link_server.proofs.Calendars.PlanRows.{planned-left, planned-later}
use Rattle.link_server.proofs.RowsOfTable.Parts.{own-parts}
use Rattle.link_server.proofs.table.Table.expire.Goals as goal
use Rattle.net_units.proofs.ListPlaces.{length-passed}

pub invariant_of-self : goal.invariant_of-self
invariant_of-self c =
    let t = c.self.inside in
    let is = c.self.invariant in
    let made = c.expire.ensures in
    let seen = ap (λ (table : TableAccount). table.looked) c.self.view_is in
    let whole = made.parts.keeps.whole in
    let small = is.small in
    let turns = is.turns in
    let as_many = ap length made.rows in
    let after = length-map c.expire.new.rows.items row_in in
    let before = length-map t.rows.items row_in in
    let fewer = length-passed (account_stays t.bounds c.args.clock) (map row_in t.rows.items) in
    record {
      same_bounds = ap (λ server. server.bounds) made.server ∙ is.same_bounds;
      parts = own-parts _ t.bounds _ _ _ made.parts;
      indexed = made.indexed;
      listed = made.listed;
      small = omega (arith, whole, small);
      planned = subst (ArePlanned c.args.clock t.plans.calendar) (sym made.rows)
          (planned-left c.args.clock t.plans.calendar (account_stays t.bounds c.args.clock) (map row_in t.rows.items)
          (planned-later t.looked c.args.clock t.plans.calendar (map row_in t.rows.items) (omega (arith, seen, c.requires.looked)) is.planned));
      turns = omega (arith, turns, as_many, after, before, fewer);
    }
