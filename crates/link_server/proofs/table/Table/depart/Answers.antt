-- The row of the packet's channel is found, and counts the packet where it has its lead.
use Rattle.std.proofs.Common.{◌≡◌, ◌&&◌, get_or, map, refl, set, suc, sym, ap, ◌∙◌, subst, arith}
use Rattle.std.proofs.lemmas.List.{length-set}
use Rattle.std.proofs.Math.Seq.{map-set_same}
use Rattle.link_server.specs.KeyedList.{position}
use Rattle.link_server.proofs.Words.{if◌then◌else◌, nat_eq, nat_lt, whole_of, reservation_in, row_in, ServedRow}
use Rattle.link_server.specs.Holds.{AreListed}
use Rattle.link_server.specs.Keeping.{IsKeeping}
use Rattle.link_server.specs.Plans.{ArePlanned}
use Rattle.link_server.specs.TableParts.{table_seen}
use Rattle.link_server.proofs.Departed.Rows.{none-departs, one-departs}
use Rattle.link_server.proofs.RowsOfTable.Index.{index-others}
use Rattle.link_server.proofs.RowsOfTable.Parts.{index-still, fixed, fixed_in, parts-still, table-same}
use Rattle.link_server.proofs.table.Table.depart.Goals as goal
use Rattle.link_server.proofs.table.Table.depart.Goals.{After-depart}

pub returns-in_default-key_of : goal.returns-in_default-key_of
returns-in_default-key_of c =
    rw (← c.self.view_is) (rw c.in-Some.is
    (ap (λ departed. record (table_seen c.self.inside) { departed = departed }) (none-departs c.in-Some.gone c.self.inside.rows.items c.in_default-key_of.ensures.none)))

-- the row tells the same, but for that
same : (c : After-depart) → row_in c.depart.new.self ≡ row_in (get_or c.self.inside.rows.items (position c.self.inside.rows.keys c.in-Some-key_of.key) c.index_mut-row.result.now)
same c = c.depart.ensures.row ∙ ap row_in c.index_mut-row.ensures.value

seen : (c : After-depart) → map row_in (set c.self.inside.rows.items (position c.self.inside.rows.keys c.in-Some-key_of.key) c.depart.new.self) ≡ map row_in c.self.inside.rows.items
seen c = map-set_same row_in c.self.inside.rows.items (position c.self.inside.rows.keys c.in-Some-key_of.key) c.depart.new.self c.index_mut-row.result.now (same c)

pub invariant_of-self : goal.invariant_of-self
invariant_of-self c =
    let t = c.self.inside in
    let is = c.self.invariant in
    let at = (goal.at.invariant_of-self c).After-depart in
    let items = t.rows.items in
    let i = (position c.self.inside.rows.keys c.in-Some-key_of.key) in
    let new = c.depart.new.self in
    let d = c.index_mut-row.result.now in
    let terms = ap (λ row. row.terms) (same at) in
    let turns = is.turns in
    let long = length-set items i new in
    record {
      same_bounds = is.same_bounds;
      parts =
          parts-still (whole_of t.keeping.budget) t.bounds (set items i new) items t.sums t.keeping is.parts (map-set_same fixed_in items i new d (ap fixed terms))
          (subst (IsKeeping (whole_of t.keeping.budget) t.bounds t.keeping) (sym (map-set_same reservation_in items i new d terms)) is.parts.keeps);
      indexed = index-still t.index.keys.items t.rows.keys (set items i new) items is.indexed (map-set_same fixed_in items i new d (ap fixed terms));
      listed = subst (AreListed t.bounds t.looked t.holds) (sym (seen at)) is.listed;
      small = is.small;
      planned = subst (ArePlanned t.looked t.plans.calendar) (sym (seen at)) is.planned;
      turns = omega (arith, turns, long);
    }

pub returns : goal.returns
returns c =
    let t = c.self.inside in
    let i = (position c.self.inside.rows.keys c.in-Some-key_of.key) in
    let d = c.index_mut-row.result.now in
    let gone = c.in-Some.gone in
    let found = c.in-Some-key_of.ensures.some in
    rw (← c.self.view_is) (rw c.in-Some.is
    (table-same _ _ (seen (goal.at.returns c).After-depart)
    (one-departs gone t.rows.items i c.depart.new.self d found.inside (found.here d) (index-others t.index.keys.items t.rows.keys t.rows.items i gone.chan d c.self.invariant.indexed found.inside (found.here d))
    (c.depart.ensures.departed ∙ ap (λ (row : ServedRow). if nat_eq row.lead gone.lead && nat_lt row.departed row.taken then suc row.departed else row.departed) c.index_mut-row.ensures.value))
    refl refl refl))
