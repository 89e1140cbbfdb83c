-- The channel's row is closed, and the tick by which its hold ends comes on the calendar.
use Rattle.std.proofs.Common.{inr, true, ◌≡◌, ◌^◌, ◌<◌, ◌≤◌, get_or, length, map, refl, set, sym, ap, ◌∙◌, subst, arith}
use Rattle.std.proofs.lemmas.List.{length-set}
use Rattle.std.proofs.Math.Seq.{map-set_same}
use Rattle.link_server.specs.KeyedList.{position}
use Rattle.link_server.proofs.Words.{whole_of, newest, Committed, Closing, account_closed, is_phase, TableAccount, row_in, ServedRow}
use Rattle.link_server.specs.Changes.{MayClose}
use Rattle.link_server.specs.Departed.{departed_in}
use Rattle.link_server.specs.Holds.{is_open}
use Rattle.link_server.specs.Planned.{first_tick}
use Rattle.link_server.proofs.Calendars.Holds.{open-in-phase}
use Rattle.link_server.proofs.Calendars.HoldRows.{listed-put, open-room}
use Rattle.link_server.proofs.RowsOfTable.Keeping.{keeps-closed}
use Rattle.link_server.proofs.RowsOfTable.Placed.{changed-mapped}
use Rattle.link_server.proofs.Calendars.Plans.{told-none}
use Rattle.link_server.proofs.Calendars.PlanRows.{planned-set, planned-later, closing-idle}
use Rattle.link_server.proofs.LinkRests.{listed-later}
use Rattle.link_server.proofs.RowsOfTable.Parts.{index-still, has-place, IsRowAt, fixed, fixed_in, parts-still, row-at, table-same}
use Rattle.link_server.proofs.table.Table.close.Goals as goal
use Rattle.link_server.proofs.table.Table.close.Goals.{After-index_mut-row, After-close}

pub held_key-key-requires-clause-held : goal.held_key-key-requires-clause-held
held_key-key-requires-clause-held c = has-place MayClose c.self.inside c.args.self.now c.args.chan c.self.view_is c.requires.may

-- the channel's row, which is open
abbrev was : After-index_mut-row → ServedRow
was c = get_or c.self.inside.rows.items (position c.self.inside.rows.keys c.held_key-key.result) c.index_mut-row.result.now

may : (c : After-index_mut-row) → IsRowAt MayClose c.self.inside (position c.self.inside.rows.keys c.held_key-key.result) c.index_mut-row.result.now
may c = row-at MayClose c.self.inside c.args.self.now c.args.chan (position c.self.inside.rows.keys c.held_key-key.result) c.index_mut-row.result.now c.self.view_is c.held_key-key.ensures c.requires.may

opened : (c : After-index_mut-row) → is_open (row_in (was c)) ≡ true
opened c = open-in-phase Committed (row_in (was c)) (inr refl) (may c).is.phase

-- as it is changed
same : (c : After-close) → row_in c.close.new.self ≡ account_closed c.args.count (row_in (get_or c.self.inside.rows.items (position c.self.inside.rows.keys c.held_key-key.result) c.index_mut-row.result.now))
same c = c.close.ensures.row ∙ ap (λ row. account_closed c.args.count (row_in row)) c.index_mut-row.ensures.value

pub put_hold-requires-clause-room : goal.put_hold-requires-clause-room
put_hold-requires-clause-room c =
    let at = (goal.at.put_hold-requires-clause-room c).After-index_mut-row in
    open-room c.self.inside.bounds c.self.inside.looked c.self.inside.holds c.self.inside.rows.items (position c.self.inside.rows.keys c.held_key-key.result) c.index_mut-row.result.now c.self.invariant.listed (may at).inside (opened at)

pub put_hold-requires-clause-last : goal.put_hold-requires-clause-last
put_hold-requires-clause-last c =
    let at = goal.at.put_hold-requires-clause-last c in
    subst (λ n. n < 2 ^ 63) (sym (c.close.new.self.newest ∙ ap (λ row. newest row.recent) (same at.After-close))) (may at.After-index_mut-row).is.soon

pub invariant_of-self : goal.invariant_of-self
invariant_of-self c =
    let t = c.self.inside in
    let is = c.self.invariant in
    let at = goal.at.invariant_of-self c in
    let row = may at.After-index_mut-row in
    let changed = same at.After-close in
    let items = t.rows.items in
    let i = (position c.self.inside.rows.keys c.held_key-key.result) in
    let new = c.close.new.self in
    let d = c.index_mut-row.result.now in
    let seen = ap (λ (table : TableAccount). table.looked) c.self.view_is in
    let later : t.looked ≤ c.args.clock = omega (arith, seen, c.requires.looked) in
    let turns = is.turns in
    let long = length-set items i new in
    record {
      same_bounds = is.same_bounds;
      parts =
          parts-still (whole_of t.keeping.budget) t.bounds (set items i new) items t.sums t.keeping is.parts (map-set_same fixed_in items i new d (ap (λ row. fixed row.terms) changed))
          (keeps-closed (whole_of t.keeping.budget) t.bounds t.keeping items i new d c.args.count is.parts.keeps row.inside (ap (λ row. row.terms) changed) row.is.phase);
      indexed = index-still t.index.keys.items t.rows.keys (set items i new) items is.indexed (map-set_same fixed_in items i new d (ap (λ row. fixed row.terms) changed));
      listed =
          listed-put t.bounds c.args.clock t.holds c.put_hold.new.holds items i new d (listed-later t.bounds t.looked c.args.clock t.holds (map row_in items) later is.listed) row.inside (opened at.After-index_mut-row)
          c.put_hold.ensures.clock c.put_hold.ensures.others (c.put_hold.ensures.own (λ _. ap (λ row. length row.left) changed)) c.put_hold.ensures.room;
      small = is.small;
      planned =
          planned-later t.looked c.args.clock t.plans.calendar _ later
          (planned-set t.looked t.plans.calendar items i new d is.planned row.inside (told-none t.plans.calendar.entries (row_in new) (ap (λ row. first_tick row.left) changed))
          (let none = closing-idle (row_in new) (ap (λ row. is_phase row.terms.phase Closing) changed) in omega (arith, none)));
      turns = omega (arith, turns, long);
    }

pub returns : goal.returns
returns c =
    let at = goal.at.returns c in
    rw (← c.self.view_is) (table-same _ _ (changed-mapped c.args.chan (account_closed c.args.count) c.self.inside.rows.items (position c.self.inside.rows.keys c.held_key-key.result) c.close.new.self c.index_mut-row.result.now c.held_key-key.ensures (same at.After-close)) (map-set_same departed_in c.self.inside.rows.items (position c.self.inside.rows.keys c.held_key-key.result) c.close.new.self c.index_mut-row.result.now (c.close.ensures.departed ∙ ap departed_in c.index_mut-row.ensures.value)) refl refl refl)
