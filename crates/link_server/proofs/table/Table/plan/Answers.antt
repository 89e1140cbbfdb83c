-- The channel's row plans its packets, and the first of them comes on the calendar.
use Rattle.std.proofs.Common.{length, inr, ◌≡◌, get_or, refl, set, sym, ap, ◌∙◌, subst, arith}
use Rattle.std.proofs.lemmas.List.{length-set}
use Rattle.std.proofs.Math.Seq.{map-set_same}
use Rattle.link_server.specs.KeyedList.{position}
use Rattle.link_server.proofs.Words.{whole_of, Committed, Closing, account_planned, Each, is_phase, TableAccount, reservation_in, row_in, ServedRow}
use Rattle.link_server.specs.Changes.{MayPlan}
use Rattle.link_server.specs.Departed.{departed_in}
use Rattle.link_server.specs.Keeping.{IsKeeping}
use Rattle.link_server.specs.Planned.{IsPlannedFrom}
use Rattle.link_server.specs.Plans.{idle_count}
use Rattle.link_server.proofs.Calendars.Holds.{in-phase, phase-listed, phase-open}
use Rattle.link_server.proofs.Calendars.HoldRows.{listed-set}
use Rattle.link_server.proofs.RowsOfTable.Placed.{changed-mapped}
use Rattle.link_server.proofs.Calendars.PlanRows.{idle-one, idle-room, plan-ahead, planned-put}
use Rattle.link_server.proofs.RowsOfTable.Parts.{index-still, has-place, IsRowAt, fixed, fixed_in, parts-still, row-at, table-same}
use Rattle.link_server.proofs.table.Table.plan.Goals as goal
use Rattle.link_server.proofs.table.Table.plan.Goals.{After-index_mut-row, After-plan}

pub held_key-key-requires-clause-held : goal.held_key-key-requires-clause-held
held_key-key-requires-clause-held c = has-place MayPlan c.self.inside c.args.self.now c.args.chan c.self.view_is c.requires.may

-- the channel's row, which is idle
abbrev was : After-index_mut-row → ServedRow
was c = get_or c.self.inside.rows.items (position c.self.inside.rows.keys c.held_key-key.result) c.index_mut-row.result.now

may : (c : After-index_mut-row) → IsRowAt MayPlan c.self.inside (position c.self.inside.rows.keys c.held_key-key.result) c.index_mut-row.result.now
may c = row-at MayPlan c.self.inside c.args.self.now c.args.chan (position c.self.inside.rows.keys c.held_key-key.result) c.index_mut-row.result.now c.self.view_is c.held_key-key.ensures c.requires.may

idle : (c : After-index_mut-row) → idle_count (row_in (was c)) ≡ 1
idle c = (let is = (may c).is in idle-one (row_in (was c)) is.none_left (ap (λ phase. is_phase phase Closing) (in-phase Committed (row_in (was c)) is.phase)))

-- as it is changed
same : (c : After-plan) → row_in c.plan.new.self ≡ account_planned c.args.planned.tick c.args.planned.count c.args.planned.gap c.args.planned.size (row_in (get_or c.self.inside.rows.items (position c.self.inside.rows.keys c.held_key-key.result) c.index_mut-row.result.now))
same c = c.plan.ensures.row ∙ ap (λ row. account_planned c.args.planned.tick c.args.planned.count c.args.planned.gap c.args.planned.size (row_in row)) c.index_mut-row.ensures.value

pub plan-requires : goal.plan-requires
plan-requires c = subst (λ (row : ServedRow). length (row_in row).left ≡ 0) (sym c.index_mut-row.ensures.value) (may (goal.at.plan-requires c).After-index_mut-row).is.none_left

pub put_plan-requires-clause-ahead : goal.put_plan-requires-clause-ahead
put_plan-requires-clause-ahead c =
    let t = c.self.inside in
    let at = goal.at.put_plan-requires-clause-ahead c in
    let begun = c.self.invariant.planned.begun in
    let looked = ap (λ (table : TableAccount). table.looked) c.self.view_is in
    subst (Each (IsPlannedFrom t.plans.calendar.clock)) (sym (ap (λ row. row.left) (same at.After-plan)))
    (plan-ahead t.plans.calendar.clock c.args.planned.tick c.args.planned.gap c.args.planned.size c.args.planned.count (row_in (was at.After-index_mut-row)).left (may at.After-index_mut-row).is.none_left (omega (arith, begun, looked, c.requires.looked)))

pub put_plan-requires-clause-room : goal.put_plan-requires-clause-room
put_plan-requires-clause-room c =
    let at = (goal.at.put_plan-requires-clause-room c).After-index_mut-row in
    idle-room c.self.inside.looked c.self.inside.plans.calendar c.self.inside.rows.items (position c.self.inside.rows.keys c.held_key-key.result) c.index_mut-row.result.now c.self.invariant.planned (may at).inside (idle at)

pub invariant_of-self : goal.invariant_of-self
invariant_of-self c =
    let t = c.self.inside in
    let is = c.self.invariant in
    let at = goal.at.invariant_of-self c in
    let row = may at.After-index_mut-row in
    let changed = same at.After-plan in
    let items = t.rows.items in
    let i = (position c.self.inside.rows.keys c.held_key-key.result) in
    let new = c.plan.new.self in
    let d = c.index_mut-row.result.now in
    let terms = ap (λ row. row.terms) changed in
    let committed = in-phase Committed (row_in (get_or items i d)) row.is.phase in
    let turns = is.turns in
    let long = length-set items i new in
    record {
      same_bounds = is.same_bounds;
      parts =
          parts-still (whole_of t.keeping.budget) t.bounds (set items i new) items t.sums t.keeping is.parts (map-set_same fixed_in items i new d (ap fixed terms))
          (subst (IsKeeping (whole_of t.keeping.budget) t.bounds t.keeping) (sym (map-set_same reservation_in items i new d terms)) is.parts.keeps);
      indexed = index-still t.index.keys.items t.rows.keys (set items i new) items is.indexed (map-set_same fixed_in items i new d (ap fixed terms));
      listed =
          listed-set t.bounds t.looked t.holds items i new d is.listed row.inside
          (phase-listed t.bounds t.looked t.holds.entries (row_in new) (inr (ap (λ row. row.terms.phase) changed ∙ committed)))
          (phase-open (row_in (get_or items i d)) (inr committed));
      small = is.small;
      planned =
          planned-put t.looked t.plans.calendar c.put_plan.new.calendar items i new d is.planned row.inside (idle at.After-index_mut-row) c.put_plan.ensures.clock c.put_plan.ensures.others
          c.put_plan.ensures.own c.put_plan.ensures.room;
      turns = omega (arith, turns, long);
    }

pub returns : goal.returns
returns c =
    let at = goal.at.returns c in
    rw (← c.self.view_is)
    (table-same _ _ (changed-mapped c.args.chan (account_planned c.args.planned.tick c.args.planned.count c.args.planned.gap c.args.planned.size) c.self.inside.rows.items (position c.self.inside.rows.keys c.held_key-key.result) c.plan.new.self c.index_mut-row.result.now c.held_key-key.ensures (same at.After-plan)) (map-set_same departed_in c.self.inside.rows.items (position c.self.inside.rows.keys c.held_key-key.result) c.plan.new.self c.index_mut-row.result.now (c.plan.ensures.departed ∙ ap departed_in c.index_mut-row.ensures.value)) refl refl refl)
