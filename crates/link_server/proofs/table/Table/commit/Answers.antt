-- The channel's row gives back its share, is committed, and holds its new share, which is no larger.
use Rattle.std.proofs.Common.{inl, inr, ◌≡◌, ◌+◌, ◌-◌, ◌≤◌, get_or, set, length, map, refl, sym, ap, ◌∙◌, subst, arith}
use Rattle.std.proofs.lemmas.List.{length-set}
use Rattle.std.proofs.lemmas.List.Elements.{All-set}
use Rattle.std.proofs.Math.Seq.{map-set_same}
use Rattle.buffer_budget.specs.Parts.{whole_of, with_freed}
use Rattle.link_server.specs.KeyedList.{position}
use Rattle.link_server.proofs.Words.{channel_number, level_number, Tentative, Closing, slots_of, held_units, account_relaxed, is_phase, reservation_in, row_in, summed, IsPlaceOf, IsWithinLevels}
use Rattle.rcsp_admission.specs.Sums.{HoldsUpTo, moved}
use Rattle.link_server.specs.Changes.{HasRow, MayCommit}
use Rattle.link_server.specs.Departed.{departed_in}
use Rattle.link_server.specs.Keeping.{IsKeeping, places_for}
use Rattle.link_server.specs.Plans.{IsTold}
use Rattle.link_server.proofs.Calendars.Holds.{in-phase, open-in-phase, phase-listed}
use Rattle.link_server.proofs.Calendars.HoldRows.{listed-set}
use Rattle.link_server.proofs.Calendars.Expiry.{each-at}
use Rattle.link_server.proofs.RowsOfTable.Index.{index-changed, index-distinct}
use Rattle.link_server.proofs.RowsOfTable.Keeping.{keeps-changed, own-whole, relaxed-units, row-held, row-places}
use Rattle.link_server.proofs.RowsOfTable.Placed.{changed-mapped}
use Rattle.link_server.proofs.Calendars.Plans.{told-same}
use Rattle.link_server.proofs.Calendars.PlanRows.{planned-set, same-idle}
use Rattle.link_server.proofs.RowsOfTable.Sums.{place-holds-upto, summed-committed, summed-moved, within-committed}
use Rattle.link_server.proofs.RowsOfTable.Parts.{has-place, IsRowAt, bounds-seen, place-only, row-at, table-same}
use Rattle.link_server.proofs.table.Table.commit.Goals as goal
use Rattle.link_server.proofs.table.Table.commit.Goals.{After-index_mut-row, After-commit, After-hold}

pub held_key-key-requires-clause-held : goal.held_key-key-requires-clause-held
held_key-key-requires-clause-held c = has-place (MayCommit c.args.self.now.server.bounds c.args.level c.args.up_bound) c.self.inside c.args.self.now c.args.chan c.self.view_is c.requires.may

-- the channel's row may be committed, and it is its channel's, and the only one
may : (c : After-index_mut-row) → IsRowAt (MayCommit c.self.inside.bounds c.args.level c.args.up_bound) c.self.inside (position c.self.inside.rows.keys c.held_key-key.result) c.index_mut-row.result.now
may c =
    let t = c.self.inside in
    row-at (MayCommit t.bounds c.args.level c.args.up_bound) t c.args.self.now c.args.chan (position c.self.inside.rows.keys c.held_key-key.result) c.index_mut-row.result.now c.self.view_is c.held_key-key.ensures
    (subst (λ bounds. HasRow (MayCommit bounds c.args.level c.args.up_bound) c.args.chan c.args.self.now.rows) (sym (bounds-seen t c.args.self.now c.self.invariant c.self.view_is)) c.requires.may)

only : (c : After-index_mut-row) → IsPlaceOf c.index_mut-row.result.now.chan c.self.inside.rows.items (position c.self.inside.rows.keys c.held_key-key.result)
only c = place-only c.self.inside.rows.items (position c.self.inside.rows.keys c.held_key-key.result) c.index_mut-row.result.now (index-distinct c.self.inside.index.keys.items c.self.inside.rows.keys c.self.inside.rows.items c.self.invariant.indexed) c.index_mut-row.ensures.value (may c).inside

pub give_back-requires-clause-held : goal.give_back-requires-clause-held
give_back-requires-clause-held c =
    let t = c.self.inside in
    subst (λ row. held_units t.bounds (reservation_in row) ≤ t.keeping.budget.held) (sym c.index_mut-row.ensures.value)
    (row-held (whole_of t.keeping.budget) t.bounds t.keeping t.rows.items (position c.self.inside.rows.keys c.held_key-key.result) c.index_mut-row.result.now c.self.invariant.parts.keeps (may (goal.at.give_back-requires-clause-held c).After-index_mut-row).inside)

pub give_back-requires-clause-places : goal.give_back-requires-clause-places
give_back-requires-clause-places c =
    let t = c.self.inside in
    subst (λ row. places_for t.bounds (reservation_in row) ≤ t.keeping.places) (sym c.index_mut-row.ensures.value)
    (row-places (whole_of t.keeping.budget) t.bounds t.keeping t.rows.items (position c.self.inside.rows.keys c.held_key-key.result) c.index_mut-row.result.now c.self.invariant.parts.keeps (may (goal.at.give_back-requires-clause-places c).After-index_mut-row).inside)

pub move_to-requires-clause-held : goal.move_to-requires-clause-held
move_to-requires-clause-held c =
    let t = c.self.inside in
    let at = (goal.at.move_to-requires-clause-held c).After-index_mut-row in
    let held = place-holds-upto c.index_mut-row.result.now.chan (level_number c.args.level) t.rows.items (position c.self.inside.rows.keys c.held_key-key.result) c.index_mut-row.result.now (only at) (may at).is.upto in
    subst (λ rows. HoldsUpTo rows c.get.result (level_number c.args.level)) (sym c.self.invariant.parts.same)
    (subst (λ n. HoldsUpTo (map summed t.rows.items) n (level_number c.args.level)) (sym c.get.ensures.value) held)

-- as it is changed: it has no more slots than before, and so keeps no more units
same : (c : After-commit) → row_in c.commit.new.self ≡ account_relaxed c.args.level c.args.up_bound (row_in (get_or c.self.inside.rows.items (position c.self.inside.rows.keys c.held_key-key.result) c.index_mut-row.result.now))
same c = c.commit.ensures.row ∙ ap (λ row. account_relaxed c.args.level c.args.up_bound (row_in row)) c.index_mut-row.ensures.value

fewer : (c : After-commit) → IsRowAt (MayCommit c.self.inside.bounds c.args.level c.args.up_bound) c.self.inside (position c.self.inside.rows.keys c.held_key-key.result) c.index_mut-row.result.now
    → slots_of c.self.inside.bounds (reservation_in c.commit.new.self) ≤ slots_of c.self.inside.bounds (reservation_in (get_or c.self.inside.rows.items (position c.self.inside.rows.keys c.held_key-key.result) c.index_mut-row.result.now))
fewer c row = subst (λ new. slots_of c.self.inside.bounds new.terms ≤ slots_of c.self.inside.bounds (reservation_in (get_or c.self.inside.rows.items (position c.self.inside.rows.keys c.held_key-key.result) c.index_mut-row.result.now))) (sym (same c)) row.is.fewer

fits-again : (c : After-commit) → IsRowAt (MayCommit c.self.inside.bounds c.args.level c.args.up_bound) c.self.inside (position c.self.inside.rows.keys c.held_key-key.result) c.index_mut-row.result.now → held_units c.self.inside.bounds (reservation_in c.commit.new.self) ≤ c.give_back.new.self.budget.free
fits-again c row =
    let t = c.self.inside in
    let less = relaxed-units t.bounds c.args.level c.args.up_bound c.commit.new.self (get_or t.rows.items (position c.self.inside.rows.keys c.held_key-key.result) c.index_mut-row.result.now) (same c) (fewer c row) in
    let freed : c.give_back.new.self.budget.free ≡ t.keeping.budget.free + held_units t.bounds (reservation_in c.index_mut-row.result.now) = ap (λ p. p.free) c.give_back.ensures.budget in
    let own = ap (λ row. held_units t.bounds (reservation_in row)) c.index_mut-row.ensures.value in
    omega (arith, less, freed, own)

pub hold-requires-clause-free : goal.hold-requires-clause-free
hold-requires-clause-free c = (let at = goal.at.hold-requires-clause-free c in fits-again at.After-commit (may at.After-index_mut-row))

pub hold-requires-clause-few : goal.hold-requires-clause-few
hold-requires-clause-few c =
    let t = c.self.inside in
    let at = goal.at.hold-requires-clause-few c in
    let row = may at.After-index_mut-row in
    let less = fewer at.After-commit row in
    let first = ap (λ row. slots_of t.bounds (reservation_in row)) c.index_mut-row.ensures.value in
    let own = row-places (whole_of t.keeping.budget) t.bounds t.keeping t.rows.items (position c.self.inside.rows.keys c.held_key-key.result) c.index_mut-row.result.now c.self.invariant.parts.keeps row.inside in
    let few = t.keeping.few in
    omega (arith, less, first, own, few, c.give_back.ensures.places)

-- what the rows keep then
keeps : (c : After-hold) → IsRowAt (MayCommit c.self.inside.bounds c.args.level c.args.up_bound) c.self.inside (position c.self.inside.rows.keys c.held_key-key.result) c.index_mut-row.result.now → held_units c.self.inside.bounds (reservation_in c.commit.new.self) ≤ c.give_back.new.self.budget.free
    → IsKeeping (whole_of c.self.inside.keeping.budget) c.self.inside.bounds c.hold.new.self (map reservation_in (set c.self.inside.rows.items (position c.self.inside.rows.keys c.held_key-key.result) c.commit.new.self))
keeps c row fits =
    let t = c.self.inside in
    let at = c.index_mut-row.ensures.value in
    keeps-changed (whole_of t.keeping.budget) t.bounds t.keeping c.give_back.new.self c.hold.new.self t.rows.items (position c.self.inside.rows.keys c.held_key-key.result) c.commit.new.self c.index_mut-row.result.now c.self.invariant.parts.keeps row.inside
    (c.give_back.ensures.budget ∙ ap (λ row. with_freed t.keeping.budget (held_units t.bounds (reservation_in row))) at)
    (c.give_back.ensures.places ∙ ap (λ row. t.keeping.places - places_for t.bounds (reservation_in row)) at)
    fits c.hold.ensures.budget c.hold.ensures.places

pub invariant_of-self : goal.invariant_of-self
invariant_of-self c =
    let t = c.self.inside in
    let is = c.self.invariant in
    let parts = is.parts in
    let at = goal.at.invariant_of-self c in
    let row = may at.After-index_mut-row in
    let changed = same at.After-commit in
    let items = t.rows.items in
    let i = (position c.self.inside.rows.keys c.held_key-key.result) in
    let new = c.commit.new.self in
    let d = c.index_mut-row.result.now in
    let kept = keeps at.After-hold row (fits-again at.After-commit row) in
    let whole = kept.whole in
    let small = is.small in
    let turns = is.turns in
    let long = length-set items i new in
    let level = ap (λ bounds. length bounds) (bounds-seen t c.args.self.now is c.self.view_is) in
    record {
      same_bounds = ap (λ server. server.bounds) c.move_to.ensures.server ∙ is.same_bounds;
      parts = record {
        same =
            c.move_to.ensures.rows
            ∙ ap (λ rows. moved rows c.get.result (level_number c.args.level)) parts.same
            ∙ ap (λ n. moved (map summed items) n (level_number c.args.level)) c.get.ensures.value
            ∙ summed-moved d.chan (level_number c.args.level) items i new d (index-distinct t.index.keys.items t.rows.keys items is.indexed) (only at.After-index_mut-row)
            (summed-committed new (get_or items i d) c.args.level c.args.up_bound changed);
        within = All-set (IsWithinLevels _) items i new (within-committed _ new (get_or items i d) c.args.level c.args.up_bound changed (omega (arith, level, c.requires.level)) (parts.within i d row.inside)) parts.within;
        keeps = own-whole (whole_of t.keeping.budget) t.bounds c.hold.new.self _ kept;
      };
      indexed = index-changed t.index.keys.items t.rows.keys items i new d is.indexed (ap (λ row. channel_number row.terms.chan) changed);
      listed =
          listed-set t.bounds t.looked t.holds items i new d is.listed row.inside
          (phase-listed t.bounds t.looked t.holds.entries (row_in new) (inr (ap (λ row. row.terms.phase) changed)))
          (open-in-phase Tentative (row_in (get_or items i d)) (inl refl) row.is.tentative);
      small = omega (arith, whole, small);
      planned =
          planned-set t.looked t.plans.calendar items i new d is.planned row.inside
          (told-same t.plans.calendar.entries (row_in new) (row_in (get_or items i d)) (ap (λ row. row.left) changed) (ap (λ row. channel_number row.terms.chan) changed) (each-at (IsTold t.plans.calendar.entries) items i d row.inside is.planned.told))
          (same-idle (row_in new) (row_in (get_or items i d)) (ap (λ row. row.left) changed) (ap (λ row. is_phase row.terms.phase Closing) changed ∙ sym (ap (λ phase. is_phase phase Closing) (in-phase Tentative (row_in (get_or items i d)) row.is.tentative))));
      turns = omega (arith, turns, long);
    }

pub returns : goal.returns
returns c =
    let at = goal.at.returns c in
    let row = may at.After-index_mut-row in
    rw (← c.self.view_is)
    (table-same _ _ (changed-mapped c.args.chan (account_relaxed c.args.level c.args.up_bound) c.self.inside.rows.items (position c.self.inside.rows.keys c.held_key-key.result) c.commit.new.self c.index_mut-row.result.now c.held_key-key.ensures (same at.After-commit)) (map-set_same departed_in c.self.inside.rows.items (position c.self.inside.rows.keys c.held_key-key.result) c.commit.new.self c.index_mut-row.result.now (c.commit.ensures.departed ∙ ap departed_in c.index_mut-row.ensures.value)) c.move_to.ensures.server (keeps at.After-hold row (fits-again at.After-commit row)).whole refl)
