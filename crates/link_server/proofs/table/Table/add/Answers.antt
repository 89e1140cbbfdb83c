-- There is room in each part, and the row comes to the end of each.
use Rattle.std.proofs.Common.{inl, true, None, ◌≡◌, ◌-◌, ◌≤◌, ◌++◌, ◌∷◌, [], length, map, refl, sym, ap, ◌∙◌, subst, arith}
use Rattle.std.proofs.lemmas.List.{length-append, map_push}
use Rattle.link_server.proofs.Words.{find, whole_of, level_number, Sums, held_units, is_account_of, account_terms, admitted, TableAccount, ServedRow}
use Rattle.traffic_contract.specs.Admission.{admits, total}
use Rattle.link_server.specs.Departed.{departed_in}
use Rattle.link_server.specs.Holds.{AreListed}
use Rattle.link_server.specs.Index.{channels_in, IsIndex}
use Rattle.link_server.specs.Keeping.{IsKeeping}
use Rattle.link_server.specs.KeyedList.{IsNoneOf, Listed}
use Rattle.link_server.specs.Planned.{first_tick}
use Rattle.link_server.specs.Plans.{ArePlanned}
use Rattle.link_server.specs.Rows.{reservation_in, row_in, summed, AreWithin, IsWithinLevels}
use Rattle.link_server.proofs.Calendars.Holds.{phase-listed}
use Rattle.link_server.proofs.Calendars.HoldRows.{listed-pushed, listed-reserved}
use Rattle.link_server.proofs.Replies.Holding.{key-new, sums-pass, summed-pushed, within-pushed}
use Rattle.link_server.proofs.RowsOfTable.Index.{row-pushed}
use Rattle.link_server.proofs.RowsOfTable.Keeping.{keeping-free, keeps-pushed, own-whole, places-few, slots-units}
use Rattle.link_server.proofs.RowsOfTable.Places.{kept-none}
use Rattle.link_server.proofs.Calendars.Plans.{told-none}
use Rattle.link_server.proofs.Calendars.PlanRows.{planned-pushed, planned-reserved}
use Rattle.link_server.proofs.RowsOfTable.Sums.{absent-new}
use Rattle.link_server.proofs.RowsOfTable.Parts.{as-many, bounds-seen, table-same}
use Rattle.link_server.proofs.table.Table.add.Goals as goal
use Rattle.link_server.proofs.table.Table.add.Goals.{After-self, After-push-key}

-- the memory that is taken changes no row
pub invariant_of-self : goal.invariant_of-self
invariant_of-self c =
    let t = c.self.inside in
    let is = c.self.invariant in
    let room = c.make_room.ensures in
    let turns = is.turns in
    let same_rows = ap (λ (list : Listed ServedRow). list.items) room.rows in
    let seen = map row_in c.make_room.new.rows.items in
    record {
      same_bounds = ap (λ (sums : Sums). sums.server.bounds) room.sums ∙ is.same_bounds;
      parts = record {
        same = ap (λ (sums : Sums). sums.rows) room.sums ∙ is.parts.same ∙ ap (map summed) (sym same_rows);
        within = subst (AreWithin (length t.bounds)) (sym same_rows) is.parts.within;
        keeps = subst (λ rows. IsKeeping (whole_of t.keeping.budget) t.bounds t.keeping (map reservation_in rows)) (sym same_rows) is.parts.keeps;
      };
      indexed = subst (λ (list : Listed ServedRow). IsIndex c.make_room.new.index.keys.items list.keys (channels_in list.items)) (sym room.rows) (room.leads t.rows.keys (channels_in t.rows.items) is.indexed);
      listed = listed-reserved t.bounds t.looked t.holds c.make_room.new.holds seen room.holds.same room.holds.wider (subst (λ rows. AreListed t.bounds t.looked t.holds (map row_in rows)) (sym same_rows) is.listed);
      small = is.small;
      planned = planned-reserved t.looked t.plans.calendar c.make_room.new.plans.calendar seen room.plans.same room.plans.wider (subst (λ rows. ArePlanned t.looked t.plans.calendar (map row_in rows)) (sym same_rows) is.planned);
      turns = omega (arith, turns, room.turns, ap length same_rows);
    }

-- its units are free, and its places can be counted
free : (c : After-self) → held_units c.self.inside.bounds (reservation_in c.args.row) ≤ c.self.inside.keeping.budget.free
free c =
    let t = c.self.inside in
    let own = reservation_in c.args.row in
    let seen = subst (λ (table : TableAccount). held_units table.server.bounds own ≤ table.buffer - total (held_units table.server.bounds) (map account_terms table.rows)) (sym c.self.view_is) c.requires.may.free in
    let fits = subst (λ bounds. held_units bounds own ≤ whole_of t.keeping.budget - total (held_units bounds) (map account_terms (map row_in t.rows.items))) c.self.invariant.same_bounds seen in
    let left = keeping-free (whole_of t.keeping.budget) t.bounds t.keeping t.rows.items c.self.invariant.parts.keeps in
    omega (arith, fits, left)

pub hold-requires-clause-free : goal.hold-requires-clause-free
hold-requires-clause-free c = free (goal.at.hold-requires-clause-free c).After-self

pub hold-requires-clause-few : goal.hold-requires-clause-few
hold-requires-clause-few c =
    let t = c.self.inside in
    let is = c.self.invariant in
    let at = (goal.at.hold-requires-clause-few c).After-self in
    let fits = free at in
    let many = as-many t c.args.self.now c.self.view_is in
    let slots = slots-units t.bounds (reservation_in c.args.row) c.args.row.is_contract in
    let few = places-few (whole_of t.keeping.budget) t.bounds t.keeping t.rows.items is.parts.keeps is.small (omega (arith, many, c.requires.few)) in
    let small = is.small in
    omega (arith, fits, slots, few, small)

-- its channel is new, and the rows pass with it
pub add-requires-clause-new : goal.add-requires-clause-new
add-requires-clause-new c =
    let t = c.self.inside in
    key-new t.rows.items c.make_room.new.sums c.args.row c.get.result (ap (λ (sums : Sums). sums.rows) c.make_room.ensures.sums ∙ c.self.invariant.parts.same) c.get.ensures.value
    (subst (λ (table : TableAccount). find (is_account_of c.args.row.chan) table.rows ≡ None) (sym c.self.view_is) c.requires.may.new)

pub add-requires-clause-passes : goal.add-requires-clause-passes
add-requires-clause-passes c =
    let t = c.self.inside in
    let server = ap (λ (sums : Sums). sums.server) c.make_room.ensures.sums in
    let seen = subst (λ (table : TableAccount). admits table.server (map admitted (map account_terms table.rows)) c.args.row.contract (level_number c.args.row.level) ≡ true) (sym c.self.view_is) c.requires.may.passes in
    sums-pass t.rows.items c.make_room.new.sums c.args.row (ap (λ (sums : Sums). sums.rows) c.make_room.ensures.sums ∙ c.self.invariant.parts.same)
    (ap (λ s. admits s (map admitted (map account_terms (map row_in t.rows.items))) c.args.row.contract (level_number c.args.row.level)) server ∙ seen)

-- the rows then, and what they keep
pushed : (c : After-push-key) → c.push-key.new.self.items ≡ c.self.inside.rows.items ++ c.args.row ∷ []
pushed c = ap (λ (list : Listed ServedRow). list.items) c.push-key.ensures.list ∙ ap (λ (list : Listed ServedRow). list.items ++ c.args.row ∷ []) c.make_room.ensures.rows

keeps : (c : After-push-key) → held_units c.self.inside.bounds (reservation_in c.args.row) ≤ c.self.inside.keeping.budget.free → IsKeeping (whole_of c.self.inside.keeping.budget) c.self.inside.bounds c.hold.new.self (map reservation_in (c.self.inside.rows.items ++ c.args.row ∷ []))
keeps c fits =
    let t = c.self.inside in
    keeps-pushed (whole_of t.keeping.budget) t.bounds t.keeping c.hold.new.self t.rows.items c.args.row c.self.invariant.parts.keeps fits c.hold.ensures.budget c.hold.ensures.places

pub invariant_of-self-2 : goal.invariant_of-self-2
invariant_of-self-2 c =
    let t = c.self.inside in
    let is = c.self.invariant in
    let at = goal.at.invariant_of-self-2 c in
    let row = c.args.row in
    let may = c.requires.may in
    let room = c.make_room.ensures in
    let fits = c.in_ok-make_room.ensures.fits in
    let new = pushed at.After-push-key in
    let kept = keeps at.After-push-key (free at.After-self) in
    let whole = kept.whole in
    let small = is.small in
    let bounds = ap (λ b. length b) (bounds-seen t c.args.self.now is c.self.view_is) in
    let near = may.level in
    let far = may.reach in
    let levels : IsWithinLevels (length t.bounds) row = record { level = omega (arith, bounds, near); reach = omega (arith, bounds, far) } in
    let absent = subst (λ (table : TableAccount). find (is_account_of row.chan) table.rows ≡ None) (sym c.self.view_is) may.new in
    let same_rows = ap (λ (list : Listed ServedRow). list.items) room.rows in
    let list : c.push-key.new.self ≡ record { items = t.rows.items ++ row ∷ []; keys = t.rows.keys ++ c.push-key.result ∷ []; spare = c.make_room.new.rows.spare - 1 } = c.push-key.ensures.list ∙ ap (λ (list : Listed ServedRow). record { items = list.items ++ row ∷ []; keys = list.keys ++ c.push-key.result ∷ []; spare = list.spare - 1 }) room.rows in
    let own-key = subst (λ (list : Listed ServedRow). IsNoneOf list.keys c.push-key.result) room.rows c.push-key.ensures.own in
    let as_long = ap length same_rows in
    let one = ap length new ∙ length-append t.rows.items (row ∷ []) in
    record {
      same_bounds = ap (λ server. server.bounds) c.add.ensures.server ∙ ap (λ (sums : Sums). sums.server.bounds) room.sums ∙ is.same_bounds;
      parts = record {
        same =
            c.add.ensures.rows
            ∙ summed-pushed t.rows.items row c.get.result c.make_room.new.sums.rows c.get.ensures.value (ap (λ (sums : Sums). sums.rows) room.sums ∙ is.parts.same)
            ∙ ap (map summed) (sym new);
        within = subst (AreWithin (length t.bounds)) (sym new) (within-pushed _ t.rows.items row is.parts.within levels);
        keeps = own-whole (whole_of t.keeping.budget) t.bounds c.hold.new.self _ (subst (λ rows. IsKeeping (whole_of t.keeping.budget) t.bounds c.hold.new.self (map reservation_in rows)) (sym new) kept);
      };
      indexed =
          subst (λ (list : Listed ServedRow). IsIndex c.put.new.self.keys.items list.keys (channels_in list.items)) (sym list)
          (subst (λ index. IsIndex index (t.rows.keys ++ c.push-key.result ∷ []) (channels_in (t.rows.items ++ row ∷ []))) (sym c.put.ensures)
          (row-pushed c.make_room.new.index.keys.items t.rows.keys t.rows.items row c.push-key.result (room.leads t.rows.keys (channels_in t.rows.items) is.indexed) fits.place own-key (absent-new row.chan t.rows.items (kept-none row.chan t.rows.items absent))));
      listed =
          subst (λ rows. AreListed t.bounds t.looked c.make_room.new.holds (map row_in rows)) (sym new)
          (listed-pushed t.bounds t.looked c.make_room.new.holds t.rows.items row (listed-reserved t.bounds t.looked t.holds c.make_room.new.holds (map row_in t.rows.items) room.holds.same room.holds.wider is.listed)
          (phase-listed t.bounds t.looked c.make_room.new.holds.entries (row_in row) (inl may.phase)) (omega (arith, as_long, fits.hold)));
      small = omega (arith, whole, small);
      planned =
          subst (λ rows. ArePlanned t.looked c.make_room.new.plans.calendar (map row_in rows)) (sym new)
          (planned-pushed t.looked c.make_room.new.plans.calendar t.rows.items row (planned-reserved t.looked t.plans.calendar c.make_room.new.plans.calendar (map row_in t.rows.items) room.plans.same room.plans.wider is.planned)
          (told-none c.make_room.new.plans.calendar.entries (row_in row) (ap first_tick may.none_left)) (omega (arith, as_long, fits.planned)));
      turns = omega (arith, one, as_long, fits.turn);
    }

pub returns-clause-added : goal.returns-clause-added
returns-clause-added c =
    let at = goal.at.returns-clause-added c in
    let kept = keeps at.After-push-key (free at.After-self) in
    rw (← c.self.view_is)
    (table-same _ _ (ap (map row_in) (pushed at.After-push-key) ∙ map_push row_in c.self.inside.rows.items c.args.row) (ap (map departed_in) (pushed at.After-push-key) ∙ map_push departed_in c.self.inside.rows.items c.args.row)
    (c.add.ensures.server ∙ ap (λ (sums : Sums). sums.server) c.make_room.ensures.sums) kept.whole refl)
