-- Rows that pass still pass when one moves to a larger level. The loads fall by it, and rise by it at its new level.
use Rattle.std.proofs.Common.{◌≡◌, ◌+◌, Some, is_some, map, set, refl, ap, sym, subst, ◌∙◌, arith}
use Rattle.std.proofs.lemmas.List.{length-set}
use Rattle.std.specs.List.{find}
use Rattle.net_units.specs.Numbers.{level_number}
use Rattle.traffic_contract.specs.Admission.{total}
use Rattle.rcsp_admission.specs.Fields.{sums_of}
use Rattle.rcsp_admission.specs.Index.{IsIndex}
use Rattle.rcsp_admission.specs.Kept.{held_of, kept_rows}
use Rattle.rcsp_admission.specs.Sums.{AreAdmitted, Holds, admitted_row, admitted_rows, has_key, moved}
use Rattle.rcsp_admission.proofs.OneRowPerKey.{held-at, total-moved}
use Rattle.rcsp_admission.proofs.RunningLoads.{load-small, part-of-load, loads-moved}
use Rattle.rcsp_admission.proofs.IndexFollowsRows.{index-holds, index-inside, index-found, index-put, index-moved}
use Rattle.rcsp_admission.proofs.StaysAdmitted.{AreAdmitted-moved}
use Rattle.rcsp_admission.proofs.level_sums.LevelSums.move_to.Goals as goal
use Rattle.rcsp_admission.proofs.level_sums.LevelSums.move_to.Goals.{After-index}

pub unwrap-place-requires : goal.unwrap-place-requires
unwrap-place-requires c =
    let held = subst (λ rows. Holds rows c.args.key) (sym (ap (λ s. s.rows) c.self.view_is)) (held-at c.args.self.now.rows c.args.key (level_number c.args.level) c.requires.held) in
    ap is_some c.place.ensures ∙ index-holds c.self.inside.rows.items c.self.inside.index.places.items c.args.key c.self.invariant.places.index held

pub index-requires : goal.index-requires
index-requires c =
    let inside = index-inside c.self.inside.rows.items c.self.inside.index.places.items c.args.key c.unwrap-place.result c.self.invariant.places.index (sym c.place.ensures ∙ c.unwrap-place.ensures) in
    omega (arith, inside, c.self.inside.rows.ok)

pub index_mut-requires : goal.index_mut-requires
index_mut-requires c =
    let inside = index-inside c.self.inside.rows.items c.self.inside.index.places.items c.args.key c.unwrap-place.result c.self.invariant.places.index (sym c.place.ensures ∙ c.unwrap-place.ensures) in
    omega (arith, inside, c.self.inside.rows.ok)

-- the row that is read is that of the key
found : (c : After-index) → find (has_key c.args.key) (map held_of c.self.inside.rows.items) ≡ Some (held_of c.index.result.now)
found c =
    index-found c.self.inside.rows.items c.self.inside.index.places.items c.args.key c.unwrap-place.result c.index.result.now c.self.invariant.admitted.distinct c.self.invariant.places.index (sym c.place.ensures ∙ c.unwrap-place.ensures) c.index.ensures

pub take_row-requires-clause-within : goal.take_row-requires-clause-within
take_row-requires-clause-within c =
    part-of-load c.self.inside.rate c.self.inside.bounds (map held_of c.self.inside.rows.items) c.self.inside.loads c.args.key (held_of c.index.result.now) c.self.invariant.admitted.distinct
    (found (goal.at.take_row-requires-clause-within c).After-index) c.self.invariant.loads

pub add_row-requires-clause-small : goal.add_row-requires-clause-small
add_row-requires-clause-small c i inside =
    let small = load-small (sums_of c.self.inside) c.self.inside.loads i c.self.invariant.admitted c.self.invariant.loads inside in
    omega (arith, small, c.take_row.ensures i inside)

-- the rows with that of the key at the level
rows : (c : After-index) → map held_of (set c.self.inside.rows.items c.unwrap-place.result (record { key = c.index.result.now.key; contract = c.index.result.now.contract; level = c.args.level })) ≡ moved (map held_of c.self.inside.rows.items) c.args.key (level_number c.args.level)
rows c =
    index-put c.self.inside.rows.items c.self.inside.index.places.items c.args.key c.unwrap-place.result (level_number c.args.level) c.index.result.now _ c.self.invariant.admitted.distinct c.self.invariant.places.index (sym c.place.ensures ∙ c.unwrap-place.ensures) c.index.ensures refl

pub returns-clause-rows : goal.returns-clause-rows
returns-clause-rows c = rows (goal.at.returns-clause-rows c).After-index ∙ ap (λ s. moved s.rows c.args.key (level_number c.args.level)) c.self.view_is

pub invariant_of-self : goal.invariant_of-self
invariant_of-self c =
    let level = level_number c.args.level in
    let kept = rows (goal.at.invariant_of-self c).After-index in
    record {
      admitted =
          AreAdmitted-moved c.args.self.now _ c.args.key (level_number c.args.level) (subst AreAdmitted c.self.view_is c.self.invariant.admitted) c.requires.held (ap (λ s. s.server) c.self.view_is)
          (kept ∙ ap (λ s. moved s.rows c.args.key level) c.self.view_is);
      loads = loads-moved c.self.inside.rate c.self.inside.bounds (kept_rows c.self.inside.rows.items) _ _ _ c.self.inside.loads c.take_row.new.loads c.add_row.new.loads c.self.invariant.loads c.take_row.ensures c.add_row.ensures
          (λ f. ap (λ held. total f (admitted_rows held) + f (admitted_row (held_of c.index.result.now))) kept ∙ total-moved f (map held_of c.self.inside.rows.items) c.args.key level (held_of c.index.result.now) c.self.invariant.admitted.distinct (found (goal.at.invariant_of-self c).After-index));
      places = record {
        index = subst (λ rows. IsIndex rows c.self.inside.index.places.items) (sym kept) (index-moved (map held_of c.self.inside.rows.items) c.self.inside.index.places.items c.args.key level c.self.invariant.places.index);
        rows = (let room = c.self.invariant.places.rows in omega (arith, room, length-set c.self.inside.rows.items c.unwrap-place.result (record { key = c.index.result.now.key; contract = c.index.result.now.contract; level = c.args.level })));
        places = c.self.invariant.places.places;
      };
    }

pub returns-clause-admitted : goal.returns-clause-admitted
returns-clause-admitted c = (invariant_of-self c).admitted
