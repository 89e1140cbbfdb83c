-- The rows of the other keys are kept, and they pass since all did. The loads fall by the one that goes.
use Rattle.std.proofs.Common.{◌≡◌, ◌+◌, Some, map, sym, ap, ◌∙◌, subst, arith}
use Rattle.std.specs.List.{find}
use Rattle.traffic_contract.specs.Admission.{total}
use Rattle.rcsp_admission.specs.Index.{IsIndex}
use Rattle.rcsp_admission.specs.Kept.{held_of, kept_rows}
use Rattle.rcsp_admission.specs.Sums.{AreAdmitted, Holds, admitted_row, admitted_rows, has_key, without_key}
use Rattle.rcsp_admission.proofs.OneRowPerKey.{total-without}
use Rattle.rcsp_admission.proofs.RunningLoads.{part-of-load, loads-taken}
use Rattle.rcsp_admission.proofs.IndexFollowsRows.{index-holds, index-inside, index-found, index-out, index-without}
use Rattle.rcsp_admission.proofs.StaysAdmitted.{AreAdmitted-without}
use Rattle.rcsp_admission.proofs.level_sums.LevelSums.remove.Goals as goal
use Rattle.rcsp_admission.proofs.level_sums.LevelSums.remove.Goals.{After-remove-row}

pub remove-place-requires-clause-held : goal.remove-place-requires-clause-held
remove-place-requires-clause-held c =
    index-holds c.self.inside.rows.items c.self.inside.index.places.items c.args.key c.self.invariant.places.index (subst (λ rows. Holds rows c.args.key) (sym (ap (λ s. s.rows) c.self.view_is)) c.requires.held)

pub remove-row-requires : goal.remove-row-requires
remove-row-requires c =
    let inside = index-inside c.self.inside.rows.items c.self.inside.index.places.items c.args.key c.remove-place.result c.self.invariant.places.index c.remove-place.ensures.place in
    omega (arith, inside, c.self.inside.rows.ok)

-- the row that is taken out is that of the key
found : (c : After-remove-row) → find (has_key c.args.key) (map held_of c.self.inside.rows.items) ≡ Some (held_of c.remove-row.result)
found c =
    index-found c.self.inside.rows.items c.self.inside.index.places.items c.args.key c.remove-place.result c.remove-row.result c.self.invariant.admitted.distinct c.self.invariant.places.index c.remove-place.ensures.place c.remove-row.ensures.value

pub take_row-requires-clause-within : goal.take_row-requires-clause-within
take_row-requires-clause-within c =
    part-of-load c.self.inside.rate c.self.inside.bounds (map held_of c.self.inside.rows.items) c.self.inside.loads c.args.key (held_of c.remove-row.result) c.self.invariant.admitted.distinct
    (found (goal.at.take_row-requires-clause-within c).After-remove-row) c.self.invariant.loads

-- the rows that are left
rest : (c : After-remove-row) → map held_of c.remove-row.new.self.items ≡ without_key (map held_of c.self.inside.rows.items) c.args.key
rest c =
    ap (map held_of) c.remove-row.ensures.items ∙ index-out c.self.inside.rows.items c.self.inside.index.places.items c.args.key c.remove-place.result c.self.invariant.admitted.distinct c.self.invariant.places.index c.remove-place.ensures.place

pub returns-clause-rows : goal.returns-clause-rows
returns-clause-rows c = rest (goal.at.returns-clause-rows c).After-remove-row ∙ ap (λ s. without_key s.rows c.args.key) c.self.view_is

pub invariant_of-self : goal.invariant_of-self
invariant_of-self c =
    let left = rest (goal.at.invariant_of-self c).After-remove-row in
    record {
      admitted =
          AreAdmitted-without c.args.self.now _ c.args.key (subst AreAdmitted c.self.view_is c.self.invariant.admitted) (ap (λ s. s.server) c.self.view_is) (left ∙ ap (λ s. without_key s.rows c.args.key) c.self.view_is);
      loads = loads-taken c.self.inside.rate c.self.inside.bounds (kept_rows c.self.inside.rows.items) _ _ c.self.inside.loads c.take_row.new.loads c.self.invariant.loads c.take_row.ensures
          (λ f. ap (λ held. total f (admitted_rows held) + f (admitted_row (held_of c.remove-row.result))) left ∙ total-without f (map held_of c.self.inside.rows.items) c.args.key (held_of c.remove-row.result) c.self.invariant.admitted.distinct (found (goal.at.invariant_of-self c).After-remove-row));
      places = record {
        index = subst (λ rows. IsIndex rows c.remove-place.new.self.places.items) (sym left)
            (index-without (map held_of c.self.inside.rows.items) c.self.inside.index.places.items c.remove-place.new.self.places.items c.args.key c.remove-place.result c.self.invariant.places.index c.self.invariant.admitted.distinct c.remove-place.ensures.place c.remove-place.ensures.sorted c.remove-place.ensures.each);
        rows = (let room = c.self.invariant.places.rows in omega (arith, room, c.remove-row.ensures.len, c.remove-row.ensures.capacity));
        places = (let room = c.self.invariant.places.places in omega (arith, room, c.remove-place.ensures.length, c.remove-place.ensures.capacity));
      };
    }

pub returns-clause-admitted : goal.returns-clause-admitted
returns-clause-admitted c = (invariant_of-self c).admitted
