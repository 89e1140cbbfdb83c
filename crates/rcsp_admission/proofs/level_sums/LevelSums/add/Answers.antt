-- The rows with the new one at their end pass, and no key stands twice. The loads rise by the new row.
use Rattle.std.proofs.Common.{◌≡◌, ℕ, Some, map, length, ap, sym, subst, ◌∙◌, arith}
use Rattle.std.proofs.lemmas.List.{map_push, length-map}
use Rattle.std.specs.Prelude.{nat_eq, if◌then◌else◌}
use Rattle.net_units.specs.Numbers.{level_number}
use Rattle.rcsp_admission.specs.Sums.{AreAdmitted, Holds, added}
use Rattle.rcsp_admission.specs.Index.{place_in, IsIndex}
use Rattle.rcsp_admission.specs.Fields.{sums_of}
use Rattle.rcsp_admission.specs.Kept.{held_of, kept_rows}
use Rattle.rcsp_admission.proofs.RunningLoads.{load-small, loads-added}
use Rattle.rcsp_admission.proofs.IndexFollowsRows.{new-placed, index-added}
use Rattle.rcsp_admission.proofs.WorkByRow.{total-pushed}
use Rattle.rcsp_admission.proofs.StaysAdmitted.{AreAdmitted-added}
use Rattle.rcsp_admission.proofs.level_sums.LevelSums.add.Goals as goal
use Rattle.rcsp_admission.proofs.level_sums.LevelSums.add.Goals.{After-len, After-push_reserved}

pub add_row-requires-clause-small : goal.add_row-requires-clause-small
add_row-requires-clause-small c i inside =
    let small = load-small (sums_of c.self.inside) c.self.inside.loads i c.self.invariant.admitted c.self.invariant.loads inside in
    omega (arith, small)

-- none of the rows kept has the key
new : (c : After-len) → Holds (map held_of c.self.inside.rows.items) c.args.key → ⊥
new c held = c.requires.new (subst (λ rows. Holds rows c.args.key) (ap (λ s. s.rows) c.self.view_is) held)

pub put-requires-clause-new : goal.put-requires-clause-new
put-requires-clause-new c =
    c.self.invariant.places.index.each c.args.key ∙ new-placed c.args.key (map held_of c.self.inside.rows.items) (new c)

-- the rows kept, with the new one
pushed : (c : After-push_reserved) → map held_of c.push_reserved.new.self.items ≡ added (map held_of c.self.inside.rows.items) c.args.key c.args.contract (level_number c.args.level)
pushed c = ap (map held_of) c.push_reserved.ensures.items ∙ map_push held_of c.self.inside.rows.items _

-- the new row stands after all
stood : (c : After-push_reserved) → (other : ℕ) → place_in other c.put.new.self.places.items ≡ (if nat_eq c.args.key other then Some (length (map held_of c.self.inside.rows.items)) else place_in other c.self.inside.index.places.items)
stood c other =
    let last : c.len.result ≡ length (map held_of c.self.inside.rows.items) = c.len.ensures ∙ c.self.inside.rows.ok.0 ∙ sym (length-map c.self.inside.rows.items held_of) in
    c.put.ensures.each other ∙ ap (λ n. if nat_eq c.args.key other then Some n else place_in other c.self.inside.index.places.items) last

pub invariant_of-self : goal.invariant_of-self
invariant_of-self c =
    let level = level_number c.args.level in
    let spare : c.self.inside.spare ≡ c.args.self.now.spare = ap (λ s. s.spare) c.self.view_is in
    record {
      admitted =
          AreAdmitted-added c.args.self.now _ c.args.key c.args.contract (level_number c.args.level) (subst AreAdmitted c.self.view_is c.self.invariant.admitted) c.requires.new c.burst-burst.ensures.valid c.requires.passes (ap (λ s. s.server) c.self.view_is)
          (pushed (goal.at.invariant_of-self c).After-push_reserved ∙ ap (λ s. added s.rows c.args.key c.args.contract level) c.self.view_is);
      loads = loads-added c.self.inside.rate c.self.inside.bounds (kept_rows c.self.inside.rows.items) (kept_rows c.push_reserved.new.self.items) _ c.self.inside.loads c.add_row.new.loads c.self.invariant.loads c.add_row.ensures (λ f. total-pushed f c.self.inside.rows.items c.push_reserved.new.self.items _ c.push_reserved.ensures.items);
      places = record {
        index = subst (λ rows. IsIndex rows c.put.new.self.places.items) (sym (pushed (goal.at.invariant_of-self c).After-push_reserved))
            (index-added (map held_of c.self.inside.rows.items) c.self.inside.index.places.items c.put.new.self.places.items c.args.key c.args.contract level c.self.invariant.places.index (new (goal.at.invariant_of-self c).After-len) c.put.ensures.sorted (stood (goal.at.invariant_of-self c).After-push_reserved));
        rows = (let room = c.self.invariant.places.rows in omega (arith, room, c.push_reserved.ensures.len, c.push_reserved.ensures.capacity, c.requires.spare, spare));
        places = (let room = c.self.invariant.places.places in omega (arith, room, c.put.ensures.length, c.put.ensures.capacity, c.requires.spare, spare));
      };
    }

pub returns-clause-admitted : goal.returns-clause-admitted
returns-clause-admitted c = (invariant_of-self c).admitted
