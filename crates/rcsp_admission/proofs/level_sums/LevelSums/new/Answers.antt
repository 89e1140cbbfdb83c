-- The empty list of rows passes, since the blocking is at most the first bound and so at most each. It has no load.
use Rattle.std.proofs.Common.{length, map, ap, arith}
use Rattle.rcsp_admission.specs.Kept.{held_of, kept_rows}
use Rattle.rcsp_admission.proofs.RunningLoads.{loads-none}
use Rattle.rcsp_admission.proofs.IndexFollowsRows.{index-none}
use Rattle.rcsp_admission.proofs.StaysAdmitted.{AreAdmitted-new}
use Rattle.rcsp_admission.proofs.level_sums.LevelSums.new.Goals as goal

pub invariant_of-result : goal.invariant_of-result
invariant_of-result c =
    record {
      admitted = AreAdmitted-new _ (record { bounds = c.len-levels.ensures.valid; rate = c.requires.rate; blocking = c.requires.blocking; first = c.requires.first }) (ap (map held_of) c.new.ensures.items);
      loads = loads-none c.args.rate c.args.bounds _ (ap kept_rows c.new.ensures.items) c.len-levels.ensures.valid;
      places = record { index = index-none _ _ (ap (map held_of) c.new.ensures.items) c.new-2.ensures; rows = omega (arith, ap length c.new.ensures.items); places = omega (arith, ap length c.new-2.ensures) };
    }

pub returns-clause-admitted : goal.returns-clause-admitted
returns-clause-admitted c = (invariant_of-result c).admitted
