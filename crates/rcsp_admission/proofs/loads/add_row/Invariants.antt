use Rattle.rcsp_admission.specs.Loads.{row_at}
use Rattle.net_units.specs.Numbers.{level_number}
use Rattle.rcsp_admission.proofs.RunningLoads.{AreRaisedTo}
use Rattle.rcsp_admission.proofs.loads.add_row.Given as goal

-- the levels seen so far have risen
abbrev pub invariant-loop-index : goal.invariant-loop-index
invariant-loop-index l = AreRaisedTo l.rate l.bounds (row_at l.contract (level_number l.fn.level)) l.initial.loads l.index l.loads
