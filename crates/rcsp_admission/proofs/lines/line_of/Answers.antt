-- A level line stays below the work of longer windows.
use Rattle.rcsp_admission.proofs.LinesBelowWork.{flat-below, below-later}
use Rattle.rcsp_admission.proofs.lines.line_of.Goals as goal
use Rattle.std.proofs.Common.{arith}

pub returns-then-from-longest-clause-below : goal.returns-then-from-longest-clause-below
returns-then-from-longest-clause-below c = below-later 0 _ _ 0 c.args.from (omega arith) c.slope_of.ensures.below

pub returns-clause-below : goal.returns-clause-below
returns-clause-below c = flat-below c.args.rate c.args.contract.now c.work.result c.args.from c.interval.ensures.valid c.work.ensures.value
