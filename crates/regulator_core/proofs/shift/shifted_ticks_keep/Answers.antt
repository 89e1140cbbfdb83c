-- Shifted ticks are as far apart as they were.
use Rattle.regulator_core.proofs.ShiftedTicks.{Keeps-shifted_by, keeps_newest_first-shifted_by}
use Rattle.regulator_core.proofs.shift.shifted_ticks_keep.Goals as goal

pub returns-clause-fact : goal.returns-clause-fact
returns-clause-fact c = Keeps-shifted_by

pub returns-clause-newest_first : goal.returns-clause-newest_first
returns-clause-newest_first c = keeps_newest_first-shifted_by
