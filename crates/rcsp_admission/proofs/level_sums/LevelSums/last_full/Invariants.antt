use Rattle.rcsp_admission.specs.Sums.{admitted_rows}
use Rattle.rcsp_admission.specs.Room.{IsLastFull, NoneBefore}
use Rattle.rcsp_admission.proofs.level_sums.LevelSums.last_full.Given as goal

-- of the levels seen so far, `full` is the last without room, and no window before `from` fits the last of them
abbrev pub invariant-loop-index : goal.invariant-loop-index
invariant-loop-index l =
    IsLastFull l.self.server (admitted_rows l.self.rows) l.contract l.index l.full × NoneBefore l.self.server (admitted_rows l.self.rows) l.contract l.index l.from
