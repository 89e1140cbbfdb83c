-- A line that rises by a tick a tick never crosses, none does before it begins, and else the rest of a tick makes up for the beginning.
use Rattle.std.proofs.Common.{◌+◌, ◌-◌, subst, sym, arith}
use Rattle.rcsp_admission.specs.Lines.{one_tick, CrossesFrom}
use Rattle.rcsp_admission.proofs.LinesBelowWork.{crosses-never, crosses-flat, crosses-at}
use Rattle.rcsp_admission.proofs.lines.crossing.Goals as goal
use Rattle.rcsp_admission.proofs.lines.crossing.Goals.{then-slope-ge-ONE_TICK-via-then-slope-ge-ONE_TICK, then-slope-ge-ONE_TICK-via-else-slope-ge-ONE_TICK+then-flat-bound}

pub returns-then-slope-ge-ONE_TICK : goal.returns-then-slope-ge-ONE_TICK
returns-then-slope-ge-ONE_TICK c =
    elim c.then-slope-ge-ONE_TICK.branch [
      | then-slope-ge-ONE_TICK-via-then-slope-ge-ONE_TICK w ↦ crosses-never c.args.flat c.args.slope (c.args.bound + 1) c.requires.flat (omega arith)
      | then-slope-ge-ONE_TICK-via-else-slope-ge-ONE_TICK+then-flat-bound w ↦ crosses-flat c.args.flat c.args.slope (c.args.bound + 1) (omega arith)
    ]

pub returns : goal.returns
returns c =
    subst (CrossesFrom c.args.flat c.args.slope) (sym c.ceil_div.ensures)
    (crosses-at c.args.flat c.args.slope (one_tick - c.args.slope) (omega (arith, c.if-slope-ge-ONE_TICK.false)) (omega (arith, c.if-slope-ge-ONE_TICK.false)))
