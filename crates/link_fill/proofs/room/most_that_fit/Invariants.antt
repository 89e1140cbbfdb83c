use Rattle.std.proofs.Common.{◌+◌, ◌-◌, ◌<◌, ◌≤◌, length}
use Rattle.net_units.specs.Numbers.{level_number}
use Rattle.link_fill.specs.Fills.{AllHold, OneExceeds, with_more}
use Rattle.link_fill.proofs.room.most_that_fit.Given as goal

-- so many fit, and so many don't
abbrev pub invariant-loop-fit : goal.invariant-loop-fit
invariant-loop-fit l = record {
  apart : l.fit < l.over;
  within : l.over ≤ 1024 - length l.rows + 1;
  fits : 1 ≤ l.fit → AllHold l.share (with_more l.rows l.row l.fit) (level_number l.row.level);
  full : l.over ≤ 1024 - length l.rows → OneExceeds l.share (with_more l.rows l.row l.over) (level_number l.row.level);
}

abbrev pub decreases-loop-fit : goal.decreases-loop-fit
decreases-loop-fit l = l.over - l.fit
