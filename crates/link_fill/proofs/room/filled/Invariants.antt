use Rattle.std.proofs.Common.{◌≡◌, ◌-◌, ◌≤◌, length}
use Rattle.link_fill.specs.Fills.{with_more}
use Rattle.link_fill.proofs.room.filled.Given as goal

-- so many were added
abbrev pub invariant-loop-more : goal.invariant-loop-more
invariant-loop-more l = record {
  all : l.all.items ≡ with_more l.rows l.row l.more;
  within : l.more ≤ 1024 - length l.rows;
}

abbrev pub decreases-loop-more : goal.decreases-loop-more
decreases-loop-more l = 1024 - length l.rows - l.more
