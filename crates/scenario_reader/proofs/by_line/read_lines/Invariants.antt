use Rattle.std.proofs.Common.{◌≡◌, ◌+◌, ◌-◌, ◌≤◌}
use Rattle.byte_ends.specs.Cutting.{IsCutting, IsOf}
use Rattle.scenario_reader.specs.ReadSteps.{Foretells, PassesOn, ahead}
use Rattle.scenario_reader.proofs.Passing.ReadingAhead.{at_start}
use Rattle.scenario_reader.specs.declared.reader.TheConstants.{MOST_BYTES}
use Rattle.scenario_reader.proofs.by_line.read_lines.Given as goal

-- what is ahead, after what was read, comes to what all bytes come to
abbrev pub invariant-loop-lines : goal.invariant-loop-lines
invariant-loop-lines g l =
    let left = g.S.Source.left in
    let k = g.D.TakesLines.language in
    record {
      most : l.lines.most ≡ MOST_BYTES;
      cutting : IsCutting l.lines;
      source : IsOf l.lines (left l.source);
      same : Foretells k (left l.fn.source) (ahead k l.lines l.draft (left l.source));
      passed : PassesOn k at_start l.lines k.first l.draft (left l.fn.source) (left l.source);
      counts : g.S.Source.faults l.fn.source ≤ g.S.Source.faults l.source;
    }

abbrev pub decreases-loop-lines : goal.decreases-loop-lines
decreases-loop-lines g l = MOST_BYTES + 1 - l.lines.number
