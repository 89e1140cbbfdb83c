use Rattle.std.proofs.Common.{◌≡◌, ◌++◌, ◌-◌, ◌≤◌, drop}
use Rattle.link_steps.specs.Lists.{Each}
use Rattle.tick_plane.specs.AskedRuns.{asks_in}
use Rattle.tick_plane.specs.Coming.{IsDueBefore, IsDueFrom, Rise, rounds_in}
use Rattle.tick_plane.proofs.window.add_asked.Given as goal

-- what is asked so far, and the rounds from `made` on with the flights that haven't arrived, is what is asked in all
abbrev pub invariant-loop-flight : goal.invariant-loop-flight
invariant-loop-flight l = record {
  asked : asks_in l.asked.items ++ rounds_in l.made (l.until - l.made) (drop l.flight-index l.coming) ≡ asks_in l.initial.asked.items ++ rounds_in l.from (l.until - l.from) l.coming;
  early : l.made ≤ l.until;
  rise : Rise (drop l.flight-index l.coming);
  ahead : Each (IsDueFrom l.made) (drop l.flight-index l.coming);
  due : Each (IsDueBefore l.until) (drop l.flight-index l.coming);
}
