use Rattle.std.proofs.Common.{◌≤◌, take}
use Rattle.run_engine.proofs.Words.{Each}
use Rattle.run_engine.specs.schedules.Resting.{RestsBy}
use Rattle.run_engine.proofs.links.ticks_at_rest.Given as goal

-- the links so far rest for so many
abbrev pub invariant-loop-link : goal.invariant-loop-link
invariant-loop-link l = record { most : l.ticks ≤ l.most; rests : 1 ≤ l.ticks → Each (RestsBy l.ticks) (take l.link-index l.links) }
