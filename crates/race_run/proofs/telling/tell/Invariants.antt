use Rattle.std.proofs.Common.{◌≡◌}
use Rattle.race_run.specs.Telling.{HasTold}
use Rattle.race_run.proofs.telling.tell.Given as goal

-- the entries with stamps so far are told
abbrev pub invariant-loop-number : goal.invariant-loop-number
invariant-loop-number g l = record {
  so_far : HasTold g.W.Watch.saw l.plan l.journals l.told.items l.items.items l.watch l.number-index;
  table : g.W.Watch.has_table l.watch ≡ g.W.Watch.has_table l.initial.watch;
}
