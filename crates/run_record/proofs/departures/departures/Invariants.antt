use Rattle.std.proofs.Common.{◌≡◌, ◌++◌, List, drop}
use Rattle.link_steps.specs.Lists.{Each}
use Rattle.run_record.specs.Hops.{AreHops}
use Rattle.run_record.specs.Rows.{IsEarly, departures_in}
use Rattle.run_record.specs.declared.done.Done.{Done}
use Rattle.run_record.proofs.departures.departures.Given as goal

-- the entries left are early, and the rows so far with theirs are all
abbrev pub invariant-loop-done : goal.invariant-loop-done
invariant-loop-done l = record {
  early : Each (λ done. IsEarly done.reply) (drop l.done-index l.entries);
  rows : (run : List Done) → AreHops run l.table → l.rows.items ++ departures_in run (drop l.done-index l.entries) ≡ departures_in run l.entries;
}
