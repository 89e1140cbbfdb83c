use Rattle.std.proofs.Common.{◌≡◌, ◌*◌, ◌≤◌, List, reverse, take}
use Rattle.channel_report.specs.Delays.{departures_of}
use Rattle.run_record.specs.declared.done.Done.{Done}
use Rattle.channel_report.specs.Findings.{AreFound}
use Rattle.channel_report.specs.Summary.{sums_of}
use Rattle.channel_report.proofs.summary.sum_up.Given as goal

-- those of the requests so far
abbrev pub invariant-loop-number : goal.invariant-loop-number
invariant-loop-number l = record {
  accepted : l.sums.accepted ≤ l.number;
  denied : l.sums.denied ≤ l.number;
  delivered : l.sums.delivered ≤ 18446744073709551616 * l.number;
  told : (entries : List Done) → AreFound l.plan entries l.findings → l.sums ≡ sums_of (departures_of entries) (reverse entries) (take l.number l.plan.requests);
}
