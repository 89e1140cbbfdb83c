use Rattle.std.proofs.Common.{◌≡◌, take, drop}
use Rattle.std.specs.Prelude.{reverse}
use Rattle.run_record.specs.SmallRows.{AreSmall}
use Rattle.trace_audit.specs.Checks.{finding_below, finding_of}
use Rattle.trace_audit.specs.Standing.{Stands}
use Rattle.trace_audit.proofs.auditing.audit.Given as goal

-- the trail is of the rows so far, and what is found below them is what is found in the table
abbrev pub invariant-loop-index : goal.invariant-loop-index
invariant-loop-index l = record {
  stands : Stands l.plan l.levels l.trail (reverse (take l.index l.table));
  small : AreSmall (drop l.index l.table);
  rest : finding_below l.plan l.levels (reverse (take l.index l.table)) (drop l.index l.table) ≡ finding_of l.plan l.levels l.table;
}
