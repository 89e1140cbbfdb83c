use Rattle.std.proofs.Common.{◌≡◌, length}
use Rattle.packet_audit.proofs.TableRows.{AreFresh}
use Rattle.packet_audit.proofs.auditing.new_trails.Given as goal

-- so many are made, each of no row
abbrev pub invariant-loop-number : goal.invariant-loop-number
invariant-loop-number l = record {
  count : length l.trails.items ≡ l._number;
  fresh : AreFresh l.trails.items;
}
