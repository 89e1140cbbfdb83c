use Rattle.std.proofs.Common.{◌≡◌, List, length}
use Rattle.run_record.specs.Hops.{AreHops}
use Rattle.run_record.specs.ToldHops.{with_hop}
use Rattle.run_record.specs.declared.done.Done.{Done}
use Rattle.run_record.proofs.KeptRows.{mapped_to}
use Rattle.run_record.proofs.hop_table.tell_hops.Given as goal

-- the rows so far have their hops
abbrev pub invariant-loop-place : goal.invariant-loop-place
invariant-loop-place l = record { long : length l.rows.items ≡ length l.initial.rows.items; told : (run : List Done) → AreHops run l.table → l.rows.items ≡ mapped_to (with_hop run) l.place l.initial.rows.items }
