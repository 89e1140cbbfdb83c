use Rattle.std.proofs.Common.{reverse, take}
use Rattle.net_units.specs.Numbers.{channel_number, link_number}
use Rattle.run_record.specs.Runs.{part_of}
use Rattle.packet_answers.specs.SourceTallies.{KeepsSource}
use Rattle.packet_answers.proofs.sources.source_of.Given as goal

-- the source after the entries so far
abbrev pub invariant-loop-done : goal.invariant-loop-done
invariant-loop-done l = KeepsSource (channel_number l.chan) (part_of (link_number l.first) (reverse (take l.done-index l.entries))) l.source
