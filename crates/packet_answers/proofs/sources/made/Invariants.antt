use Rattle.std.proofs.Common.{◌≡◌, take}
use Rattle.std.specs.Prelude.{filter}
use Rattle.channel_report.specs.Sources.{is_made}
use Rattle.packet_answers.proofs.sources.made.Given as goal

-- those of the ticks so far
abbrev pub invariant-loop-tick : goal.invariant-loop-tick
invariant-loop-tick l = l.kept.items ≡ filter (is_made l.clock) (take l.tick-index l.ticks)
