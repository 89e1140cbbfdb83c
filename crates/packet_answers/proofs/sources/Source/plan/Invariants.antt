use Rattle.std.proofs.Common.{◌≡◌, ◌-◌, ◌++◌}
use Rattle.std.specs.Prelude.{filter}
use Rattle.channel_report.specs.ChannelTallies.{never}
use Rattle.channel_report.specs.Sources.{is_made, ticks_from}
use Rattle.packet_answers.proofs.sources.Source.plan.Given as goal

-- the ticks so far, and those left, are all
abbrev pub invariant-loop-planned : goal.invariant-loop-planned
invariant-loop-planned l = record {
  ticks : l.self.ticks.items ++ filter (is_made never) (ticks_from l.next l.gap (l.count - l._planned)) ≡ l.fn.self.ticks.items ++ filter (is_made never) (ticks_from l.fn.tick l.gap l.count);
  refused : l.self.refused ≡ l.fn.self.refused;
  clock : l.self.clock ≡ l.fn.self.clock;
}
