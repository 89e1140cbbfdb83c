use Rattle.std.proofs.Common.{arith}
use Rattle.channel_report.proofs.ChannelTallies.{fresh-sources}
use Rattle.channel_report.proofs.counts.new_tallies.Goals as goal

pub returns : goal.returns
returns c = λ requests long. fresh-sources requests c.loop-channel.tallies.items (omega (arith, long, c.loop-channel.invariant.count, c.loop-channel-test.false, c.loop-channel.auto._channel-end)) c.loop-channel.invariant.bare
