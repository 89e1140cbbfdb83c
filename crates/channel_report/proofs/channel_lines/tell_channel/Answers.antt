use Rattle.std.proofs.Common.{reverse}
use Rattle.channel_report.specs.Delays.{departures_of}
use Rattle.channel_report.specs.Channels.{established_line}
use Rattle.channel_report.proofs.channel_lines.tell_channel.Goals as goal

pub returns : goal.returns
returns g c = λ entries entry are found. c.tell_line.ensures.told (established_line (departures_of entries) (reverse entries) entry) (c.established_line-line.ensures entries entry are found)
