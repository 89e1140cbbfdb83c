use Rattle.std.proofs.Common.{refl}
use Rattle.link_steps.specs.Scan.{clock_of}
use Rattle.channel_report.specs.Sources.{planned_in, refused_in}
use Rattle.packet_answers.proofs.sources.Source.new.Goals as goal

pub returns : goal.returns
unfolding clock_of planned_in refused_in
returns c = λ number. record { clock = refl; ticks = c.new.ensures.items; refuses = refl }
