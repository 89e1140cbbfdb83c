use Rattle.std.proofs.Common.{refl}
use Rattle.channel_report.specs.Delays.{least_of, worst_of}
use Rattle.channel_report.proofs.FlowsKept.{flow-begins}
use Rattle.channel_report.proofs.flow.Flow.new.Goals as goal

pub returns : goal.returns
unfolding least_of worst_of
returns c = λ k request same. flow-begins k request c.args.route.now c.hop.result c.hop-last.result c.len.result _ same c.hop.ensures.value c.len.ensures.value c.hop-last.ensures.value refl refl refl c.new.ensures.items refl
