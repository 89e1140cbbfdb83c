use Rattle.std.proofs.Common.{◌++◌, sym, ap, ◌∙◌}
use Rattle.channel_report.specs.DelayTallies.{delay_tally_of, with_delay}
use Rattle.channel_report.proofs.FlowsKept.{delay-more}
use Rattle.channel_report.proofs.flow.Flow.deliver.Goals as goal

pub returns-in-Some-clause-delays : goal.returns-in-Some-clause-delays
returns-in-Some-clause-delays c = λ delays was.
    c.deliver.ensures ∙ ap (with_delay c.in-Some.delay) was ∙ delay-more c.in-Some.delay delays ∙ ap (λ ds. delay_tally_of (ds ++ delays)) (sym c.in-Some.ensures.some)
