-- The arrival is kept, and then the packet finds its own.
use Rattle.std.proofs.Common.{◌∙◌}
use Rattle.channel_report.proofs.FlowsKept.{flow-more}
use Rattle.channel_report.proofs.flow.Flow.depart.Goals as goal

pub returns : goal.returns
returns c = λ k request rows links own keeps.
    let arrived = c.in_ok-arrive.ensures in
    flow-more k request rows c.args.self.now c.deliver.new.self links c.args.link c.args.clock c.args.sent.now own keeps (c.deliver.ensures.first ∙ arrived.first) (c.deliver.ensures.last ∙ arrived.last) (c.deliver.ensures.prop ∙ arrived.prop) (c.deliver.ensures.arrivals ∙ arrived.arrivals)
    (λ delays was. rw c.deliver.ensures.arrivals (rw (arrived.last, arrived.prop) at (c.deliver.ensures.delays delays (arrived.delays ∙ was))))
