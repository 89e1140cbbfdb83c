use Rattle.packet_answers.proofs.SourceSteps.{kept-cancelled}
use Rattle.packet_answers.proofs.sources.Source.keep.Goals as goal

pub returns-in_ok-self-in-Cancels-clause-ticks : goal.returns-in_ok-self-in-Cancels-clause-ticks
returns-in_ok-self-in-Cancels-clause-ticks c = λ planned keeps.
    rw c.in-Cancels.is
    (kept-cancelled c.args.self.now.clock planned c.args.self.now.ticks.items c.in_ok-self-in-Cancels.field-0.items keeps (rw (← c.as_slice.ensures.value) c.in_ok-self-in-Cancels.ensures))
