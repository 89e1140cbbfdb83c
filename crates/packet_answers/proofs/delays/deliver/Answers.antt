use Rattle.packet_answers.proofs.DelaySteps.{delay-more, delay-same}
use Rattle.packet_answers.proofs.delays.deliver.Goals as goal

pub returns-in-Some-clause-told : goal.returns-in-Some-clause-told
returns-in-Some-clause-told c = λ request before ends near was.
    delay-more request c.args.row.now before c.args.first.now c.in-Some.delay c.args.delays.now c.add.new.self near (c.in-Some.ensures.some request ends) c.add.ensures was

pub returns-in-None-clause-told : goal.returns-in-None-clause-told
returns-in-None-clause-told c = λ request before ends near was.
    delay-same request c.args.row.now before c.args.first.now c.args.delays.now near (c.in-None.ensures.none request ends) was
