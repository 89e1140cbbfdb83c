-- The link has replied, and the actor gets the reply.
use Rattle.std.proofs.Common.{refl}
use Rattle.run_engine.proofs.Keeping.NextPlaneStep.{makes-step}
use Rattle.run_engine.proofs.engine.Engine.make.Goals as goal
use Rattle.net_units.proofs.ByCases.{on-err}

pub ask_link-requires : goal.ask_link-requires
ask_link-requires c = (c.args.plan.now, c.requires.0, c.args.actor, c.requires.1)

pub take-requires : goal.take-requires
take-requires c = (c.requires.0, (c.in_ok-reply.ensures.answered c.args.plan.now c.requires.0 c.args.actor c.requires.1).due)

pub returns-clause-made : goal.returns-clause-made
returns-clause-made c = λ run about.
    let answered = c.in_ok-reply.ensures.answered c.args.plan.now run c.args.actor about in
    makes-step c.args.plan.now c.ask_link.new.self (record { links = c.ask_link.new.self.links; actors = c.take.new.self }) run _ answered refl (c.take.ensures run answered.due)

pub returns-in_err-reply-clause-memory : goal.returns-in_err-reply-clause-memory
returns-in_err-reply-clause-memory c = on-err c.from_residual.result (c.in_err-reply.ensures.memory c.args.plan.now)
