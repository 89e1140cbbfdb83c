-- The link has answered, and its reply is kept.
use Rattle.plane_workers.proofs.answering.step.Goals as goal
use Rattle.std.proofs.lemmas.Result.{on_ok_weaker}

pub returns-clause-stepped : goal.returns-clause-stepped
returns-clause-stepped g c = on_ok_weaker c.keep.result (λ kept. (c.in_ok-reply.reply, (record { same = c.in_ok-reply.ensures.same; legal = c.in_ok-reply.ensures.legal; entered = c.in_ok-reply.ensures.entered }, kept))) c.keep.ensures
