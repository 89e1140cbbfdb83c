use Rattle.std.proofs.Common.{Err, ap, subst}
use Rattle.call_script.specs.Plans.{IsPlan}
use Rattle.tenet_app.proofs.WrittenAnswers.{plays-plan, plays-unread}
use Rattle.tenet_app.proofs.working.work.Goals as goal

pub returns-in-Ok-clause-plays : goal.returns-in-Ok-clause-plays
returns-in-Ok-clause-plays g c = plays-plan c.args.packets _ _ c.answer.result (c.in-Ok.plan, c.in-Ok.schedule) (subst IsPlan c.plan.view_is c.plan.invariant) c.in-Ok.ensures.told c.in-Ok.ensures.ended c.answer.ensures.answers

pub returns-in-Err-clause-plays : goal.returns-in-Err-clause-plays
returns-in-Err-clause-plays g c =
    plays-unread c.args.packets _ _ c.refuse_reading.result c.in-Err.refusal c.in-Err.ensures.told
    (λ is. c.in-Err.ensures.fault (ap Err is)) (λ is. c.in-Err.ensures.passing (ap Err is)) c.refuse_reading.ensures.tells
